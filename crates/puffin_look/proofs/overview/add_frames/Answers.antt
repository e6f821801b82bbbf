-- The overview is that of the frames that were read.
use Rattle.std.proofs.Common.{List, [], ◌∷◌, ◌++◌, inr, ◌∙◌, arith, length-append}
use Rattle.std.proofs.lemmas.Result.{err_from_is_err_and}
use Rattle.puffin_frames.specs.Packet.Stored.{Stored}
use Rattle.puffin_frames.specs.Packet.Next.{stored_of}
use Rattle.puffin_look.proofs.FirstRead.{not_begun, overview_more, stops_at, too_many}
use Rattle.puffin_look.proofs.overview.add_frames.Goals as goal

pub returns-in_err-read_magic-clause-read : goal.returns-in_err-read_magic-clause-read
returns-in_err-read_magic-clause-read g c =
    let (cause, is_err, same_cause) = err_from_is_err_and c.from_residual.result c.from_residual.ensures.1 in
    rw (is_err, same_cause) (inr (not_begun _ _ _ _ c.requires.none c.in_err-read_magic.ensures.err))

pub returns-in_err-frame-clause-read : goal.returns-in_err-frame-clause-read
returns-in_err-frame-clause-read g c =
    let (cause, is_err, same_cause) = err_from_is_err_and c.from_residual-in_err-frame.result c.from_residual-in_err-frame.ensures.1 in
    let before = c.frames.invariant in
    rw (is_err, same_cause) (inr (stops_at _ _ _ _ before.stored before.given before.read _ c.in_err-frame.ensures.next))

pub frames-preserved : goal.frames-preserved
frames-preserved g c =
    let before = c.frames.invariant in
    let frame = c.in-Some.frame in
    let one : List Stored = stored_of frame ∷ [] in
    let given = (rw c.in-Some.is at c.in_ok-frame.ensures.given) _ before.stored before.given in
    let fresh = rw c.in-Some.is at c.in_ok-frame.ensures.fresh in record {
      stored = before.stored ++ one;
      given = given;
      read = overview_more _ _ frame before.stored fresh before.read c.in_ok-add.ensures.ok;
      count = omega (arith, length-append before.stored one, before.count);
      failures = c.in_ok-frame.ensures.failures ∙ before.failures;
    }

pub returns-clause-read : goal.returns-clause-read
returns-clause-read g c =
    let before = c.frames.invariant in
    inr (too_many _ _ _ _ before.stored before.given before.read (omega (arith, before.count, c.frames-test.false)))
