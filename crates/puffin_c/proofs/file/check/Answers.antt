-- The frames that were given are counted. A file has fewer frames than bytes, so the counter never reaches its end.
use Rattle.std.proofs.Common.{◌≡◌, ℕ, List, [], ◌∷◌, ◌++◌, ◌^◌, ◌-◌, ◌<◌, length, refl, sym, ◌∙◌, subst, inr, arith, length-append}
use Rattle.std.proofs.lemmas.Result.{err_from_is_err_and}
use Rattle.std.specs.Prelude.{Some, Option}
use Rattle.puffin_frames.specs.declared.frame_data.frame.FrameData.{FrameData}
use Rattle.puffin_frames.specs.Packet.Stored.{Stored}
use Rattle.puffin_frames.specs.Packet.Next.{stored_of}
use Rattle.puffin_view.specs.View.FrameFile.{HasGiven}
use Rattle.puffin_c.proofs.GivenFrames.{few_frames, end_given, no_io}
use Rattle.puffin_c.proofs.file.check.Goals as goal

pub frames-init : goal.frames-init
frames-init c =
    let given = subst (λ (bs : List ℕ). HasGiven (Some bs) (Some c.read_magic-begun.new.source.unread.now) [])
    c.new-source.ensures c.in_ok-begun.ensures.begun in
    ([], given, refl, refl, end_given _ _ _ _ given c.offset_in.ensures)

pub returns-in_err-_frame : goal.returns-in_err-_frame
returns-in_err-_frame c =
    let (_, is_err, same_cause) = err_from_is_err_and c.from_residual-in_err-_frame.result c.from_residual-in_err-_frame.ensures.1 in
    let (stored, given, counted, told, ends) = c.frames.invariant in
    let few = few_frames _ _ stored given in
    let short : length stored < 2 ^ 64 - 1 = omega arith in
    rw is_err (
      _,
      _,
      same_cause,
      no_io (Option FrameData) _ c.in_err-_frame.ensures.failures,
      c.in_err-_frame.ensures.fault _ stored given short,
      inr (_, stored, record { given = given; end = ends }, told ∙ sym counted, c.in_err-_frame.ensures.next),
      c.offset_in-in-frames.ensures,
    )

pub returns-in_default : goal.returns-in_default
returns-in_default c =
    let (stored, given, counted, told, ends) = c.frames.invariant in
    let few = few_frames _ _ stored given in
    let short : length stored < 2 ^ 64 - 1 = omega arith in
    let took = (rw c.in_default.is at c.in_ok-_frame.ensures.end) _ stored given short in
    (_, stored, _, took, record { given = given; end = ends }, told ∙ sym counted, c.offset_in-in-frames.ensures)

pub frames-preserved : goal.frames-preserved
frames-preserved c =
    let (stored, given, counted, told, ends) = c.frames.invariant in
    let one : List Stored = stored_of c.in-Some._frame ∷ [] in
    let one_more = (rw c.in-Some.is at c.in_ok-_frame.ensures.given) _ stored given in (
      stored ++ one,
      one_more,
      omega (arith, length-append stored one, counted),
      omega (arith, told),
      end_given _ _ _ _ one_more c.offset_in-in-frames.ensures,
    )

pub returns : goal.returns
returns c =
    let (stored, given, counted, told, ends) = c.frames.invariant in
    let few = few_frames _ _ stored given in
    let short : length stored < 2 ^ 64 - 1 = omega arith in
    let all : length stored ≡ 2 ^ 64 - 1 = omega (arith, counted, c.frames-test.false, c.frames.auto.counter-end) in
    absurd (omega (arith, short, all))
