-- Each frame that is given is unpacked and added. A file has fewer frames than bytes, so the counter never reaches its end.
use Rattle.std.proofs.Common.{◌≡◌, List, [], ◌∷◌, ◌++◌, ◌^◌, ◌-◌, ◌<◌, length, sym, ◌∙◌, inr, arith, length-append}
use Rattle.std.proofs.lemmas.Result.{err_from_is_err_and}
use Rattle.std.specs.Prelude.{Option}
use Rattle.puffin_frames.specs.declared.frame_data.frame.FrameData.{FrameData}
use Rattle.puffin_frames.specs.Packet.Stored.{Stored}
use Rattle.puffin_frames.specs.Packet.Next.{stored_of}
use Rattle.puffin_c.proofs.GivenFrames.{few_frames, no_io}
use Rattle.puffin_c.proofs.ThreadsCounted.{opened_fresh, opened_more, totals_more, not_added}
use Rattle.puffin_c.proofs.threads.totals_in.Goals as goal

pub returns-in_err-frame-clause-err : goal.returns-in_err-frame-clause-err
returns-in_err-frame-clause-err c =
    let (_, is_err, same_cause) = err_from_is_err_and c.from_residual-in_err-frame.result c.from_residual-in_err-frame.ensures.1 in
    let (stored, opened, given, are_opened, are_totals, counted) = c.frames.invariant in
    let few = few_frames _ _ stored given in
    let short : length stored < 2 ^ 64 - 1 = omega arith in
    let not_io = no_io (Option FrameData) _ c.in_err-frame.ensures.failures in
    rw is_err (inr (inr (_, _, same_cause, not_io, c.in_err-frame.ensures.fault _ stored given short)))

pub returns-in_default-clause-ok : goal.returns-in_default-clause-ok
returns-in_default-clause-ok c =
    let (stored, opened, given, are_opened, are_totals, counted) = c.frames.invariant in
    let few = few_frames _ _ stored given in
    let short : length stored < 2 ^ 64 - 1 = omega arith in
    (_, stored, opened, (rw c.in_default.is at c.in_ok-frame.ensures.end) _ stored given short, are_opened, are_totals)

pub returns-in_err-add_packed-clause-err : goal.returns-in_err-add_packed-clause-err
returns-in_err-add_packed-clause-err c =
    let (_, is_err, same_cause) = err_from_is_err_and c.from_residual-in_err-add_packed.result
    c.from_residual-in_err-add_packed.ensures.1 in
    let (stored, opened, given, are_opened, are_totals, counted) = c.frames.invariant in
    rw is_err (not_added _ _ stored opened c.in-Some.frame c.in_err-add_packed.field-0.0 _ same_cause
    ((rw c.in-Some.is at c.in_ok-frame.ensures.given) _ stored given) are_opened
    (rw c.in-Some.is at c.in_ok-frame.ensures.fresh) c.in_err-add_packed.ensures.err)

pub frames-preserved : goal.frames-preserved
frames-preserved c =
    let (stored, opened, given, are_opened, are_totals, counted) = c.frames.invariant in
    let one : List Stored = stored_of c.in-Some.frame ∷ [] in
    let (frame, unpacked, added) = c.in_ok-add_packed.ensures.ok in (
      stored ++ one,
      opened ++ frame ∷ [],
      (rw c.in-Some.is at c.in_ok-frame.ensures.given) _ stored given,
      opened_more stored opened _ frame are_opened
          (sym (opened_fresh c.in-Some.frame (rw c.in-Some.is at c.in_ok-frame.ensures.fresh)) ∙ unpacked),
      totals_more opened frame _ _ are_totals added,
      omega (arith, length-append stored one, counted),
    )

pub returns-clause-err : goal.returns-clause-err
returns-clause-err c =
    let (stored, opened, given, are_opened, are_totals, counted) = c.frames.invariant in
    let few = few_frames _ _ stored given in
    let short : length stored < 2 ^ 64 - 1 = omega arith in
    let all : length stored ≡ 2 ^ 64 - 1 = omega (arith, counted, c.frames-test.false, c.frames.auto.counter-end) in
    absurd (omega (arith, short, all))
