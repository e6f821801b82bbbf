-- The run is the one that was made, and what is read is what its view has.
use Rattle.std.proofs.Common.{refl, inl, inr}
use Rattle.std.proofs.lemmas.Result.{err_from_is_err_and}
use Rattle.puffin_replay.proofs.Promises.{file_fault}
use Rattle.puffin_replay.proofs.replay.round_trip.record_session_and_read.Goals as goal

pub returns-in_err-replies-clause-refusal : goal.returns-in_err-replies-clause-refusal
returns-in_err-replies-clause-refusal c =
    let p = err_from_is_err_and c.from_residual.result c.from_residual.ensures.1 in
    rw (p.1, p.2)
    (elim c.in_err-replies.ensures.refusal [
      | inl none ↦ inl none
      | inr some ↦ inr (inl some)
    ])

pub returns-in-Err-clause-refusal : goal.returns-in-Err-clause-refusal
returns-in-Err-clause-refusal c =
    let ran = c.in_ok-replies.ensures.taken in
    inr
    (inr (
      c.in_ok-replies.replies.items,
      refl,
      ran.run,
      ran.view,
      ran.took,
      file_fault c.args.view.now c.run_into.new.view c.in-Err.fault ran.ids c.in-Err.ensures.fault,
    ))
