-- If the commands weren't run, or not all frames were taken, nothing was written; else only a prefix of the file.
use Rattle.std.proofs.Common.{inr}
use Rattle.std.proofs.lemmas.Result.{err_from_is_err_and}
use Rattle.puffin_replay.proofs.Recording.{not_written}
use Rattle.puffin_replay.proofs.replay.recording.record_session.Goals as goal

pub returns-in-Err-clause-broken : goal.returns-in-Err-clause-broken
returns-in-Err-clause-broken g c =
    not_written c.args.session.now c.run_into.new.session c.args.commands.now c.args.view.now c.run_into.new.view
    (g.D.Drain.contents c.args.drain.now) c.in-Err.unread.fault _ c.in-Err.ensures.refusal

pub returns-in_err-write-clause-broken : goal.returns-in_err-write-clause-broken
returns-in_err-write-clause-broken g c =
    let p = err_from_is_err_and c.from_residual.result c.from_residual.ensures.1 in
    let ran = c.in-Ok.ensures.taken in
    rw (p.1, p.2)
    (inr
    (inr (
      c.in-Ok.replies.items,
      ran.run.run,
      ran.view,
      c.in_err-write.ensures.begun,
      c.in_err-write.ensures.cause,
      ran.took,
    )))
