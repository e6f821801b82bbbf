-- The recording is that of the new session; without memory for a session, nothing was run.
use Rattle.std.proofs.Common.{refl, subst, inl}
use Rattle.std.proofs.lemmas.Result.{IfOk-weaker, IfErr-weaker, err_from_is_err_and}
use Rattle.puffin_replay.specs.Program.Recording.{session_named, IsRecorded, IsBroken}
use Rattle.puffin_session.specs.Session.{SessionState}
use Rattle.puffin_report.proofs.lemmas.WrittenLines.{nothing_written}
use Rattle.puffin_replay.proofs.replay.recording.record.Goals as goal

pub returns-clause-recorded : goal.returns-clause-recorded
returns-clause-recorded g c =
    let end = c.record_session.new.session in
    let commands = c.args.commands.now in
    let old = c.args.view.now in
    let new = c.record_session.new.view in
    let before = g.D.Drain.contents c.args.drain.now in
    let after = g.D.Drain.contents c.record_session.new.drain in
    IfOk-weaker c.record_session.result _ _
    (λ replies recorded. (
      end,
      subst (λ (start : SessionState). IsRecorded start end commands replies.items old new before after)
          c.in_ok-session.ensures.new recorded,
    ))
    c.record_session.ensures.recorded

pub returns-clause-broken : goal.returns-clause-broken
returns-clause-broken g c =
    let end = c.record_session.new.session in
    let commands = c.args.commands.now in
    let old = c.args.view.now in
    let new = c.record_session.new.view in
    let before = g.D.Drain.contents c.args.drain.now in
    let after = g.D.Drain.contents c.record_session.new.drain in
    IfErr-weaker c.record_session.result _ _
    (λ fault broken. (
      end,
      subst (λ (start : SessionState). IsBroken start end commands old new before after fault)
          c.in_ok-session.ensures.new broken,
    ))
    c.record_session.ensures.broken

pub returns-in_err-session-clause-broken : goal.returns-in_err-session-clause-broken
returns-in_err-session-clause-broken g c =
    let p = err_from_is_err_and c.from_residual.result c.from_residual.ensures.1 in
    let nothing = nothing_written (g.D.Drain.contents c.args.drain.now) in
    rw (p.1, p.2, c.in_err-session.ensures.memory)
    (session_named c.args.names.items, inl (refl, refl, record { taken = refl; details = refl }, nothing))
