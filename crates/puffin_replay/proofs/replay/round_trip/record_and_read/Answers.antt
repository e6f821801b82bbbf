-- The session is new before the run, and so is the view; or there is no session.
use Rattle.std.proofs.Common.{map, option_map, string_bytes, subst}
use Rattle.std.proofs.lemmas.Result.{IfOk-weaker, IfErr-weaker}
use Rattle.puffin_session.specs.Session.{SessionState}
use Rattle.puffin_replay.specs.Promise.{KeepsRun, IsUnread}
use Rattle.puffin_replay.proofs.Promises.{promised, refused}
use Rattle.puffin_replay.proofs.replay.round_trip.record_and_read.Goals as goal

pub returns-in-Ok-clause-promise : goal.returns-in-Ok-clause-promise
returns-in-Ok-clause-promise c =
    let limits = c.args.limits in
    let threads = map (λ t. (string_bytes t.0, t.1)) c.args.threads.items in
    let end = c.record_session_and_read.new.session in
    let old = c.limited_view-view.result in
    let new = c.record_session_and_read.new.view in
    IfOk-weaker c.record_session_and_read.result _ _
    (λ recording keeps.
    promised threads c.args.commands.now limits.max_recent limits.max_slow limits.packs old new
    c.limited_view-view.ensures.frames end recording.replies.items recording.view
    (subst (λ (s : SessionState). KeepsRun s end c.args.commands.now old new recording.replies.items recording.view)
    c.in-Ok.ensures.new keeps))
    c.record_session_and_read.ensures.promise

pub returns-in-Ok-clause-refusal : goal.returns-in-Ok-clause-refusal
returns-in-Ok-clause-refusal c =
    let limits = c.args.limits in
    let threads = map (λ t. (string_bytes t.0, t.1)) c.args.threads.items in
    let end = c.record_session_and_read.new.session in
    let old = c.limited_view-view.result in
    let new = c.record_session_and_read.new.view in
    IfErr-weaker c.record_session_and_read.result _ _
    (λ e unread.
    refused threads c.args.commands.now limits.max_recent limits.max_slow limits.packs old new
    c.limited_view-view.ensures.frames end e.fault (option_map (λ rs. rs.items) e.replies)
    (subst
    (λ (s : SessionState). IsUnread s end c.args.commands.now old new e.fault
    (option_map (λ rs. rs.items) e.replies)) c.in-Ok.ensures.new unread))
    c.record_session_and_read.ensures.refusal
