-- What was parsed is honest for the forest that the stream spells.
use Rattle.std.proofs.Common.{◌∙◌, ap}
use Rattle.puffin_data.specs.Stream.{StreamState}
use Rattle.puffin_threads.specs.Thread.ThreadKey.{key_of}
use Rattle.puffin_session.proofs.SessionCloses.{Accepts-from, Refuses-from}
use Rattle.puffin_session.proofs.session.Session.report_user.Goals as goal

pub returns-clause-ok : goal.returns-clause-ok
returns-clause-ok c =
    let parsed = c.in_ok-times.ensures in
    let (forest, honest) = parsed.honest in
    Accepts-from _ _ _ _ _ _ _ forest _ _ _ c.self.view_is honest
    (ap (λ (s : StreamState). s.form) parsed.same ∙ c.in_ok-clone.ensures.form)
    (ap (λ (s : StreamState). s.bytes) parsed.same ∙ c.in_ok-clone.ensures.ok) c.as_stream_into_ref.ensures
    c.in_ok-info.ensures.ok c.report_user_scopes.ensures.ok

pub returns-clause-cause : goal.returns-clause-cause
returns-clause-cause c =
    let parsed = c.in_ok-times.ensures in
    let (forest, honest) = parsed.honest in
    Refuses-from _ _ _ _ (key_of c.in_ok-info.info) _ _ forest _ _ _ c.self.view_is honest
    (ap (λ (s : StreamState). s.form) parsed.same ∙ c.in_ok-clone.ensures.form)
    (ap (λ (s : StreamState). s.bytes) parsed.same ∙ c.in_ok-clone.ensures.ok) c.as_stream_into_ref.ensures
    c.in_ok-info.ensures.ok c.report_user_scopes.ensures.err
