-- Each command that is accepted, and each that is refused, continues every history of the session.
use Rattle.std.proofs.Common.{ℕ, List, ◌∙◌, ap, subst, ℤ, rules, w64, String, Global}
use Rattle.std.proofs.lemmas.Int.{to_z-of_z}
use Rattle.std.proofs.lemmas.Result.{err_from_is_err_and}
use Rattle.puffin_data.specs.Text.{cut_text}
use Rattle.puffin_threads.specs.Thread.Calls.{after_begin, begun_place, clock_time}
use Rattle.puffin_session.specs.declared.command.Command.TheVariants.{End}
use Rattle.puffin_session.specs.inner.Serving.{session_thread, session_with_thread, EndsInnermost}
use Rattle.puffin_session.proofs.Serving.{Continues-handed, Continues-taken, Continues-added, Continues-not_added, Continues-wanted, Continues-not_framed, same}
use Rattle.puffin_session.proofs.ServingThreads.{Continues-began, Continues-ended, Continues-registered}
use Rattle.puffin_session.proofs.Refusals.{Continues-not_registered, Continues-not_begun, Continues-not_ended, Continues-not_reported}
use Rattle.puffin_session.specs.Session.Actions.{user_details}
use Rattle.puffin_collector.specs.Collector.Registering.{Adds, AddsSome}
use Rattle.puffin_session.proofs.SessionCloses.{wanted-from}
use Rattle.puffin_session.proofs.session.Session.accept.Goals as goal

pub returns-in_ok-begin-in-Begin-clause-accepted : goal.returns-in_ok-begin-in-Begin-clause-accepted
returns-in_ok-begin-in-Begin-clause-accepted c =
    let (within, is_after, placed) = c.in_ok-begin-in-Begin.ensures.ok in
    let now = c.args.self.now in
    let t = c.in-Begin.thread in
    let at = to_z-of_z w64 c.in-Begin.at (search rules) in
    let text = c.as_str.ensures.value in
    let begun = λ (bytes : List ℕ) (time : ℤ). session_with_thread now t
    (after_begin (session_thread now t) c.in-Begin.id (cut_text (session_thread now t).form bytes) (clock_time time))
    now.collected in
    same now c.begin.new.self _ _ _ _ c.in-Begin.is (is_after ∙ (λ i. begun (text i) (at i)))
    (Continues-began now t c.in-Begin.at c.in-Begin.id c.in-Begin.text c.in_ok-begin-in-Begin.field-0 within
    (placed ∙ ap (begun_place (session_thread now t)) text))

pub returns-in_err-begin-in-Begin-clause-refused : goal.returns-in_err-begin-in-Begin-clause-refused
returns-in_err-begin-in-Begin-clause-refused c =
    let (_, is_err, same_cause) = err_from_is_err_and c.from_residual.result c.from_residual.ensures.1 in
    let refused = c.in_err-begin-in-Begin.ensures in
    rw (is_err, same_cause)
    (same c.args.self.now c.begin.new.self _ _ _ _ c.in-Begin.is refused.err
    (Continues-not_begun c.args.self.now c.in-Begin.thread c.in-Begin.at c.in-Begin.id c.in-Begin.text
    c.in_err-begin-in-Begin.field-0.0 refused.cause))

pub returns-in_ok-end-in-End-clause-accepted : goal.returns-in_ok-end-in-End-clause-accepted
returns-in_ok-end-in-End-clause-accepted c =
    let (within, innermost, is_after, closes) = c.in_ok-end-in-End.ensures.ok in
    let now = c.args.self.now in
    let t = c.in-End.thread in
    let at = to_z-of_z w64 c.in-End.at (search rules) in
    let ends =
    subst
    (λ (x : ℤ). EndsInnermost (session_thread now t) (session_thread c.end.new.self t) (clock_time x)
    now.collected c.end.new.self.collected c.in_ok-end-in-End.field-0) at closes in
    same now c.end.new.self _ _ _ _ (c.in-End.is ∙ ap (End t c.in-End.at) innermost) is_after
    (Continues-ended now t c.in-End.at within (session_thread c.end.new.self t) c.end.new.self.collected
    c.in_ok-end-in-End.field-0 c.in_ok-end-in-End.ensures.ids ends)

pub returns-in_err-end-in-End-clause-refused : goal.returns-in_err-end-in-End-clause-refused
returns-in_err-end-in-End-clause-refused c =
    let (_, is_err, same_cause) = err_from_is_err_and c.from_residual-in_err-end-in-End.result
    c.from_residual-in_err-end-in-End.ensures.1 in
    let refused = c.in_err-end-in-End.ensures in
    rw (is_err, same_cause)
    (same c.args.self.now c.end.new.self _ _ _ _ c.in-End.is refused.err
    (Continues-not_ended c.args.self.now c.in-End.thread c.in-End.at c.in-End.back c.in_err-end-in-End.field-0.0
    refused.cause))

pub returns-in_ok-report_user-in-ReportUser-clause-accepted : goal.returns-in_ok-report_user-in-ReportUser-clause-accepted
returns-in_ok-report_user-in-ReportUser-clause-accepted c =
    let (facts, forest, honest, in_form, read, accepts, is_after) = c.in_ok-report_user-in-ReportUser.ensures.ok in
    same c.args.self.now c.report_user.new.self _ _ _ _ c.in-ReportUser.is is_after
    (Continues-handed c.args.self.now c.report_user.new.self.collected c.in-ReportUser.info c.in-ReportUser.stream
    facts forest honest in_form read accepts)

pub returns-in_err-report_user-in-ReportUser-clause-refused : goal.returns-in_err-report_user-in-ReportUser-clause-refused
returns-in_err-report_user-in-ReportUser-clause-refused c =
    let (_, is_err, same_cause) =
    err_from_is_err_and c.from_residual-in_err-report_user-in-ReportUser.result
    c.from_residual-in_err-report_user-in-ReportUser.ensures.1 in
    let refused = c.in_err-report_user-in-ReportUser.ensures in
    rw (is_err, same_cause)
    (same c.args.self.now c.report_user.new.self _ _ _ _ c.in-ReportUser.is refused.err
    (Continues-not_reported c.args.self.now c.in-ReportUser.info c.in-ReportUser.stream
    c.in_err-report_user-in-ReportUser.field-0.0 refused.cause))

pub returns-in_ok-frame-in-NewFrame-clause-accepted : goal.returns-in_ok-frame-in-NewFrame-clause-accepted
returns-in_ok-frame-in-NewFrame-clause-accepted c =
    let (not_last, is_after, collects) = c.in_ok-frame-in-NewFrame.ensures.ok in
    same c.args.self.now c.new_frame.new.self _ _ _ _ c.in-NewFrame.is is_after
    (Continues-taken c.args.self.now c.new_frame.new.self.collected c.in_ok-frame-in-NewFrame.frame not_last collects)

pub returns-in_err-frame-in-NewFrame-clause-refused : goal.returns-in_err-frame-in-NewFrame-clause-refused
returns-in_err-frame-in-NewFrame-clause-refused c =
    let (_, is_err, same_cause) = err_from_is_err_and c.from_residual-in_err-frame-in-NewFrame.result
    c.from_residual-in_err-frame-in-NewFrame.ensures.1 in
    let (is_after, keeps) = c.in_err-frame-in-NewFrame.ensures.err in
    rw (is_err, same_cause)
    (same c.args.self.now c.new_frame.new.self _ _ _ _ c.in-NewFrame.is is_after
    (Continues-not_framed c.args.self.now c.new_frame.new.self.collected c.in_err-frame-in-NewFrame.field-0.0
    keeps))

pub returns-in_ok-register-in-Register-clause-accepted : goal.returns-in_ok-register-in-Register-clause-accepted
returns-in_ok-register-in-Register-clause-accepted c =
    let (within, is_after) = c.in_ok-register-in-Register.ensures.ok in
    same c.args.self.now c.register.new.self _ _ _ _ c.in-Register.is is_after
    (Continues-registered c.args.self.now c.in-Register.thread c.in-Register.name c.in-Register.function
    c.in-Register.file c.in-Register.line c.in_ok-register-in-Register.field-0 within)

pub returns-in_err-register-in-Register-clause-refused : goal.returns-in_err-register-in-Register-clause-refused
returns-in_err-register-in-Register-clause-refused c =
    let (_, is_err, same_cause) = err_from_is_err_and c.from_residual-in_err-register-in-Register.result
    c.from_residual-in_err-register-in-Register.ensures.1 in
    let refused = c.in_err-register-in-Register.ensures in
    rw (is_err, same_cause)
    (same c.args.self.now c.register.new.self _ _ _ _ c.in-Register.is refused.err
    (Continues-not_registered c.args.self.now c.in-Register.thread c.in-Register.name c.in-Register.function
    c.in-Register.file c.in-Register.line c.in_err-register-in-Register.field-0.0 refused.cause))

pub returns-in_ok-ids-in-RegisterUser-clause-accepted : goal.returns-in_ok-ids-in-RegisterUser-clause-accepted
returns-in_ok-ids-in-RegisterUser-clause-accepted c =
    let registered = c.in_ok-ids-in-RegisterUser.ensures in
    let now = c.args.self.now in
    let new = c.register_user.new.self in
    let adds =
    subst
    (λ (names : List (String Global)). Adds now.collected (user_details names)
    c.in_ok-ids-in-RegisterUser.ids.items new.collected) c.deref.ensures.value registered.ok in
    same now new _ _ _ _ c.in-RegisterUser.is registered.threads
    (Continues-added now new.collected c.in-RegisterUser.names c.in_ok-ids-in-RegisterUser.ids adds)

pub returns-in_err-ids-in-RegisterUser-clause-refused : goal.returns-in_err-ids-in-RegisterUser-clause-refused
returns-in_err-ids-in-RegisterUser-clause-refused c =
    let (_, is_err, same_cause) = err_from_is_err_and c.from_residual-in_err-ids-in-RegisterUser.result
    c.from_residual-in_err-ids-in-RegisterUser.ensures.1 in
    let registered = c.in_err-ids-in-RegisterUser.ensures in
    let now = c.args.self.now in
    let new = c.register_user.new.self in
    let adds =
    subst
    (λ (names : List (String Global)). AddsSome now.collected (user_details names)
    c.in_err-ids-in-RegisterUser.field-0.0 new.collected) c.deref.ensures.value registered.err in
    rw (is_err, same_cause)
    (same now new _ _ _ _ c.in-RegisterUser.is registered.threads
    (Continues-not_added now new.collected c.in-RegisterUser.names c.in_err-ids-in-RegisterUser.field-0.0 adds))

pub returns-in-Snapshot-clause-accepted : goal.returns-in-Snapshot-clause-accepted
returns-in-Snapshot-clause-accepted c =
    same c.args.self.now _ _ _ _ _ c.in-Snapshot.is
    (wanted-from c.args.self.now _ _ c.self.view_is c.emit_scope_snapshot.ensures) (Continues-wanted c.args.self.now)
