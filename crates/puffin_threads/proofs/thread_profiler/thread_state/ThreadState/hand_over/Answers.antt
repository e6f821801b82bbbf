-- Once all scopes have ended, the completed info is an honest record of the thread's word. After a refusal the thread is as before, and
-- after an accepted report its stream is empty.
use Rattle.std.proofs.Common.{rules, ◌≡◌, ℤ, Option, List, w64, FitsSigned, ◌∙◌, ◌+◌, ap, sym, subst, length, arith, string_bytes}
use Rattle.std.proofs.lemmas.Int.{to_z-of_z}
use Rattle.std.proofs.lemmas.Result.{err_from_is_err_and}
use Rattle.puffin_data.specs.Honesty.{StreamFacts, AreHonestFacts, facts_of}
use Rattle.puffin_data.specs.Forest.Words.{open_after}
use Rattle.puffin_threads.specs.Thread.Closing.{IsReportOf}
use Rattle.puffin_threads.specs.Details.{Details, details_seen}
use Rattle.puffin_threads.specs.Thread.ThreadKey.{ThreadKey}
use Rattle.puffin_threads.specs.Thread.Calls.{Thread, key_of_thread}
use Rattle.puffin_threads.specs.inner.FirstStart.{first_open, start_in, completed_info}
use Rattle.std.specs.Option.{option_or}
use Rattle.puffin_data.specs.declared.data.info.StreamInfo.{StreamInfo}
use Rattle.puffin_threads.proofs.FirstStarts.{or_none}
use Rattle.puffin_threads.specs.Thread.Events.{events_in}
use Rattle.puffin_threads.proofs.EndedStates.{report_in, first_in, told_first, completed_in}
use Rattle.puffin_threads.proofs.ThreadStates.{cleared_in, none_in, none_innermost, none_open_in, same_thread, stays_supplied}
use Rattle.puffin_threads.proofs.thread_profiler.thread_state.ThreadState.hand_over.Goals as goal

-- what was answered to a report is the same of equal parts
told_so :
    {i j : ThreadKey} {ds es : List Details} {r s : StreamFacts} (P : ThreadKey → List Details → StreamFacts → Type 0) →
    i ≡ j → ds ≡ es → r ≡ s → P i ds r →
    P j es s
told_so P has_same_key same_details same_facts p =
    subst (λ (t : ThreadKey × (List Details × StreamFacts)). P t.0 t.1.0 t.1.1)
    (λ k. (has_same_key k, (same_details k, same_facts k))) p

pub report-requires : goal.report-requires
report-requires g c =
    let fits : FitsSigned w64 c.self.inside.latest = search rules in
    let set : c.complete.new.info ≡ completed_info c.self.inside.info c.self.inside.latest =
    c.complete.ensures.info ∙ ap (completed_info c.self.inside.info) (to_z-of_z w64 c.self.inside.latest fits) in
    let none = ap (λ (t : Thread). open_after 0 t.word) c.self.view_is ∙ c.requires.none_open in
    let report = report_in c.self.inside c.complete.new.info c.self.invariant none set in (
      report.forest,
      subst (λ (info : StreamFacts). AreHonestFacts info report.forest) (sym c.as_stream_into_ref.ensures) report.honest,
    )

pub returns-in_err-report-clause-err : goal.returns-in_err-report-clause-err
returns-in_err-report-clause-err g c =
    let fits : FitsSigned w64 c.self.inside.latest = search rules in
    let set : c.complete.new.info ≡ completed_info c.self.inside.info c.self.inside.latest =
    c.complete.ensures.info ∙ ap (completed_info c.self.inside.info) (to_z-of_z w64 c.self.inside.latest fits) in
    let none = ap (λ (t : Thread). open_after 0 t.word) c.self.view_is ∙ c.requires.none_open in
    let told =
    subst (λ (t : Thread). IsReportOf t (facts_of c.complete.new.info)) c.self.view_is
    (report_in c.self.inside c.complete.new.info c.self.invariant none set) in
    let failed = err_from_is_err_and c.from_residual.result c.from_residual.ensures.1 in
    let first : c.complete.new.first ≡ c.args.self.now.first_start =
    c.complete.ensures.first
    ∙ first_in c.self.inside c.self.invariant
    ∙ ap (λ (t : Thread). t.first_start) c.self.view_is in
    let same : (record { start = c.complete.new.first; name = string_bytes c.args.name })
    ≡ key_of_thread c.args.self.now =
    λ i. record { start = first i; name = c.requires.name i } in
    rw (failed.1, failed.2) (
      same_thread _ _ (ap (λ (t : Thread). t.name) c.self.view_is)
          (ap (λ (i : StreamInfo). i.stream.form) set ∙ ap (λ (t : Thread). t.form) c.self.view_is)
          (ap (λ (x : Option ℤ). option_or x
          (first_open (events_in c.complete.new.info.stream.form c.complete.new.info.stream.bytes)))
          c.complete.ensures.first
          ∙ ap (λ (i : StreamInfo). option_or
          (option_or c.self.inside.first_start (start_in c.self.inside.info.stream.bytes))
          (first_open (events_in i.stream.form i.stream.bytes))) set
          ∙ told_first c.self.inside c.self.invariant
          ∙ ap (λ (t : Thread). t.first_start) c.self.view_is)
          (ap (λ (t : Thread). t.latest) c.self.view_is)
          (ap (λ (i : StreamInfo). events_in i.stream.form i.stream.bytes) set
          ∙ ap (λ (t : Thread). t.word) c.self.view_is) (ap (λ (t : Thread). t.details) c.self.view_is),
      (
        facts_of c.complete.new.info,
        told,
        told_so (λ i d x. g.R.Reporter.refuses c.args.reporter.now i d x c.in_err-report.field-0.0 c.report.new.self) same
            (ap details_seen c.deref.ensures.value ∙ ap (λ (t : Thread). t.details) c.self.view_is)
            c.as_stream_into_ref.ensures c.in_err-report.ensures.err,
      ),
    )

pub invariant_of-self : goal.invariant_of-self
invariant_of-self g c =
    let fits : FitsSigned w64 c.self.inside.latest = search rules in
    completed_in c.self.inside c.complete.new.info c.complete.new.first c.self.invariant
    (c.complete.ensures.info ∙ ap (completed_info c.self.inside.info) (to_z-of_z w64 c.self.inside.latest fits))

pub invariant_of-self-2 : goal.invariant_of-self-2
invariant_of-self-2 g c =
    let valid = c.self.invariant in
    let none = ap (λ (t : Thread). open_after 0 t.word) c.self.view_is ∙ c.requires.none_open in
    let fits : FitsSigned w64 c.self.inside.latest = search rules in
    let set : c.complete.new.info ≡ completed_info c.self.inside.info c.self.inside.latest =
    c.complete.ensures.info ∙ ap (completed_info c.self.inside.info) (to_z-of_z w64 c.self.inside.latest fits) in
    cleared_in _ valid.latest c.clear.ensures.honest (none_open_in c.self.inside valid none)
    (none_innermost c.self.inside valid (none_open_in c.self.inside valid none))
    (stays_supplied c.self.inside.supply c.self.inside.info.stream _
    (omega (arith, ap (λ (i : StreamInfo). length i.stream.bytes + i.stream.room) set, c.clear.ensures.room))
    valid.supplied) valid.spare

pub returns-clause-ok : goal.returns-clause-ok
returns-clause-ok g c =
    let fits : FitsSigned w64 c.self.inside.latest = search rules in
    let set : c.complete.new.info ≡ completed_info c.self.inside.info c.self.inside.latest =
    c.complete.ensures.info ∙ ap (completed_info c.self.inside.info) (to_z-of_z w64 c.self.inside.latest fits) in
    let none = ap (λ (t : Thread). open_after 0 t.word) c.self.view_is ∙ c.requires.none_open in
    let told =
    subst (λ (t : Thread). IsReportOf t (facts_of c.complete.new.info)) c.self.view_is
    (report_in c.self.inside c.complete.new.info c.self.invariant none set) in
    let first : c.complete.new.first ≡ c.args.self.now.first_start =
    c.complete.ensures.first
    ∙ first_in c.self.inside c.self.invariant
    ∙ ap (λ (t : Thread). t.first_start) c.self.view_is in
    let same : (record { start = c.complete.new.first; name = string_bytes c.args.name })
    ≡ key_of_thread c.args.self.now =
    λ i. record { start = first i; name = c.requires.name i } in (
      same_thread _ _ (ap (λ (t : Thread). t.name) c.self.view_is)
          (c.clear.ensures.form ∙ ap (λ (i : StreamInfo). i.stream.form) set ∙ ap (λ (t : Thread). t.form) c.self.view_is)
          (ap (option_or c.complete.new.first) (ap first_open (none_in c.clear.new.self c.clear.ensures.honest))
          ∙ or_none c.complete.new.first
          ∙ first) (ap (λ (t : Thread). t.latest) c.self.view_is) (none_in c.clear.new.self c.clear.ensures.honest)
          (ap details_seen c.clear-2.ensures.items),
      (
        facts_of c.complete.new.info,
        told,
        told_so (λ i d x. g.R.Reporter.accepts c.args.reporter.now i d x c.report.new.self) same
            (ap details_seen c.deref.ensures.value ∙ ap (λ (t : Thread). t.details) c.self.view_is)
            c.as_stream_into_ref.ensures c.in_ok-report.ensures.ok,
      ),
    )
