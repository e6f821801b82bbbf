-- The name is tested first, then the bytes, and then the collector takes the scopes or refuses them.
use Rattle.std.proofs.Common.{refl, sym, ap, ◌∙◌, inr, subst}
use Rattle.std.proofs.lemmas.Result.{err_from_is_err_and}
use Rattle.std.specs.Prelude.{Some, []}
use Rattle.puffin_data.specs.Honesty.{StreamFacts, facts_of_ref}
use Rattle.puffin_threads.specs.Thread.ThreadKey.{ThreadKey, key_of}
use Rattle.puffin_collector.specs.Collector.State.{Collected, AcceptsReport, IsReportRefusal}
use Rattle.puffin_c.specs.declared.profiler.Profiler.{Profiler}
use Rattle.puffin_c.specs.Profiling.{with_collected}
use Rattle.puffin_c.proofs.Refusals.{something_held, name_refused, bytes_refused}
use Rattle.puffin_c.proofs.user_scopes.take.Goals as goal

pub returns-in_err-info : goal.returns-in_err-info
returns-in_err-info c =
    let (cause, is_err, same_cause) = err_from_is_err_and c.from_residual.result c.from_residual.ensures.1 in
    let held = something_held _ _ c.args.profiler.now.tied c.if-not-profiler.false in
    rw is_err (name_refused _ held _ _ _ cause _ same_cause c.in_err-info.ensures.err)

pub returns-in_err-times : goal.returns-in_err-times
returns-in_err-times c =
    let (cause, is_err, same_cause) = err_from_is_err_and c.from_residual-in_err-times.result c.from_residual-in_err-times.ensures.1 in
    let held = something_held _ _ c.args.profiler.now.tied c.if-not-profiler.false in
    rw is_err (bytes_refused _ held _ _ _ cause _ c.in_ok-info.ensures.text same_cause c.in_err-times.ensures.fault)

pub returns-in-Ok : goal.returns-in-Ok
returns-in-Ok c =
    let after : Collected = c.report_user_scopes-answer.new.self in
    let times : StreamFacts = facts_of_ref c.in_ok-times.times in
    let q : Profiler = c.take-whole.result.value in
    let key = c.in_ok-info.ensures.ok in
    let (forest, honest) = c.in_ok-times.ensures.honest in (
      q,
      after,
      times,
      c.take-whole.ensures.taken,
      c.put.ensures ∙ ap (λ (p : Profiler). Some (with_collected p after)) c.deref_mut.ensures.value,
      c.in_ok-info.ensures.text,
      (c.in_ok-times.ensures.form, c.in_ok-times.ensures.bytes, forest, honest),
      subst (λ (i : ThreadKey). AcceptsReport q.collector i [] times after) key
          (subst (λ (p : Profiler). AcceptsReport p.collector (key_of c.in_ok-info.info) [] times after) c.deref_mut.ensures.value
          c.in-Ok.ensures.ok),
    )

pub returns-in-Err : goal.returns-in-Err
returns-in-Err c =
    let here : Profiler = c.deref_mut.result.now in
    let times : StreamFacts = facts_of_ref c.in_ok-times.times in
    let q : Profiler = c.take-whole.result.value in
    let key = c.in_ok-info.ensures.ok in
    let (refuses, unchanged) = c.in-Err.ensures.err in
    let (forest, honest) = c.in_ok-times.ensures.honest in (
      c.put.ensures ∙ ap (λ (k : Collected). Some (with_collected here k)) unchanged
          ∙ ap (λ (p : Profiler). Some p) c.deref_mut.ensures.value ∙ sym c.take-whole.ensures.taken,
      inr (
        q,
        c.take-whole.ensures.taken,
        inr (
          c.in_ok-info.ensures.text,
          c.in-Err.cause,
          refl,
          inr (inr (
            times,
            (c.in_ok-times.ensures.form, c.in_ok-times.ensures.bytes, forest, honest),
            subst (λ (i : ThreadKey). IsReportRefusal q.collector i [] times c.in-Err.cause) key
                (subst (λ (p : Profiler). IsReportRefusal p.collector (key_of c.in_ok-info.info) [] times c.in-Err.cause)
                c.deref_mut.ensures.value refuses),
          )),
        ),
      ),
    )
