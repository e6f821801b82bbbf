-- What the thread and the profiler hold is what their handles hold, before and after the report.
use Rattle.std.proofs.Common.{refl, sym, ap, ◌∙◌, inr}
use Rattle.std.specs.Prelude.{Some, Ok}
use Rattle.puffin_threads.specs.Thread.Calls.{Thread}
use Rattle.puffin_collector.specs.Collector.State.{Collected}
use Rattle.puffin_c.specs.declared.profiler.Profiler.{Profiler}
use Rattle.puffin_c.specs.Profiling.{with_collected}
use Rattle.puffin_c.proofs.Refusals.{refusal_keeps, reported_so, refused_so}
use Rattle.puffin_c.proofs.profiling.report.Goals as goal

pub returns-in-Ok-clause-hands : goal.returns-in-Ok-clause-hands
returns-in-Ok-clause-hands c =
    let after : Collected = c.report-answer.new.collector in (
      c.in-Ok._some,
      c.take-recorder.result.value,
      c.report-answer.new.self,
      c.take-whole.result.value,
      after,
      c.take-recorder.ensures.taken,
      c.put.ensures.held,
      c.take-whole.ensures.taken,
      c.put-2.ensures ∙ ap (λ (q : Profiler). Some (with_collected q after)) c.deref_mut-2.ensures.value,
      reported_so _ _ _ _ _ after (Ok c.in-Ok._some) c.deref_mut.ensures.value c.deref_mut-2.ensures.value c.in-Ok.ensures,
    )

pub returns-in-Err-clause-hands : goal.returns-in-Err-clause-hands
returns-in-Err-clause-hands c =
    let here : Profiler = c.deref_mut-2.result.now in
    let (same_thread, same_collector) = refusal_keeps _ _ here.collector _ _ c.in-Err.ensures in (
      c.put.ensures.held ∙ ap (λ (t : Thread). Some t) (same_thread ∙ c.deref_mut.ensures.value)
          ∙ sym c.take-recorder.ensures.taken,
      c.put-2.ensures ∙ ap (λ (k : Collected). Some (with_collected here k)) same_collector
          ∙ ap (λ (q : Profiler). Some q) c.deref_mut-2.ensures.value ∙ sym c.take-whole.ensures.taken,
      inr (
        c.in-Err.cause,
        refl,
        c.take-recorder.result.value,
        c.take-whole.result.value,
        c.take-recorder.ensures.taken,
        c.take-whole.ensures.taken,
        refused_so _ _ _ _ here _ c.in-Err.cause c.deref_mut.ensures.value c.deref_mut-2.ensures.value c.in-Err.ensures,
      ),
    )
