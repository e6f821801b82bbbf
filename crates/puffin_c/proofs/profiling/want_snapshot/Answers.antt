-- The handle holds the profiler whose collector wants a snapshot.
use Rattle.std.proofs.Common.{ap, ◌∙◌}
use Rattle.std.specs.Prelude.{Some}
use Rattle.puffin_collector.specs.Collector.State.{Collected, after_wanting}
use Rattle.puffin_c.specs.declared.profiler.Profiler.{Profiler}
use Rattle.puffin_c.specs.Profiling.{with_collected}
use Rattle.puffin_c.proofs.profiling.want_snapshot.Goals as goal

pub returns : goal.returns
returns c =
    let here : Profiler = c.deref_mut.result.now in (
      c.take-whole.result.value,
      c.take-whole.ensures.taken,
      c.put.ensures ∙ ap (λ (k : Collected). Some (with_collected here k)) c.emit_scope_snapshot.ensures
          ∙ ap (λ (q : Profiler). Some (with_collected q (after_wanting q.collector))) c.deref_mut.ensures.value,
    )
