-- The handle holds the profiler with the new limits of its view.
use Rattle.std.proofs.Common.{ap, ◌∙◌}
use Rattle.std.specs.Prelude.{Some}
use Rattle.puffin_c.specs.declared.profiler.Profiler.{Profiler}
use Rattle.puffin_c.specs.Profiling.{with_limits}
use Rattle.puffin_c.proofs.view.limit.Goals as goal

pub returns : goal.returns
returns c = (
  c.take-whole.result.value,
  c.take-whole.ensures.taken,
  c.put.ensures ∙ ap (λ (q : Profiler). Some q) c.set_limits.ensures
      ∙ ap (λ (q : Profiler). Some (with_limits q c.args.recent c.args.slow)) c.deref_mut.ensures.value,
)
