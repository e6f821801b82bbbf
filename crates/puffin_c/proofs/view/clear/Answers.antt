-- The handle holds the profiler without the frames of its view.
use Rattle.std.proofs.Common.{ap, ◌∙◌}
use Rattle.std.specs.Prelude.{Some}
use Rattle.puffin_c.specs.declared.profiler.Profiler.{Profiler}
use Rattle.puffin_c.specs.Profiling.{without_view}
use Rattle.puffin_c.proofs.view.clear.Goals as goal

pub returns : goal.returns
returns c = (
  c.take-whole.result.value,
  c.take-whole.ensures.taken,
  c.put.ensures ∙ ap (λ (q : Profiler). Some q) c.clear_view.ensures
      ∙ ap (λ (q : Profiler). Some (without_view q)) c.deref_mut.ensures.value,
)
