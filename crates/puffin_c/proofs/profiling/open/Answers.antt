-- A handle that held nothing holds the new profiler.
use Rattle.std.proofs.Common.{ap, ◌∙◌}
use Rattle.std.specs.Prelude.{Some}
use Rattle.puffin_c.specs.declared.profiler.Profiler.{Profiler}
use Rattle.puffin_c.proofs.Refusals.{nothing_held}
use Rattle.puffin_c.proofs.profiling.open.Goals as goal

pub returns-in-Ok-clause-opens : goal.returns-in-Ok-clause-opens
returns-in-Ok-clause-opens c = (
  nothing_held _ _ c.args.profiler.now.tied c.if-profiler.false,
  c.in_ok-shared.ensures.ok,
  c.new.result,
  c.put.ensures ∙ ap (λ (p : Profiler). Some p) c.in-Ok.ensures.ok,
  c.new.ensures,
)
