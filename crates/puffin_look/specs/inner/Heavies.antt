-- A step of a path, as the code holds it.
use Rattle.puffin_look.specs.Heavy.{Step}
use Rattle.puffin_look.specs.declared.heavy.Step as held

abbrev pub step_of : held.Step → Step
step_of step = (step.path.items, step.time)
