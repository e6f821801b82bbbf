use Rattle.puffin_accounts.proofs.lemmas.Running.{runs_again}
use Rattle.example_proved.proofs.steps.Goals as goal

pub loop-step-preserved : goal.loop-step-preserved
loop-step-preserved g c = runs_again _ _ _ c.loop-step.step _ c.loop-step.thread _ c.loop-step.invariant c.physics.ensures
