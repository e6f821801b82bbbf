use Rattle.puffin_accounts.specs.Running.{Runs, repeated}
use Rattle.example_proved.specs.Turn.{physics_code}
use Rattle.example_proved.proofs.steps.Given as goal

-- the steps so far
abbrev pub invariant-loop-step : goal.invariant-loop-step
invariant-loop-step g l =
    Runs g.T.Records.begins g.T.Records.ends (repeated l.step (physics_code l.places)) l.fn.thread l.thread
