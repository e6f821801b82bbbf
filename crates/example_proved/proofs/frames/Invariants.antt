use Rattle.std.specs.Prelude.{◌≡◌, map, vec_len}
use Rattle.puffin_accounts.specs.Rounds.{RunsRounds}
use Rattle.example_proved.specs.Turn.{turn_round, script_answers}
use Rattle.example_proved.proofs.frames.Given as goal

abbrev pub invariant-loop-round : goal.invariant-loop-round
invariant-loop-round g l = record {
  number : vec_len l.frames ≡ l.round;
  rounds : RunsRounds script_answers (map turn_round l.frames.items) l.initial.thread l.thread;
}
