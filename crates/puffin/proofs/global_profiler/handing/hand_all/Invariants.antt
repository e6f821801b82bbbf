-- The sinks before this index were handed the frame; the others are as they were at first.
use Rattle.std.specs.Prelude.{◌≡◌, ◌≤◌, List, take, drop, length, sum_by}
use Rattle.std.specs.Arc.{arc_value}
use Rattle.puffin.specs.declared.global_profiler.handing.Outcome.{Outcome}
use Rattle.puffin.specs.Sinks.Handing.{Handed, refusal}
use Rattle.puffin.proofs.global_profiler.handing.hand_all.Given as goal

abbrev pub invariant-loop-entry : goal.invariant-loop-entry
invariant-loop-entry g l = record {
  handed : (os : List Outcome) × Handed (λ b. (goal.FrameSink-dyn g (b.vtable, b.value)).accepts) (arc_value l.frame)
      (take l.entry-index l.initial.sinks) os (take l.entry-index l.sinks) × (l.refused ≡ sum_by refusal os);
  rest : drop l.entry-index l.sinks ≡ drop l.entry-index l.initial.sinks;
  same_length : length l.sinks ≡ length l.initial.sinks;
  few : l.refused ≤ l.entry-index;
}
