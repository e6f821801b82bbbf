-- What was handed to the slice was handed to the vector, and the sinks keep their numbers.
use Rattle.std.specs.Arc.{arc_value}
use Rattle.puffin.proofs.HandingOn.{handed-back, numbered-handed}
use Rattle.puffin.proofs.global_profiler.sinks.Sinks.hand_on.Goals as goal

pub returns-clause-handed : goal.returns-clause-handed
returns-clause-handed g c =
    let entries = c.args.self.now.entries in
    handed-back (λ b. (goal.FrameSink-dyn g (b.vtable, b.value)).accepts) (arc_value c.args.frame.now) entries.items _
    c.hand_all.new.sinks entries.len c.hand_all.result
    c.deref_mut.ensures.value c.hand_all.auto.sinks entries.ok.0 c.hand_all.ensures

pub invariant_of-self : goal.invariant_of-self
invariant_of-self g c =
    let before = c.args.self.now in let entries = before.entries in
    record {
      rising =
          numbered-handed (λ b. (goal.FrameSink-dyn g (b.vtable, b.value)).accepts)
          (arc_value c.args.frame.now) entries.items _ c.hand_all.result before.next
          (handed-back (λ b. (goal.FrameSink-dyn g (b.vtable, b.value)).accepts)
          (arc_value c.args.frame.now) entries.items _ c.hand_all.new.sinks entries.len c.hand_all.result
          c.deref_mut.ensures.value c.hand_all.auto.sinks entries.ok.0 c.hand_all.ensures)
          before.rising;
    }
