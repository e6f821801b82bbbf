-- The sink at the found position is taken out, and the numbers of the others still rise.
use Rattle.puffin.proofs.Numbering.{taken_out, numbered-taken}
use Rattle.puffin.proofs.global_profiler.sinks.Sinks.remove.Goals as goal

pub returns-clause-some : goal.returns-clause-some
returns-clause-some g c =
    taken_out c.args.self.now.entries.items c.deref.result.now _ c.in-Some.at c.args.id c.remove-sink.result c.deref.ensures.value
    c.remove-sink.ensures.value c.remove-sink.ensures.items c.in-Some.ensures.some

pub invariant_of-self : goal.invariant_of-self
invariant_of-self g c =
    let before = c.args.self.now in
    let out = taken_out before.entries.items c.deref.result.now _ c.in-Some.at c.args.id c.remove-sink.result c.deref.ensures.value
    c.remove-sink.ensures.value c.remove-sink.ensures.items c.in-Some.ensures.some in
    record { rising = numbered-taken c.args.id _ before.entries.items _ before.next out before.rising }
