-- Numbers still rise after a sink with the next number is appended.
use Rattle.std.proofs.Common.{◌≡◌, ◌+◌, sym, subst, rules}
use Rattle.puffin.specs.inner.Numbers.{AreNumbered}
use Rattle.puffin.proofs.Numbering.{numbered-more}
use Rattle.puffin.proofs.global_profiler.sinks.Sinks.add.Goals as goal

pub invariant_of-self : goal.invariant_of-self
invariant_of-self g c =
    let before = c.args.self.now in
    let more = numbered-more before.entries.items before.next c.args.sink before.rising in
    let next_is : before.next + 1 ≡ c.in-Some.next = search rules in
    record {
      rising = subst (λ n. AreNumbered c.push.new.self.items n) next_is
          (subst (λ es. AreNumbered es (before.next + 1)) (sym c.in-Ok.ensures.items) more);
    }
