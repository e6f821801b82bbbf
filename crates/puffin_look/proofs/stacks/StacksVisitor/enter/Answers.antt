-- The scope was added below the scope that it is in.
--
-- A time that fits `i64` is the one that its 64 bits stand for (`to_z-of_z`).
use Rattle.std.proofs.Common.{◌-ℤ◌, ◌∙◌, w64, arith}
use Rattle.std.specs.Prelude.{unsigned_abs}
use Rattle.std.proofs.lemmas.Int.{ints, to_z-of_z}
use Rattle.puffin_data.specs.Walk.FoundScopes.{found_of}
use Rattle.puffin_look.proofs.Stacked.{entered}
use Rattle.puffin_look.proofs.stacks.StacksVisitor.enter.Goals as goal

pub returns-clause-ok : goal.returns-clause-ok
returns-clause-ok c = λ around stands.
    let start = to_z-of_z w64 c.args.scope.now.start (omega (arith, ints)) in
    let stop = to_z-of_z w64 c.args.scope.now.stop (omega (arith, ints)) in
    let time = c.abs_diff-time.ensures ∙ (λ i. unsigned_abs (stop i -ℤ start i)) in
    entered c.args.self.now _ c.args.within c.in_ok-place.place around
    (found_of c.args.scope.now).span _ time c.in_ok-place.ensures.added c.in_ok-place.ensures.place stands
