-- The best of the paths so far, and in the end of all paths.
use Rattle.std.proofs.Common.{List, ℕ, ap, ◌∙◌}
use Rattle.std.specs.Prelude.{option_map}
use Rattle.std.specs.Map.Iter.{deref_pair}
use Rattle.std.proofs.lemmas.Map.Iter.{rest_more}
use Rattle.puffin_look.specs.Heavy.{heavier}
use Rattle.puffin_look.specs.inner.Heavies.{step_of}
use Rattle.puffin_look.proofs.HeavySteps.{best_more, best_done}
use Rattle.puffin_look.proofs.heavy.heaviest.Goals as goal

pub rows-preserved : goal.rows-preserved
rows-preserved c =
    let left = rest_more deref_pair _ _ _ _ c.in-Some.is c.next.ensures.steps in
    let best = c.in_ok-best.ensures
    ∙ ap (λ (p : List ℕ). heavier c.args.front.now (option_map step_of c.rows.best)
    (p, c.in-Some.times.now)) c.deref.ensures.value in
    best_more _ _ _ _ _ _ _ left best c.rows.invariant

pub returns : goal.returns
returns c = best_done _ _ _ _ c.in-None.ensures.steps.0 c.rows.invariant
