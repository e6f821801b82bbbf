-- The rows so far are those of the names so far.
use Rattle.std.proofs.Common.{List, ℕ, subst}
use Rattle.std.specs.Map.Iter.{deref_pair}
use Rattle.std.proofs.lemmas.Map.Iter.{rest_more}
use Rattle.puffin_look.specs.inner.Tallies.{tally_of}
use Rattle.puffin_look.specs.inner.Tops.{HasTally}
use Rattle.puffin_look.proofs.RowsMade.{made_more}
use Rattle.puffin_look.proofs.top.rows_of.Goals as goal

pub rows-preserved : goal.rows-preserved
rows-preserved c =
    let left = rest_more deref_pair _ _ _ _ c.in-Some.is c.next.ensures.steps in
    let one = subst (λ (name : List ℕ). HasTally (name, tally_of c.in-Some.tally.now) c.in_ok-row_of.field-0)
    c.deref.ensures.value c.in_ok-row_of.ensures in
    made_more _ _ _ _ _ _ c.in_ok-row_of.field-0 left c.rows.invariant one c.in_ok-push.ensures.items
