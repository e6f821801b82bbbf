use Rattle.std.proofs.Common.{◌≡◌, ◌++◌, map, drop}
use Rattle.puffin_view.specs.inner.Selections.{rank_by_duration}
use Rattle.puffin_view.specs.View.Selection.{rank_by_index}
use Rattle.puffin_view.proofs.profile_view.select.places_by_index.Given as goal

abbrev pub invariant-loop-at : goal.invariant-loop-at
invariant-loop-at l = map rank_by_index l.places.items ++ map rank_by_duration (drop l.at-index l.slow) ≡ map rank_by_duration l.slow
