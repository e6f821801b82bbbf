-- The rows that are left lead from here to the same as all of them from the beginning.
use Rattle.std.proofs.Common.{◌≡◌, drop}
use Rattle.std.specs.Prelude.{fold}
use Rattle.puffin_look.specs.PageChoice.{with_fitting}
use Rattle.puffin_look.specs.inner.PageChoices.{chosen_in}
use Rattle.puffin_look.proofs.page_choice.Choice.add_all.Given as goal

abbrev pub invariant-loop-row : goal.invariant-loop-row
invariant-loop-row l = fold with_fitting (chosen_in l.self) (drop l.row-index l.rows) ≡ fold with_fitting (chosen_in l.initial.self) l.rows
