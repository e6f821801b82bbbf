-- The best of the paths so far and of those that are left is the best of all.
use Rattle.std.proofs.Common.{◌≡◌}
use Rattle.std.specs.Prelude.{fold, option_map}
use Rattle.puffin_look.specs.Heavy.{heavier, heaviest}
use Rattle.puffin_look.specs.inner.Stacks.{rows_in}
use Rattle.puffin_look.specs.inner.Heavies.{step_of}
use Rattle.puffin_look.proofs.heavy.heaviest.Given as goal

abbrev pub invariant-rows : goal.invariant-rows
invariant-rows l = fold (heavier l.front) (option_map step_of l.best) (rows_in l.path-iterator) ≡ heaviest l.front (rows_in l.rows.entries)
