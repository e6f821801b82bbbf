-- The names so far have their rows.

use Rattle.puffin_look.proofs.RowsMade.{AreMade}
use Rattle.puffin_look.proofs.top.rows_of.Given as goal

abbrev pub invariant-rows : goal.invariant-rows
invariant-rows l = AreMade l.rows.items l.name-iterator l.tallies.rows.entries
