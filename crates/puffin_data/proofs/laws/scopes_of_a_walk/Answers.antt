-- By induction over the length of the region, and over the forest that it spells.
use Rattle.std.proofs.Common.{[], length, arith}
use Rattle.puffin_data.proofs.ScopesSeen.{placed_in, one_list_of_scopes}
use Rattle.puffin_data.proofs.SpelledScopes.{scopes_of_spelling}
use Rattle.puffin_data.proofs.laws.scopes_of_a_walk.Goals as goal

pub returns-clause-has : goal.returns-clause-has
returns-clause-has c form bytes = placed_in form bytes [] 0 (length bytes) (omega arith) (omega arith)

pub returns-clause-one : goal.returns-clause-one
returns-clause-one c form bytes placed others sees sees_others =
    one_list_of_scopes form bytes [] 0 (length bytes) placed others sees sees_others

pub returns-clause-spelled : goal.returns-clause-spelled
returns-clause-spelled c form = scopes_of_spelling form
