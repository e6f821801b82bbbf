-- Keys are compared by start first, so a start that is missing or earlier decides.
use Rattle.puffin_threads.proofs.lemmas.ThreadKeys.{key_cmp_total, key_cmp-one, has_same_key-one, none_first, earlier_first, then_by_name}
use Rattle.puffin_threads.proofs.laws.order_of_keys.Goals as goal

pub returns-clause-none_first : goal.returns-clause-none_first
returns-clause-none_first c = none_first

pub returns-clause-earlier_first : goal.returns-clause-earlier_first
returns-clause-earlier_first c = earlier_first

pub returns-clause-then_by_name : goal.returns-clause-then_by_name
returns-clause-then_by_name c = then_by_name

pub returns-clause-total : goal.returns-clause-total
returns-clause-total c = key_cmp_total

pub returns-clause-one : goal.returns-clause-one
returns-clause-one c = key_cmp-one

pub returns-clause-same : goal.returns-clause-same
returns-clause-same c = has_same_key-one
