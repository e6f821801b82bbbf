-- By id the first details stay, and by name the last id does.
use Rattle.puffin_threads.proofs.CollectionsBuilt.{first_in, last_in, none_in_none}
use Rattle.puffin_threads.proofs.Inserting.{own_ids_inserted, own_ids_none}
use Rattle.puffin_threads.proofs.scope_details.laws.collected_details.Goals as goal

pub returns-clause-first : goal.returns-clause-first
returns-clause-first c = first_in

pub returns-clause-last : goal.returns-clause-last
returns-clause-last c = last_in

pub returns-clause-own : goal.returns-clause-own
returns-clause-own c = own_ids_inserted

pub returns-clause-own_none : goal.returns-clause-own_none
returns-clause-own_none c = own_ids_none

pub returns-clause-none : goal.returns-clause-none
returns-clause-none c = none_in_none
