use Rattle.puffin_frames.proofs.lemmas.Honest.{none_is_honest, honest-report, ordered, no_scopes_there}
use Rattle.puffin_frames.proofs.laws.honest_streams.Goals as goal

pub returns-clause-none : goal.returns-clause-none
returns-clause-none c = none_is_honest

pub returns-clause-report : goal.returns-clause-report
returns-clause-report c = honest-report

pub returns-clause-ordered : goal.returns-clause-ordered
returns-clause-ordered c = ordered

pub returns-clause-no_scopes : goal.returns-clause-no_scopes
returns-clause-no_scopes c = no_scopes_there
