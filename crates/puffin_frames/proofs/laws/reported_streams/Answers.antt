use Rattle.puffin_frames.proofs.lemmas.Measured.{after_report, bytes_measure, scopes_measure, starts_measure, stops_measure, under_one, no_values}
use Rattle.puffin_frames.proofs.laws.reported_streams.Goals as goal

pub returns-clause-bytes : goal.returns-clause-bytes
returns-clause-bytes c = after_report bytes_measure

pub returns-clause-scopes : goal.returns-clause-scopes
returns-clause-scopes c = after_report scopes_measure

pub returns-clause-start : goal.returns-clause-start
returns-clause-start c = after_report starts_measure

pub returns-clause-stop : goal.returns-clause-stop
returns-clause-stop c = after_report stops_measure

pub returns-clause-none : goal.returns-clause-none
returns-clause-none c = no_values

pub returns-clause-under_one : goal.returns-clause-under_one
returns-clause-under_one c = under_one
