use Rattle.puffin_frames.proofs.lemmas.Keyed.{entries-streams_of, values-streams_of, streams_of-insert}
use Rattle.puffin_frames.proofs.laws.streams_by_key.Goals as goal

pub returns-clause-entries : goal.returns-clause-entries
returns-clause-entries c = entries-streams_of

pub returns-clause-values : goal.returns-clause-values
returns-clause-values c streams sorted = values-streams_of streams.entries sorted

pub returns-clause-inserted : goal.returns-clause-inserted
returns-clause-inserted c = streams_of-insert
