-- One more event adds an offset at the front or takes the first one away.
use Rattle.puffin_threads.proofs.RecordedScopes.{length-open_offsets, offsets_opened, offsets_closed}
use Rattle.puffin_threads.proofs.thread_profiler.laws.open_scopes.Goals as goal

pub returns-clause-count : goal.returns-clause-count
returns-clause-count c form word = length-open_offsets form word

pub returns-clause-begun : goal.returns-clause-begun
returns-clause-begun c form word id text start = offsets_opened form word id text start

pub returns-clause-ended : goal.returns-clause-ended
returns-clause-ended c form word stop = offsets_closed form word stop
