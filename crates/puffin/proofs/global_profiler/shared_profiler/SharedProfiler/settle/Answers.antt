-- What all shares know together, where the profiler's state is forgotten.
use Rattle.puffin.proofs.SettledShares.{knows_all}
use Rattle.puffin.proofs.global_profiler.shared_profiler.SharedProfiler.settle.Goals as goal

pub returns-clause-history : goal.returns-clause-history
returns-clause-history g c = knows_all c.settle.result _ _ _ _ c.settle.ensures.history c.settle.ensures.pending
