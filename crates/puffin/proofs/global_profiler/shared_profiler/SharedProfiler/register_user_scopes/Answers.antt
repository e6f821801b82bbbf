-- The cause of a refusal, where the profiler's state is forgotten.
use Rattle.puffin.proofs.SharedRefusals.{adding_refused}
use Rattle.puffin.proofs.global_profiler.shared_profiler.SharedProfiler.register_user_scopes.Goals as goal

pub returns : goal.returns
returns g c = record { cause = adding_refused c.register_user_scopes.result _ _ _ c.register_user_scopes.ensures.registered.err }
