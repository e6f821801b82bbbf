-- The cause of a refusal, where the profiler's state is forgotten.
use Rattle.puffin.proofs.SharedRefusals.{scopes_refused}
use Rattle.puffin.proofs.global_profiler.shared_profiler.SharedProfiler.report_user_scopes.Goals as goal

pub returns-clause-cause : goal.returns-clause-cause
returns-clause-cause g c = scopes_refused c.report_user_scopes.result _ _ _ _ c.report_user_scopes.ensures.reported.err
