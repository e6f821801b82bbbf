-- What an accepted report shows of its details, and the cause of a refusal, where the profiler's state is forgotten.
use Rattle.puffin.proofs.SharedRefusals.{report_accepted, report_refused}
use Rattle.puffin.proofs.global_profiler.shared_profiler.SharedProfiler.report.Goals as goal

pub returns-clause-ids : goal.returns-clause-ids
returns-clause-ids g c = report_accepted c.report.result _ _ _ _ _ c.report.ensures.reported.ok

pub returns-clause-cause : goal.returns-clause-cause
returns-clause-cause g c = report_refused c.report.result _ _ _ _ _ c.report.ensures.reported.err
