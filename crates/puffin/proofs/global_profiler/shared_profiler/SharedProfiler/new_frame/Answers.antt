-- What a frame spells, and the cause of a refusal, where the profiler's state is forgotten.
use Rattle.puffin.proofs.HandedOut.{all_spell}
use Rattle.puffin.proofs.SharedRefusals.{frame_refused}
use Rattle.puffin.proofs.global_profiler.shared_profiler.SharedProfiler.new_frame.Goals as goal

pub returns-clause-spells : goal.returns-clause-spells
returns-clause-spells g c =
    let call = c.new_frame in let collected = call.ensures.handed_out.collected in
    all_spell call.result _ _ collected.honest collected.ok

pub returns-clause-cause : goal.returns-clause-cause
returns-clause-cause g c = frame_refused c.new_frame.result _ _ c.new_frame.ensures.handed_out.collected.err
