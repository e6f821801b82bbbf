-- A thread's closure may be sent to it, since all that the closure captures may.
use denote.Exit.{no}
use denote.Param.{param, copied}
use denote.Param.Object.{Vt, ghosts_of}
use denote.Param.Send.{IsSend, sendable, param_send, arg_send}
use Rattle.std.proofs.Common.{[], ◌∷◌}
use Rattle.std.specs.contracts.alloc.Global as Heap
use Rattle.std.proofs.Crossing.{crosses, send as global_send}
use Rattle.example_threads.specs.contracts.record.Job as Job
use Rattle.puffin.specs.contracts.global_profiler.shared_profiler.SharedProfiler as Shared
use Rattle.puffin.specs.contracts.global_profiler.share.Share as Share
use Rattle.puffin.proofs.lemmas.Sending.{captures_send}
use Rattle.puffin.proofs.lemmas.Sending.{shared_row_send, share_send}
use Rattle.example_threads.specs.contracts.record.start.dyn-1 as dyn
use Rattle.example_threads.proofs.record.start.Goals as goal

pub spawn_with-started-requires-send-F : goal.spawn_with-started-requires-send-F
spawn_with-started-requires-send-F g c κs within =
    let D = Vt (dyn.slots g.row.L g.row.M g.row.R) g.dyn-1.0 in
    let gh = ghosts_of (dyn.slots g.row.L g.row.M g.row.R) g.dyn-1.0 g.dyn-1.1 in
    let sd : IsSend D = search sendable depth 20 in
    let job : IsSend Job.the_row = search (crosses, sendable) depth 20 fits 10000 in
    let shared_row = Shared.the_row (param 0 g.row.L) (param 1 g.row.M) D g.L.Ledger g.L.History g.M.Ledger gh in
    let share_row = Share.the_row (param 0 g.row.L) (param 1 g.row.M) g.L.Ledger g.L.History g.M.Ledger in
    let shared : IsSend shared_row =
    shared_row_send D gh g.dyn-1.2 sd (param 0 g.row.L) (param 1 g.row.M) g.L.Ledger g.L.History g.M.Ledger in
    let share : IsSend share_row =
    share_send (param 0 g.row.L) (param 1 g.row.M) g.L.Ledger g.L.History g.M.Ledger in
    let captured = copied 2 g.row.R ∷ Heap.the_row ∷ shared_row ∷ share_row ∷ Job.the_row ∷ [] in
    param_send 2 _ (arg_send _ no _ (captures_send _ captured (c.type_bounds.send-R, (global_send, (shared, (share, (job, tt)))))))
