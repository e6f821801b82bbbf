use denote.Exit.{no}
use denote.Param.{param, copied}
use denote.Param.Object.{Vt, ghosts_of}
use denote.Param.Send.{IsSend, sendable, param_send, arg_send}
use Rattle.std.proofs.Common.{[], ◌∷◌}
use Rattle.std.specs.contracts.alloc.Global as Heap
use Rattle.std.proofs.Crossing.{send as global_send}
use Rattle.puffin.specs.contracts.global_profiler.shared_profiler.SharedProfiler as Shared
use Rattle.puffin.specs.contracts.global_profiler.share.Share as Share
use Rattle.puffin.proofs.lemmas.Sending.{shared_row_send, share_send, captures_send}
use Rattle.tests_puffin_shares.specs.contracts.example.start.dyn-1 as dyn
use Rattle.tests_puffin_shares.proofs.example.start.Goals as goal

pub spawn-requires-send-F : goal.spawn-requires-send-F
spawn-requires-send-F g c κs within =
    let D = Vt (dyn.slots g.row.L g.row.M g.row.R) g.dyn-1.0 in
    let gh = ghosts_of (dyn.slots g.row.L g.row.M g.row.R) g.dyn-1.0 g.dyn-1.1 in
    let sd : IsSend D = search sendable depth 20 in
    let shared : IsSend (Shared.the_row (param 0 g.row.L) (param 1 g.row.M) D g.L.Ledger g.L.History g.M.Ledger gh) = shared_row_send D gh g.dyn-1.2 sd (param 0 g.row.L) (param 1 g.row.M) g.L.Ledger g.L.History g.M.Ledger in
    let share : IsSend (Share.the_row (param 0 g.row.L) (param 1 g.row.M) g.L.Ledger g.L.History g.M.Ledger) = share_send (param 0 g.row.L) (param 1 g.row.M) g.L.Ledger g.L.History g.M.Ledger in
    let captured = copied 2 g.row.R ∷ Heap.the_row ∷ Shared.the_row (param 0 g.row.L) (param 1 g.row.M) D g.L.Ledger g.L.History g.M.Ledger gh ∷ Share.the_row (param 0 g.row.L) (param 1 g.row.M) g.L.Ledger g.L.History g.M.Ledger ∷ [] in
    param_send 1 _ (arg_send _ no _ (captures_send _ captured (c.type_bounds.send-R, (global_send, (shared, (share, tt))))))
