-- What a thread takes with it may be sent to it.
use denote.Exit.{no}
use denote.Param.{param, copied}
use denote.Param.Object.{Vt, ghosts_of}
use denote.Param.Send.{IsSend, IsSync, sendable, param_send, arg_send, shr_send}
use denote.Ref.{ShrRef}
use denote.Plain.{UInt}
use Rattle.std.proofs.Common.{[], ◌∷◌}
use Rattle.std.specs.Int.{w64}
use Rattle.std.proofs.Crossing.{crosses}
use Rattle.puffin.specs.contracts.global_profiler.shared_profiler.SharedProfiler as Shared
use Rattle.puffin.specs.contracts.global_profiler.share.Share as Share
use Rattle.puffin.proofs.lemmas.Sending.{shared_row_send, share_send, captures_send}
use Rattle.puffin.specs.contracts.light.ready.Gate as Gate
use Rattle.puffin.specs.contracts.light.started.start.dyn-1 as dyn
use Rattle.puffin.proofs.light.started.start.Goals as goal

pub spawn_with-requires-send-F : goal.spawn_with-requires-send-F
spawn_with-requires-send-F g c κs within =
    let D = Vt (dyn.slots g.row.E g.row.L g.row.M g.row.R g.row.T g.row.W) g.dyn-1.0 in
    let gh = ghosts_of (dyn.slots g.row.E g.row.L g.row.M g.row.R g.row.T g.row.W) g.dyn-1.0 g.dyn-1.1 in
    let sd : IsSend D = search sendable depth 20 in
    let shared : IsSend (Shared.the_row (param 1 g.row.L) (param 2 g.row.M) D g.L.Ledger g.L.History g.M.Ledger gh) =
    shared_row_send D gh g.dyn-1.2 sd (param 1 g.row.L) (param 2 g.row.M) g.L.Ledger g.L.History g.M.Ledger in
    let share : IsSend (Share.the_row (param 1 g.row.L) (param 2 g.row.M) g.L.Ledger g.L.History g.M.Ledger) =
    share_send (param 1 g.row.L) (param 2 g.row.M) g.L.Ledger g.L.History g.M.Ledger in
    let number : IsSend (UInt w64) = search sendable depth 5 in
    let gate : IsSync Gate.the_row = search (crosses, sendable) depth 30 fits 10000 in
    let captured = copied 3 g.row.R ∷ UInt w64 ∷ Shared.the_row (param 1 g.row.L)
    (param 2 g.row.M) D g.L.Ledger g.L.History g.M.Ledger gh ∷ Share.the_row (param 1 g.row.L)
    (param 2 g.row.M) g.L.Ledger g.L.History g.M.Ledger ∷ param 4 g.row.T ∷ ShrRef _ _ (param 5 g.row.W) ∷ ShrRef _ _ Gate.the_row ∷ [] in
    let bounds = c.type_bounds in
    param_send 2 _ (arg_send _ no _ (captures_send _ captured
    (bounds.send-R, (number, (shared, (share, (bounds.send-T, (shr_send _ _ _ bounds.sync-W, (shr_send _ _ _ gate, tt)))))))))
