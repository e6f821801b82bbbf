-- What remains of settling where the state that it speaks of is forgotten.
use Rattle.std.proofs.Common.{◌≡◌, ℕ, List, Result, Ok, Err}
use Rattle.std.specs.Prelude.{OnOk, IfOk}
use Rattle.std.specs.FinMap as map
use Rattle.puffin_frames.specs.Frame.Contents.{Streams}
use Rattle.puffin_frames.specs.Frame.Sums.{total_scopes}
use Rattle.puffin.specs.declared.global_profiler.booked.Settled.{Settled}
use Rattle.puffin.specs.Happenings.{Happening, History}
use Rattle.puffin.specs.Recounted.{Recounts}

-- what all shares recount, of the streams that were pending
pub knows_all : {E : Type 0} (r : Result Settled E) (n : ℕ) (accounts : List (ℕ × List Happening))
    (log : History) (streams : Streams) → OnOk r (Recounts n accounts log streams)
    → IfOk r (λ s. s.pending ≡ total_scopes (map.values streams))
    → IfOk r (λ s. (l : History) × (t : Streams) × Recounts n accounts l t × (s.pending ≡ total_scopes (map.values t)))
knows_all (Ok s) n accounts log streams recounts pending = (log, streams, recounts, pending)
knows_all (Err e) n accounts log streams recounts pending = tt
