use Rattle.std.proofs.Common.{◌≡◌, ◌-◌, List}
use Rattle.puffin_data.specs.Value.Decoding.{times_at}
use Rattle.puffin_data.proofs.lemmas.Loops.{with_front}
use Rattle.puffin_frames.specs.Packet.Structs.{detail_at}
use Rattle.puffin_threads.specs.Details.{Details}
use Rattle.puffin_frames.proofs.frame_data.decode.pass_details.Given as goal

-- some details, with what is left to skip, are what the reading gives
abbrev pub invariant-details : goal.invariant-details
invariant-details l =
    (before : List Details) × (with_front before (times_at detail_at (l.count - l.counter) l.cursor)
    ≡ times_at detail_at l.count l.initial.cursor)
