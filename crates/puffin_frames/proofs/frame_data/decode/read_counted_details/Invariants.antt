use Rattle.std.proofs.Common.{◌≡◌, ◌-◌}
use Rattle.puffin_data.specs.Value.Decoding.{times_at}
use Rattle.puffin_data.proofs.lemmas.Loops.{with_front}
use Rattle.puffin_frames.specs.Packet.Structs.{detail_at}
use Rattle.puffin_threads.specs.Details.{shared_details}
use Rattle.puffin_frames.proofs.frame_data.decode.read_counted_details.Given as goal

-- the details that were read, with what is left to read, are what the reading gives
abbrev pub invariant-details : goal.invariant-details
invariant-details l =
    with_front (shared_details l.all.items) (times_at detail_at (l.count - l.counter) l.cursor)
    ≡ times_at detail_at l.count l.initial.cursor
