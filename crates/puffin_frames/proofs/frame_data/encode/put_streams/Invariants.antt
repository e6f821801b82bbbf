use Rattle.puffin_data.specs.Value.Layout.{pair}
use Rattle.puffin_frames.specs.Packet.Structs.{key_layout, facts_layout}
use Rattle.puffin_frames.specs.inner.Pairs.{pairs_of}
use Rattle.puffin_frames.proofs.Appending.{Writes}
use Rattle.puffin_frames.proofs.FormsOfAll.{Fits}
use Rattle.puffin_frames.proofs.frame_data.encode.put_streams.Given as goal

-- the entries that the loop has left are still to be written
abbrev pub invariant-streams : goal.invariant-streams
invariant-streams l =
    Writes (pair key_layout (facts_layout l.packed)) Fits l.initial.out.items l.out.items (pairs_of l.thread-iterator)
    (pairs_of l.streams.entries)
