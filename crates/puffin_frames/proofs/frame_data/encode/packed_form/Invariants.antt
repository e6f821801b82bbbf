use Rattle.std.proofs.Common.{◌≡◌}
use Rattle.puffin_frames.specs.inner.Pairs.{pairs_of}
use Rattle.puffin_frames.specs.Packet.Structs.{form_of_all}
use Rattle.puffin_frames.proofs.frame_data.encode.packed_form.Given as goal

-- what is left has the form of all
abbrev pub invariant-streams : goal.invariant-streams
invariant-streams l = form_of_all (pairs_of l._thread-iterator) ≡ form_of_all (pairs_of l.streams.entries)
