use Rattle.std.proofs.Common.{◌≡◌, ◌+◌, List, length}
use Rattle.std.specs.Prelude.{Some}
use Rattle.puffin_frames.specs.Packet.Stored.{Stored}
use Rattle.puffin_view.specs.View.FrameFile.{HasGiven}
use Rattle.puffin_c.proofs.file.check.Given as goal

-- the frames so far were given, are counted, and end at the offset
abbrev pub invariant-frames : goal.invariant-frames
invariant-frames l =
    (stored : List Stored) × HasGiven (Some l.fn.file) (Some l.source.unread.now) stored × (length stored ≡ l.counter)
    × (l.frames ≡ l.counter) × (l.offset + length l.source.unread.now ≡ length l.fn.file)
