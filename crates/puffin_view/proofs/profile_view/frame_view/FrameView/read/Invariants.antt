use Rattle.std.proofs.Common.{◌≡◌, List, length}
use Rattle.puffin_frames.specs.Packet.Stored.{Stored}
use Rattle.puffin_view.specs.View.File.{IsViewOf}
use Rattle.puffin_view.specs.View.FrameFile.{HasGiven}
use Rattle.puffin_view.proofs.profile_view.frame_view.FrameView.read.Given as goal

-- the frames so far were given by the reader, and the view took each of them
abbrev pub invariant-packets : goal.invariant-packets
invariant-packets g l =
    (frames : List Stored) × HasGiven (g.S.Source.remaining l.fn.source) (g.S.Source.remaining l.source) frames
    × IsViewOf frames l.view × (length frames ≡ l.counter)
    × (g.S.Source.failures l.source ≡ g.S.Source.failures l.fn.source)
