-- The frames so far were given by the reader, and summed up.
use Rattle.std.proofs.Common.{◌≡◌, List, length}
use Rattle.puffin_threads.specs.Thread.ThreadKey.{key_of}
use Rattle.puffin_frames.specs.Packet.Stored.{Stored}
use Rattle.puffin_view.specs.View.FrameFile.{HasGiven}
use Rattle.puffin_report.specs.inner.Summing.{HasSummed}
use Rattle.puffin_report.proofs.summary.summarize.Given as goal

abbrev pub invariant-frames : goal.invariant-frames
invariant-frames g l =
    (stored : List Stored) × HasGiven (g.S.Source.remaining l.fn.source) (g.S.Source.remaining l.source) stored
    × HasSummed (key_of l.fn.thread) stored l.sum × (length stored ≡ l.counter)
    × (g.S.Source.failures l.source ≡ g.S.Source.failures l.fn.source)
