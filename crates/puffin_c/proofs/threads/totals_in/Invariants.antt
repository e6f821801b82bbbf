-- The frames so far were given, could be unpacked, and are in the totals.
use Rattle.std.proofs.Common.{◌≡◌, List, length}
use Rattle.std.specs.Prelude.{Some}
use Rattle.puffin_frames.specs.Frame.Streams.{Streams}
use Rattle.puffin_frames.specs.Packet.Stored.{Stored}
use Rattle.puffin_threads.specs.Thread.ThreadKey.{by_key}
use Rattle.puffin_view.specs.View.FrameFile.{HasGiven}
use Rattle.puffin_c.specs.Threads.{AreOpened, totals_of}
use Rattle.puffin_c.proofs.threads.totals_in.Given as goal

abbrev pub invariant-frames : goal.invariant-frames
invariant-frames l =
    (stored : List Stored) × (frames : List Streams) × HasGiven (Some l.fn.file) (Some l.source.unread.now) stored × AreOpened stored frames
    × (by_key l.threads.totals.entries ≡ totals_of frames) × (length stored ≡ l.counter)
