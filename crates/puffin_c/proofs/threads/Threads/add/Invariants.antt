-- The streams that are left lead to the totals with all of the frame's streams.
use Rattle.std.proofs.Common.{◌≡◌, map}
use Rattle.std.specs.Prelude.{fold}
use Rattle.puffin_threads.specs.Thread.ThreadKey.{by_key}
use Rattle.puffin_c.specs.Threads.{with_stream}
use Rattle.puffin_view.proofs.lemmas.FrameStreams.{entry_of}
use Rattle.puffin_c.proofs.threads.Threads.add.Given as goal

abbrev pub invariant-streams : goal.invariant-streams
invariant-streams l =
    fold with_stream (by_key l.self.totals.entries) (map entry_of l.thread-iterator)
    ≡ fold with_stream (by_key l.initial.self.totals.entries) (map entry_of l.frame.thread_streams.entries)
