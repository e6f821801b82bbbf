-- The rows and bytes so far and those of the streams that are left are all of them.
use Rattle.std.proofs.Common.{map}
use Rattle.puffin_c.specs.Lists.{stream_rows, streams_bytes}
use Rattle.puffin_view.proofs.lemmas.FrameStreams.{entry_of}
use Rattle.puffin_c.proofs.StreamLists.{AllRows, AllBytes}
use Rattle.puffin_c.proofs.streams.list_of.Given as goal

abbrev pub invariant-streams : goal.invariant-streams
invariant-streams l =
    AllRows l.list.rows.items l.list.bytes.items l.thread-iterator (stream_rows 0 (map entry_of l.frame.thread_streams.entries))
    × AllBytes l.list.bytes.items l.thread-iterator (streams_bytes (map entry_of l.frame.thread_streams.entries))
