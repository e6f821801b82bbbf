use Rattle.std.proofs.Common.{◌≡◌, ◌-◌, true}
use Rattle.std.specs.FinMap.{is_sorted}
use Rattle.puffin_data.specs.Value.Decoding.{times_at}
use Rattle.puffin_data.proofs.lemmas.Loops.{with_front}
use Rattle.puffin_frames.specs.Packet.Structs.{stream_at}
use Rattle.puffin_threads.specs.Thread.ThreadKey.{key_cmp}
use Rattle.puffin_frames.specs.inner.Pairs.{pairs_of}
use Rattle.puffin_frames.proofs.frame_data.decode.read_counted_streams.Given as goal

-- the streams that were read, with what is left to read, are what the reading gives; they are in order
abbrev pub invariant-streams : goal.invariant-streams
invariant-streams l = record {
  so_far : with_front (pairs_of l.streams.entries) (times_at (stream_at l.packed) (l.count - l.counter) l.cursor) ≡ times_at (stream_at l.packed) l.count l.initial.cursor;
  sorted : is_sorted key_cmp (pairs_of l.streams.entries) ≡ true;
}
