-- What frames have of each thread.
use Rattle.std.specs.Prelude.{◌≡◌, ◌+◌, ◌-◌, ◌^◌, pos, negsuc, List, ◌++◌, length, fold, unwrap_or}
use Rattle.std.specs.FinMap as map
use Rattle.std.specs.Int.{int_min, int_max}
use Rattle.puffin_data.specs.Honesty.{StreamFacts}
use Rattle.puffin_threads.specs.Thread.ThreadKey.{ThreadKey, key_cmp}
use Rattle.puffin_frames.specs.Frame.Streams.{Streams}
use Rattle.puffin_view.specs.View.Stats.{cut}
use Rattle.puffin_view.specs.declared.thread_totals.ThreadTotals.{ThreadTotals}

-- the totals of a thread without frames
abbrev pub no_totals : ThreadTotals
no_totals = record {
  frames = 0;
  scopes = 0;
  bytes = 0;
  range_ns = (pos (2 ^ 63 - 1), negsuc (2 ^ 63 - 1));
}

-- with the thread's stream of one more frame
abbrev pub totals_with : ThreadTotals → StreamFacts → ThreadTotals
totals_with totals stream = record {
  frames = cut (totals.frames + 1);
  scopes = cut (totals.scopes + stream.num_scopes);
  bytes = cut (totals.bytes + length stream.bytes);
  range_ns = (
    int_min totals.range_ns.0 stream.range_ns.0,
    int_max totals.range_ns.1 stream.range_ns.1,
  );
}

-- the totals of each thread
abbrev pub Totals : Type 0
Totals = map.FinMap key_cmp ThreadTotals

-- with one stream of one more frame, given with its thread's key
abbrev pub with_stream : Totals → ThreadKey × StreamFacts → Totals
with_stream totals entry =
    map.insert totals entry.0 (
    totals_with (unwrap_or (map.get totals entry.0) no_totals) entry.1)

-- with all streams of one more frame
abbrev pub with_frame : Totals → Streams → Totals
with_frame totals streams = fold with_stream totals (map.entries streams)

-- with some streams of one more frame, but not with those that come behind them
abbrev pub HasSome : Totals → Streams → Totals → Type 0
HasSome old streams new =
    (some others : List (ThreadKey × StreamFacts))
    × (map.entries streams ≡ some ++ others)
    × (new ≡ fold with_stream old some)

-- the totals of these frames
abbrev pub totals_of : List Streams → Totals
totals_of frames = fold with_frame map.empty frames
