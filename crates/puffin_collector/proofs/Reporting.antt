-- What is kept beside the pending streams, with one report more.
use Rattle.std.proofs.Common.{◌≡◌, ℕ, ◌+◌, ◌^◌, ◌<◌, ◌≤◌, ◌⊎◌, inl, inr, length, ◌∷◌, Bool, true, false, MatchBool, ap, ◌∙◌, subst, arith, ℤ}
use Rattle.std.specs.Int.{int_min, int_max}
use Rattle.std.specs.FinMap as map
use Rattle.std.proofs.lemmas.Int.{ints, clamps}
use Rattle.puffin_data.specs.Forest.{Forest}
use Rattle.puffin_data.specs.Honesty.{StreamFacts, AreHonestFacts}
use Rattle.puffin_threads.specs.Thread.ThreadKey.{ThreadKey}
use Rattle.puffin_frames.specs.Frame.Contents.{Streams, reported_to, AreHonest}
use Rattle.puffin_frames.specs.Frame.Holding.{HaveLayout}
use Rattle.puffin_frames.specs.Frame.Sums.{total_bytes, total_scopes, joined_start, joined_stop, meta_of, IsOrdered, DurationFits}
use Rattle.puffin_frames.specs.declared.frame_data.meta.FrameMeta.{FrameMeta}
use Rattle.puffin_frames.proofs.lemmas.Ranges.{least_start-one, greatest_stop-one}
use Rattle.puffin_collector.specs.Collector.State.{Collected, PendingFits, range_with, IsTooLong}
use Rattle.puffin_collector.specs.Collector.Collecting.{IsTallied}
use Rattle.puffin_collector.specs.inner.ReportSums.{AddsUp}

-- `meta` is that of a frame of all that is pending, and `joined` is what it becomes with one stream more
pub record Joins (old : Collected) (meta joined : FrameMeta) (stream : StreamFacts) : Type 0 where
  pub sums : meta ≡ meta_of old.index (map.values old.streams)
  pub frame_index : joined.frame_index ≡ meta.frame_index
  pub num_bytes : joined.num_bytes ≡ meta.num_bytes + length stream.bytes
  pub num_scopes : joined.num_scopes ≡ meta.num_scopes + stream.num_scopes
  pub start : joined.range_ns.0 ≡ int_min meta.range_ns.0 stream.range_ns.0
  pub stop : joined.range_ns.1 ≡ int_max meta.range_ns.1 stream.range_ns.1
  pub fit : (joined.num_bytes < 2 ^ 64) × (joined.num_scopes < 2 ^ 64)
  pub reported : old.reported + stream.num_scopes < 2 ^ 64

module _ (old : Collected) (meta joined : FrameMeta) (stream : StreamFacts) (joins : Joins old meta joined stream) where
  -- what the meta of all that is pending says, part by part
  bytes_are : meta.num_bytes ≡ total_bytes (map.values old.streams)
  bytes_are = ap (λ m. m.num_bytes) joins.sums

  scopes_are : meta.num_scopes ≡ total_scopes (map.values old.streams)
  scopes_are = ap (λ m. m.num_scopes) joins.sums

  start_is : meta.range_ns.0 ≡ joined_start (map.values old.streams)
  start_is = ap (λ m. m.range_ns.0) joins.sums

  stop_is : meta.range_ns.1 ≡ joined_stop (map.values old.streams)
  stop_is = ap (λ m. m.range_ns.1) joins.sums

  -- the sums fit 64 bits, because those of the joined meta do
  pub sums_fit : PendingFits old stream
  sums_fit = record {
    bytes = omega (arith, bytes_are, joins.num_bytes, joins.fit.0);
    scopes = omega (arith, scopes_are, joins.num_scopes, joins.fit.1);
    reported = joins.reported;
  }

  -- the joined meta's range is that of all that is pending and the stream
  pub range_is : joined.range_ns ≡ range_with old stream
  range_is =
      let streams = map.values old.streams in
      let first : joined.range_ns.0 ≡ joined_start (stream ∷ streams) =
      omega (arith, ints, clamps, joins.start, start_is, least_start-one stream streams) in
      let last : joined.range_ns.1 ≡ joined_stop (stream ∷ streams) =
      omega (arith, ints, clamps, joins.stop, stop_is, greatest_stop-one stream streams) in
      λ i. (first i, last i)

  -- the joined meta is that of a frame of all that is pending and the stream
  pub adds_up : (IsOrdered joined.range_ns → DurationFits joined.range_ns) → AddsUp old joined stream
  adds_up duration = record {
    frame_index = joins.frame_index ∙ ap (λ m. m.frame_index) joins.sums;
    num_bytes = omega (arith, bytes_are, joins.num_bytes);
    num_scopes = omega (arith, scopes_are, joins.num_scopes);
    range = range_is;
    duration = duration;
  }

-- what a report does to the sums of all streams, and to their honesty
pub record Laws (streams : Streams) (thread : ThreadKey) (stream : StreamFacts) (forest : Forest) : Type 0 where
  pub bytes : total_bytes (map.values (reported_to streams thread stream))
      ≡ total_bytes (map.values streams) + length stream.bytes
  pub scopes : total_scopes (map.values (reported_to streams thread stream))
      ≡ total_scopes (map.values streams) + stream.num_scopes
  pub start : joined_start (map.values (reported_to streams thread stream))
      ≡ int_min (joined_start (map.values streams)) stream.range_ns.0
  pub stop : joined_stop (map.values (reported_to streams thread stream))
      ≡ int_max (joined_stop (map.values streams)) stream.range_ns.1
  pub honest : AreHonest streams → AreHonestFacts stream forest → AreHonest (reported_to streams thread stream)

-- what is kept after a report, by these laws
pub kept_after : (old : Collected) (meta joined : FrameMeta) (thread : ThreadKey) (stream : StreamFacts) (forest : Forest) (reported : ℕ)
    → Laws old.streams thread stream forest → AddsUp old joined stream → IsTallied old.streams meta old.reported old.emitted
    → HaveLayout (reported_to old.streams thread stream) → AreHonestFacts stream forest
    → reported ≡ old.reported + stream.num_scopes
    → IsTallied (reported_to old.streams thread stream) joined reported old.emitted
kept_after old meta joined thread stream forest reported laws adds kept layout honest sum = record {
  sums = λ i. record {
    frame_index = joined.frame_index;
    range_ns = (first i, last i);
    num_bytes = bytes i;
    num_scopes = scopes i;
  };
  counted = omega (arith, kept.counted, ap (λ (m : FrameMeta). m.num_scopes) kept.sums, adds.num_scopes, sum);
  honest = laws.honest kept.honest honest;
  layout = layout;
  duration = adds.duration;
}
  where
    first : joined.range_ns.0 ≡ joined_start (map.values (reported_to old.streams thread stream))
    first =
        let range = ap (λ (range : ℤ × ℤ). range.0) adds.range in
        omega (arith, ints, clamps, range, least_start-one stream (map.values old.streams), laws.start)

    last : joined.range_ns.1 ≡ joined_stop (map.values (reported_to old.streams thread stream))
    last =
        let range = ap (λ (range : ℤ × ℤ). range.1) adds.range in
        omega (arith, ints, clamps, range, greatest_stop-one stream (map.values old.streams), laws.stop)

    bytes : joined.num_bytes ≡ total_bytes (map.values (reported_to old.streams thread stream))
    bytes = omega (arith, adds.num_bytes, laws.bytes)

    scopes : joined.num_scopes ≡ total_scopes (map.values (reported_to old.streams thread stream))
    scopes = omega (arith, adds.num_scopes, laws.scopes)

-- where bytes or scopes don't fit 64 bits, the sums don't fit
pub too_large : (old : Collected) (meta : FrameMeta) (stream : StreamFacts) → meta ≡ meta_of old.index (map.values old.streams)
    → (2 ^ 64 ≤ meta.num_bytes + length stream.bytes) ⊎ (2 ^ 64 ≤ meta.num_scopes + stream.num_scopes)
    → ¬ PendingFits old stream
too_large old meta stream sums (inl bytes) fits = omega (arith, ap (λ (m : FrameMeta). m.num_bytes) sums, bytes, fits.bytes)
too_large old meta stream sums (inr scopes) fits = omega (arith, ap (λ (m : FrameMeta). m.num_scopes) sums, scopes, fits.scopes)

-- ---- what `is_too_long` answers

-- the answer tells whether the range is too long
abbrev pub Tests : (answer : Bool) → (range : ℤ × ℤ) → Type 0
Tests answer range = MatchBool answer (IsTooLong range) (IsOrdered range → DurationFits range)

-- it says yes of a range that equals the other
pub too_long : (answer : Bool) (range other : ℤ × ℤ) → range ≡ other → Tests answer range → answer ≡ true → IsTooLong other
too_long true range other same test is = subst IsTooLong same test
too_long false range other same test is = absurd cc

-- it says no: the duration fits, unless the range is reversed
pub duration_fits : (answer : Bool) (range : ℤ × ℤ) → Tests answer range → answer ≡ false → IsOrdered range → DurationFits range
duration_fits true range test is = absurd cc
duration_fits false range test is = test

-- it says no of a range that equals the other
pub not_too_long : (answer : Bool) (range other : ℤ × ℤ) → range ≡ other → Tests answer range → answer ≡ false → ¬ IsTooLong other
not_too_long answer range other same test is =
    subst (λ range. ¬ IsTooLong range) same (λ long. long.1 (duration_fits answer range test is long.0))
