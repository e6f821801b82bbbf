-- The tests of a report before it is added.
use Rattle.std.specs.Prelude.{◌≡◌, ◌+◌, length, ◌⊎◌}
use Rattle.std.specs.FinMap as map
use Rattle.puffin_data.specs.declared.error.Error.{Error}
use Rattle.puffin_data.specs.declared.error.Error.TheVariants.{UnlikeForms}
use Rattle.puffin_data.specs.Honesty.{StreamFacts}
use Rattle.puffin_threads.specs.Thread.ThreadKey.{ThreadKey}
use Rattle.puffin_frames.specs.declared.frame_data.meta.FrameMeta.{FrameMeta}
use Rattle.puffin_frames.specs.Frame.Sums.{total_bytes, total_scopes, IsOrdered, DurationFits}
use Rattle.puffin_collector.specs.Collector.State.{Collected, range_with, IsUnlike}

-- `joined` is the meta of a frame of all that is pending and this stream
pub record AddsUp (old : Collected) (joined : FrameMeta) (stream : StreamFacts) : Type 0 where
  pub frame_index : joined.frame_index ≡ old.index
  pub num_bytes : joined.num_bytes ≡ total_bytes (map.values old.streams) + length stream.bytes
  pub num_scopes : joined.num_scopes ≡ total_scopes (map.values old.streams) + stream.num_scopes
  pub range : joined.range_ns ≡ range_with old stream
  pub duration : IsOrdered joined.range_ns → DurationFits joined.range_ns

-- the error is `UnlikeForms` if the forms differ, else this cause
abbrev pub IsFirstCause : Collected → ThreadKey → StreamFacts → (cause error : Error) → Type 0
IsFirstCause old thread stream cause error =
    ((error ≡ UnlikeForms) × IsUnlike old thread stream)
    ⊎ ((error ≡ cause) × ¬ IsUnlike old thread stream)
