-- The numbers of sinks are strictly increasing.
use Rattle.std.specs.Prelude.{ℕ, List, [], ◌∷◌, ◌++◌, map}
use Rattle.std.specs.List.Sorted.{IsStrictlyIncreasing}
use Rattle.puffin.specs.declared.global_profiler.sinks.SinkEntry.{SinkEntry}

module _ {I : Type 0} {F : I → Type 0} where
  -- the numbers are above 0, strictly increasing, and below the next one
  abbrev pub AreNumbered : List (SinkEntry I F) → ℕ → Type 0
  AreNumbered sinks next = IsStrictlyIncreasing (0 ∷ map (λ entry. entry.id) sinks ++ next ∷ [])
