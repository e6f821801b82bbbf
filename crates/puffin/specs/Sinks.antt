-- The sinks of a profiler: a list sorted by number.
pub mod Handing
use Rattle.std.specs.Prelude.{◌≡◌, ◌≢◌, ℕ, List, [], ◌∷◌, ◌++◌, All}
use Rattle.puffin.specs.declared.global_profiler.sink.Sink.{Sink}
use Rattle.puffin.specs.declared.global_profiler.sinks.SinkEntry.{SinkEntry}

module _ {I : Type 0} {F : I → Type 0} where
  -- a sink is appended under this number
  abbrev pub PutsIn : ℕ → Sink I F → List (SinkEntry I F) → List (SinkEntry I F) → Type 0
  PutsIn id sink old new = new ≡ old ++ record { id = id; sink = sink } ∷ []

  -- the sink with this number is removed, and the others stay in order
  abbrev pub TakesOut : ℕ → Sink I F → List (SinkEntry I F) → List (SinkEntry I F) → Type 0
  TakesOut id sink old new = (before after : List (SinkEntry I F))
      × (old ≡ before ++ record { id = id; sink = sink } ∷ after)
      × (new ≡ before ++ after)

  -- no sink has this number
  abbrev pub HasNone : ℕ → List (SinkEntry I F) → Type 0
  HasNone id sinks = All (λ entry. entry.id ≢ id) sinks
