-- Which scopes a piece of code adds to a thread, and what is reported of them meanwhile.
pub use Rattle.puffin.specs.Code.{MayBe, scope_if, span_at}
use Rattle.std.specs.Prelude.{◌≡◌, ◌⊎◌, ℕ, ◌<◌, ℤ, false, List, [], ◌++◌, Option, Some, None, unwrap_or}
use Rattle.std.specs.FinMap.{get}
use Rattle.puffin_data.specs.Forest.{Forest}
use Rattle.puffin_data.specs.Forest.Tour.{Event, tour, IsBalanced}
use Rattle.puffin_data.specs.Honesty.{StreamFacts, AreHonestFacts}
use Rattle.puffin_data.specs.Text.{cut_text}
use Rattle.puffin_threads.specs.Thread.ThreadKey.{ThreadKey, has_same_key}
use Rattle.puffin_threads.specs.Details.{Details}
use Rattle.puffin_collector.specs.Collector.State.{no_scopes}
use Rattle.puffin_scopes.specs.declared.guard_state.GuardState.{GuardState}
use Rattle.puffin.specs.declared.light.scopes.Place.{Place}
use Rattle.puffin_accounts.specs.Moments.{Moment, num_open, key_at}
use Rattle.puffin_accounts.specs.Times.{Timed}

-- an honest record of these events, which are a forest's
pub record SpellsEvents (spelled : StreamFacts) (events : List Event) : Type 0 where
  pub forest : Forest
  pub honest : AreHonestFacts spelled forest
  pub toured : tour forest ≡ events

-- a stream before and after these events were reported to it: nothing was reported, or the stream spells them after what it
-- spelled before
abbrev pub Gains : Option StreamFacts → Option StreamFacts → List Event → Type 0
Gains old new reported =
    ((new ≡ old) × (reported ≡ []))
    ⊎ ((spelled : StreamFacts)
    × (new ≡ Some spelled)
    × ((before : List Event) → SpellsEvents (unwrap_or old no_scopes) before →
    SpellsEvents spelled (before ++ reported)))

-- Where no scope is open: first events and the thread's details were reported, and the others wait. Nothing is lost, doubled or
-- moved.
pub record PassesOn {C : Type 0} (old new : Moment C) (events : List Event) : Type 0 where
  pub reported : List Event
  pub sent : List Details
  pub events_kept : reported ++ new.thread.word ≡ old.thread.word ++ events
  pub details_kept : sent ++ new.thread.details ≡ old.thread.details
  -- what waits is whole scopes, if it was before
  pub balanced : IsBalanced old.thread.word → IsBalanced new.thread.word
  pub stream : Gains (get old.collected.streams (key_at new)) (get new.collected.streams (key_at new))
      reported
  pub others : (other : ThreadKey) → has_same_key other (key_at new) ≡ false →
      get new.collected.streams other ≡ get old.collected.streams other
  -- before the first scope nothing is reported
  pub unstarted : new.thread.first_start ≡ None →
      (new.collected.streams ≡ old.collected.streams) × (reported ≡ [])
  -- nothing else that is collected changes
  pub collected : new.collected
      ≡ record old.collected {
        reported = new.collected.reported;
        streams = new.collected.streams;
        new_details = old.collected.new_details ++ sent;
      }

-- Code added these scopes to a thread, in order and with this nesting. Within an open scope nothing is reported.
pub record AddsScopes {C : Type 0} (answers : C → ℤ → C → Type 0) (old new : Moment C)
    (scopes : Forest) : Type 0 where
  pub timed : Timed answers old new (tour scopes)
  pub word : 0 < num_open old → new.thread.word ≡ old.thread.word ++ tour scopes
  pub details : 0 < num_open old → new.thread.details ≡ old.thread.details
  pub collected : 0 < num_open old → new.collected ≡ old.collected
  pub none_open : num_open old ≡ 0 → num_open new ≡ 0
  pub passed : num_open old ≡ 0 → PassesOn old new (tour scopes)

-- A guard was opened at this place, in this state, and dropped after code that added these scopes.
pub record AddsScope {C : Type 0} (answers : C → ℤ → C → Type 0) (old new : Moment C)
    (place : Place) (text : List ℕ) (state : GuardState) (children : Forest) : Type 0 where
  pub start : ℤ
  pub stop : ℤ
  pub adds : AddsScopes answers old new
      (scope_if state (span_at place (cut_text old.thread.form text) start stop) children)
