-- Any list of calls on one thread: nothing that they record is lost, doubled or moved.
use Rattle.std.specs.Prelude.{◌≡◌, ◌⊎◌, ℕ, ℤ, Bool, false, List, [], ◌∷◌, ◌++◌, Option, Some, None, Result, Ok, Err, IfOk, IfErr}
use Rattle.std.specs.List.{AllZip}
use Rattle.std.specs.FinMap.{get, empty}
use Rattle.std.specs.Arc.{arc_value}
use Rattle.std.specs.declared.sync.Arc.{Arc}
use Rattle.std.specs.declared.alloc.Global.{Global}
use Rattle.puffin_data.specs.declared.error.Error.{Error}
use Rattle.puffin_data.specs.declared.data.form.Form.{Form}
use Rattle.puffin_data.specs.Forest.{Forest}
use Rattle.puffin_data.specs.Forest.Tour.{Event, Open, Close, tour}
use Rattle.puffin_data.specs.Honesty.{StreamFacts}
use Rattle.puffin_data.specs.Text.{cut_text}
use Rattle.puffin_threads.specs.Thread.ThreadProfiler.{thread_of, clock_of}
use Rattle.puffin_threads.specs.Thread.ThreadKey.{ThreadKey, has_same_key}
use Rattle.puffin_threads.specs.Thread.Calls.{new_thread}
use Rattle.puffin_threads.specs.Thread.Closing.{Reports}
use Rattle.puffin_threads.specs.Details.{Details}
use Rattle.puffin_frames.specs.declared.frame_data.frame.FrameData.{FrameData}
use Rattle.puffin_collector.specs.Collector.State.{Collected}
use Rattle.puffin_collector.specs.Collector.Collecting.{Collects, KeepsPending}
use Rattle.puffin_scopes.specs.declared.guard_state.GuardState.{GuardState}
use Rattle.puffin_scopes.specs.declared.guard_state.GuardState.TheVariants.{On, Off, Refused}
use Rattle.puffin.specs.declared.light.thread.Thread.{Thread}
use Rattle.puffin.specs.declared.light.scopes.Place.{Place}
use Rattle.puffin.specs.LightThread.{profiler_of, reporter_of, scopes_of}
use Rattle.puffin.specs.Guards.{BeginsAt, EndsIn}
use Rattle.puffin_accounts.specs.Moments.{Moment, moment_by, key_at, Sees}
use Rattle.puffin_accounts.specs.Times.{Timed}
use Rattle.puffin_accounts.specs.Adding.{SpellsEvents, MayBe}
use Rattle.puffin_accounts.specs.Showing.{ShowsForest}

-- a call on a thread, with its outcome
pub data Call : Type 0 where
  begins : (place : Place) → (text : List ℕ) → (state : GuardState) → Call
  ends : (offset : ℕ) → Call
  reports : (result : Result Bool Error) → Call
  frame : (result : Result (Option (Arc FrameData Global)) Error) → Call

module _ {C R : Type 0} (answers : C → ℤ → C → Type 0) (seen : R → Collected)
    (accepts : R → ThreadKey → List Details → StreamFacts → R → Type 0)
    (refuses : R → ThreadKey → List Details → StreamFacts → Error → R → Type 0) where
  -- what each call's contract says of the thread before and after
  abbrev pub Does : Call → Thread C R → Thread C R → Type 0
  Does (begins place text state) old new =
      BeginsAt answers accepts refuses old place text state new
  Does (ends offset) old new = EndsIn answers accepts refuses old offset new
  Does (reports result) old new =
      Reports accepts refuses (thread_of (profiler_of old)) (thread_of (profiler_of new))
      (reporter_of old) (reporter_of new) result
      × (clock_of (profiler_of new) ≡ clock_of (profiler_of old))
      × (scopes_of new ≡ scopes_of old)
  Does (frame result) old new =
      IfOk result (λ taken. Collects (seen (reporter_of old)) taken (seen (reporter_of new)))
      × IfErr result (λ error. KeepsPending (seen (reporter_of old)) error (seen (reporter_of new)))
      × (profiler_of new ≡ profiler_of old)
      × (scopes_of new ≡ scopes_of old)

  -- the calls were made one after the other
  abbrev pub Run : Thread C R → List Call → Thread C R → Type 0
  Run old [] new = moment_by seen new ≡ moment_by seen old
  Run old (call ∷ later) new =
      (next : Thread C R) × Does call old next × Run next later new

-- The event that a call records, if any, where the thread knows that many places. A refused call says why.
abbrev pub Marks : ℕ → Form → Call → List Event → Type 0
Marks known form (begins place text (On offset)) events =
    MayBe known place (On offset)
    × (start : ℤ) × (events ≡ Open place.id (cut_text form text) start ∷ [])
Marks known form (begins place text Off) events = events ≡ []
Marks known form (begins place text (Refused error)) events =
    MayBe known place (Refused error) × (events ≡ [])
Marks known form (ends offset) events = (events ≡ []) ⊎ ((stop : ℤ) × (events ≡ Close stop ∷ []))
Marks known form (reports result) events = events ≡ []
Marks known form (frame result) events = events ≡ []

-- all of these events, one list after the other
abbrev pub flat : List (List Event) → List Event
flat [] = []
flat (word ∷ words) = word ++ flat words

-- the frames that were handed out, in order
abbrev pub frames_in : List Call → List FrameData
frames_in [] = []
frames_in (frame (Ok (Some taken)) ∷ later) = arc_value taken ∷ frames_in later
frames_in (frame (Ok None) ∷ later) = frames_in later
frames_in (frame (Err error) ∷ later) = frames_in later
frames_in (begins place text state ∷ later) = frames_in later
frames_in (ends offset ∷ later) = frames_in later
frames_in (reports result ∷ later) = frames_in later

-- the events of these forests, one after the other
abbrev pub tours : List Forest → List Event
tours [] = []
tours (forest ∷ later) = tour forest ++ tours later

-- the frame's only stream stands under this thread's name, and spells this forest
abbrev pub ShowsOf : List ℕ → FrameData → Forest → Type 0
ShowsOf name shown forest =
    (index : ℕ) × (key : ThreadKey) × (key.name ≡ name) × ShowsForest shown index key forest

-- these events of the thread, and nothing else, are due for the next frame
pub record IsDue {C : Type 0} (moment : Moment C) (events : List Event) : Type 0 where
  pub here : ((get moment.collected.streams (key_at moment) ≡ None) × (events ≡ []))
      ⊎ ((stream : StreamFacts)
      × (get moment.collected.streams (key_at moment) ≡ Some stream)
      × SpellsEvents stream events)
  pub only : (other : ThreadKey) → has_same_key other (key_at moment) ≡ false →
      get moment.collected.streams other ≡ None
  -- before the first scope there is nothing
  pub unstarted : moment.thread.first_start ≡ None →
      (events ≡ []) × (moment.thread.word ≡ []) × (moment.collected.streams ≡ empty)

-- What the calls of a run did: each records at most its own event, at the time that the clock gave; and the events shown by the
-- frames, those that are due and those that wait are, one after the other, those that were due and waited before, and then those
-- that were recorded.
pub record Accounts {C : Type 0} (answers : C → ℤ → C → Type 0) (old : Moment C) (due : List Event)
    (calls : List Call) (new : Moment C) : Type 0 where
  pub events : List (List Event)
  pub marked : AllZip (Marks old.known old.thread.form) calls events
  pub timed : Timed answers old new (flat events)
  pub shown : List Forest
  pub frames : AllZip (ShowsOf old.thread.name) (frames_in calls) shown
  pub now_due : List Event
  pub is_due : IsDue new now_due
  pub kept : tours shown ++ (now_due ++ new.thread.word) ≡ (due ++ old.thread.word) ++ flat events

-- Whatever list of calls is made on a thread, it accounts for all that they record: nothing is lost, doubled or moved.
abbrev pub CallsAccount : {C R : Type 0} → (C → ℤ → C → Type 0) →
    (R → ThreadKey → List Details → StreamFacts → R → Type 0) →
    (R → ThreadKey → List Details → StreamFacts → Error → R → Type 0) → Type 0
CallsAccount {C} {R} answers accepts refuses =
    (seen : R → Collected) → Sees seen accepts refuses →
    (calls : List Call) (old new : Thread C R) (due : List Event) →
    Run answers seen accepts refuses old calls new → IsDue (moment_by seen old) due →
    Accounts answers (moment_by seen old) due calls (moment_by seen new)

-- a new thread that reports to what has collected nothing has nothing due
abbrev pub NoneDueAtFirst : Type 0 → Type 0
NoneDueAtFirst C =
    (moment : Moment C) (name : List ℕ) (form : Form) → moment.thread ≡ new_thread name form →
    moment.collected.streams ≡ empty → IsDue moment []

-- a frame call that answers that there is no frame says that nothing was due
abbrev pub NoFrameNothingDue : Type 0 → Type 0
NoFrameNothingDue C =
    (moment : Moment C) (due : List Event) (later : Collected) → IsDue moment due →
    Collects {A = Global} moment.collected None later → due ≡ []
