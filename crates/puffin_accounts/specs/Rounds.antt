-- Rounds on a thread, each of code that runs and a frame that is asked for after it, and what the frames show.
use Rattle.std.specs.Prelude.{◌≡◌, ℕ, ◌+◌, ℤ, List, [], ◌∷◌, Option, Some, None, IfSome}
use Rattle.std.specs.Arc.{arc_value}
use Rattle.std.specs.List.{Contains}
use Rattle.std.specs.FinMap as map
use Rattle.std.specs.declared.sync.Arc.{Arc}
use Rattle.std.specs.declared.alloc.Global.{Global}
use Rattle.puffin_data.specs.declared.error.Error.{Error}
use Rattle.puffin_data.specs.declared.data.form.Form.{Form}
use Rattle.puffin_data.specs.Forest.{Forest, empty, append}
use Rattle.puffin_data.specs.Forest.Measures.{scope_count}
use Rattle.puffin_data.specs.Honesty.{StreamFacts}
use Rattle.puffin_threads.specs.Thread.ThreadProfiler.{thread_of}
use Rattle.puffin_threads.specs.Thread.ThreadKey.{ThreadKey}
use Rattle.puffin_threads.specs.Thread.Calls.{new_thread, num_ended}
use Rattle.puffin_threads.specs.Details.{Details}
use Rattle.puffin_frames.specs.declared.frame_data.frame.FrameData.{FrameData}
use Rattle.puffin_frames.specs.Frame.Contents.{frame_details}
use Rattle.puffin_collector.specs.Collector.State.{Collected}
use Rattle.puffin_collector.specs.Collector.Collecting.{Collects}
use Rattle.puffin.specs.declared.global_profiler.profiler.GlobalProfiler.{GlobalProfiler}
use Rattle.puffin.specs.declared.light.thread.Thread.{Thread}
use Rattle.puffin.specs.Guards.{BeginsAt, EndsIn}
use Rattle.puffin.specs.Lent.{with_reporter}
use Rattle.puffin.specs.LightThread.{profiler_of, reporter_of}
use Rattle.puffin.specs.Profiler.{collected_of}
use Rattle.puffin_accounts.specs.Moments.{Moment, moment_by, key_at, Sees, AcceptsThere, RefusesThere}
use Rattle.puffin_accounts.specs.Times.{Timed}
use Rattle.puffin_accounts.specs.Running.{Code, Runs, AreScopesOf}
use Rattle.puffin_accounts.specs.Showing.{ShowsForest, listed_next}
use Rattle.puffin_accounts.specs.Steps.{tours}

-- code that ran, and the frame that was taken after it, if there was one
pub record Round : Type 0 where
  pub code : Code
  pub frame : Option (Arc FrameData Global)

module _ {C R : Type 0} (answers : C → ℤ → C → Type 0) (seen : R → Collected)
    (accepts : R → ThreadKey → List Details → StreamFacts → R → Type 0)
    (refuses : R → ThreadKey → List Details → StreamFacts → Error → R → Type 0) where
  -- the calls of a round were made: those of its code, and then the frame call
  pub record MakesRound (round : Round) (old new : Thread C R) : Type 0 where
    pub ran : Thread C R
    pub runs : Runs (BeginsAt answers accepts refuses) (EndsIn answers accepts refuses) round.code old ran
    pub took : Collects (seen (reporter_of ran)) round.frame (seen (reporter_of new))
    pub thread : new ≡ with_reporter ran (reporter_of new)

  -- the rounds were made one after the other
  abbrev pub MakesRounds : List Round → Thread C R → Thread C R → Type 0
  MakesRounds [] old new = new ≡ old
  MakesRounds (round ∷ later) old new =
      (next : Thread C R) × MakesRound round old next × MakesRounds later next new

-- The same for a thread that reports to a profiler of its own.
module _ {C I : Type 0} {F : I → Type 0} (answers : C → ℤ → C → Type 0) where
  -- the calls of a round were made
  abbrev pub RunsRound : Round → Thread C (GlobalProfiler I F) → Thread C (GlobalProfiler I F) →
      Type 0
  RunsRound = MakesRound answers collected_of AcceptsThere RefusesThere

  -- the rounds were made one after the other
  abbrev pub RunsRounds : List Round → Thread C (GlobalProfiler I F) →
      Thread C (GlobalProfiler I F) → Type 0
  RunsRounds = MakesRounds answers collected_of AcceptsThere RefusesThere

-- A frame's only stream spells this forest, and the frame lists these details; or there is no frame, and no scope.
abbrev pub Shows : Option (Arc FrameData Global) → ℕ → ThreadKey → List Details → Forest → Type 0
Shows None index key listed shown = shown ≡ empty
Shows (Some frame) index key listed shown =
    ShowsForest (arc_value frame) index key shown × (frame_details (arc_value frame) ≡ listed)

-- the frame, if there is one, lists these details
abbrev pub Lists : Option (Arc FrameData Global) → Details → Type 0
Lists frame details = IfSome frame (λ taken. Contains (frame_details (arc_value taken)) details)

-- what the next frame lists, after a frame call with this answer: what a frame has listed isn't listed again
abbrev pub listed_after : Option (Arc FrameData Global) → List Details → List Details
listed_after None listed = listed
listed_after (Some frame) listed = []

-- In each round, these scopes of its code began; and its frame shows, in order, the scopes that had waited and those that began,
-- but for the last ones, which wait for the next round.
abbrev pub ShowsEach : (known : ℕ) → Form → ThreadKey → (index : ℕ) → (listed : List Details) →
    (waited : Forest) → List Round → List Forest → (waits : Forest) → Type 0
ShowsEach known form key index listed waited [] [] waits = waits ≡ waited
ShowsEach known form key index listed waited (round ∷ rounds) (began ∷ later) waits =
    (shown left : Forest)
    × AreScopesOf known form round.code began
    × (append shown left ≡ append waited began)
    × Shows round.frame index key listed shown
    × ShowsEach known form key (index + 1) (listed_after round.frame listed) left rounds later waits
ShowsEach known form key index listed waited _ _ waits = ⊥

-- Rounds were made on a thread that had nothing to report. The scopes of their code that began are in their frames, once each
-- and in order, at times that the clock gave, but for this number of scopes that wait for a report.
pub record ShowsRounds {C : Type 0} (answers : C → ℤ → C → Type 0) (first : Moment C)
    (rounds : List Round) (waiting : ℕ) : Type 0 where
  pub began : List Forest
  pub now : Moment C
  pub timed : Timed answers first now (tours began)
  pub waits : Forest
  pub counted : scope_count waits ≡ waiting
  pub shows : ShowsEach first.known first.thread.form (key_at now) first.collected.index
      (listed_next first) empty rounds began waits

-- Rounds on a new thread, whose profiler has nothing to hand out, show the scopes of their code that began.
abbrev pub RoundsShow : {C R : Type 0} → (C → ℤ → C → Type 0) →
    (R → ThreadKey → List Details → StreamFacts → R → Type 0) →
    (R → ThreadKey → List Details → StreamFacts → Error → R → Type 0) → Type 0
RoundsShow {C} {R} answers accepts refuses =
    (seen : R → Collected) → Sees seen accepts refuses →
    (rounds : List Round) (old new : Thread C R) (name : List ℕ) (form : Form) →
    thread_of (profiler_of old) ≡ new_thread name form →
    (seen (reporter_of old)).streams ≡ map.empty →
    MakesRounds answers seen accepts refuses rounds old new →
    ShowsRounds answers (moment_by seen old) rounds (num_ended (thread_of (profiler_of new)).word)
