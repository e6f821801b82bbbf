-- What a session held before its commands (`Opening`), and what its accepted commands did (`Action`).
use Rattle.std.specs.Prelude.{ℕ, ◌==◌, ℤ, pos, Bool, if◌then◌else◌, List, [], ◌∷◌, fold, Option, Some, None}
use Rattle.std.specs.List.{list_any, filter_map, slice_index_or}
use Rattle.std.specs.Int.{int_max}
use Rattle.puffin_data.specs.declared.data.form.Form.{Form}
use Rattle.puffin_data.specs.declared.data.form.Form.TheVariants.{Short}
use Rattle.puffin_data.specs.Forest.Tour.{Event}
use Rattle.puffin_threads.specs.Thread.ThreadKey.{ThreadKey}
use Rattle.puffin_threads.specs.Thread.Calls.{Thread, new_thread}
use Rattle.puffin_threads.specs.Details.{Details}
use Rattle.puffin_threads.specs.Details.Collection.{Collection}

-- events, and the form of their texts
pub record Word : Type 0 where
  pub form : Form
  pub events : List Event

-- The state before: the threads; what is due, as words under infos in the order in which they were handed over; the next
-- frame's index; the number of scopes ever reported; the known details, those new in the next frame, in order, and whether the
-- next frame is to list all known ones.
pub record Opening : Type 0 where
  pub threads : List Thread
  pub due : List (ThreadKey × Word)
  pub index : ℕ
  pub reported : ℕ
  pub collection : Collection
  pub new_details : List Details
  pub wants_all : Bool

-- a scope was begun, with its whole text, or ended, with or without an accepted report
pub data Mark : Type 0 where
  begun : (id : ℕ) → (text : List ℕ) → Mark
  ended : (reported : Bool) → Mark

-- a mark, and the time that its command gives
pub record Call : Type 0 where
  pub at : ℤ
  pub mark : Mark

-- What a command with its reply did. A refused one did nothing, but some details may have become known.
pub data Action : Type 0 where
  calls : (thread : ℕ) → Call → Action
  hands : ThreadKey → Word → Action
  -- the frame index rose, with or without a frame
  frames : (emitted : Bool) → Action
  -- a thread registered details
  registers : (thread : ℕ) → Details → Action
  -- details became known, and are new in the next frame
  adds : List Details → Action
  -- details became known for a frame that was refused
  learns : List Details → Action
  -- the next frame is to list all known details
  wants : Action
  nothing : Action

-- ---- the calls of one thread

-- a thread without a name, for a number that no thread has
abbrev pub nobody : Thread
nobody = new_thread [] Short

-- the thread with this number, before the commands
abbrev pub thread_at : Opening → ℕ → Thread
thread_at opening number = slice_index_or opening.threads number nobody

-- an action as a call of this thread, if it is one; a negative time counts as 0
abbrev pub call_of : ℕ → Action → Option Call
call_of thread (calls caller call) =
    if thread == caller
    then Some (record { at = int_max (pos 0) call.at; mark = call.mark })
    else None
call_of thread _ = None

abbrev pub calls_of : ℕ → List Action → List Call
calls_of thread done = filter_map (call_of thread) done

-- the greatest of this time and those of these calls
abbrev pub greatest : ℤ → List Call → ℤ
greatest latest later = fold (λ time call. int_max time call.at) latest later

-- a thread's greatest time so far
abbrev pub latest_of : Opening → ℕ → List Action → ℤ
latest_of opening thread done =
    greatest (thread_at opening thread).latest (calls_of thread done)

-- ---- lists

-- what comes after the last element that passes a test, or all if none does
abbrev pub since_last : {X : Type 0} → (X → Bool) → List X → List X
since_last passes [] = []
since_last passes (first ∷ later) =
    if list_any passes later then since_last passes later
    else if passes first then later else first ∷ later
