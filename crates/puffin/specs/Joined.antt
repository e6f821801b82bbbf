-- What the threads of a run tell, each through the share at its place.
use Rattle.std.specs.Prelude.{◌≡◌, ℕ, List, [], ◌∷◌, Option, Some, None, IsOk, length, slice_get}
use Rattle.std.specs.declared.thread.PromisedHandle.{PromisedHandle}
use Rattle.std.specs.FinMap as map
use Rattle.puffin_frames.specs.Frame.Contents.{Streams}
use Rattle.puffin_frames.specs.Frame.Sums.{total_scopes}
use Rattle.puffin.specs.declared.light.outcome.Failed.{Failed}
use Rattle.puffin.specs.declared.light.outcome.Outcome.{Outcome}
use Rattle.puffin.specs.declared.light.outcome.ThreadCounts.{ThreadCounts}
use Rattle.puffin.specs.declared.light.ready.ThreadEnd.{ThreadEnd}
use Rattle.puffin.specs.declared.light.shares.ThreadPromise.{ThreadPromise}
use Rattle.puffin.specs.Happenings.{Happening, History}
use Rattle.puffin.specs.Leaving.{accounts_of}
use Rattle.puffin.specs.Members.{Member, all_handed}
use Rattle.puffin.specs.Recounted.{Recounts}
use Rattle.puffin.specs.Taking.{TookAll}

-- what became of the scopes of a thread that ended so, if this many were reported
abbrev pub counts_after : ℕ → ThreadEnd → ThreadCounts
counts_after reported ended = record {
  reported = reported;
  unreported = ended.unreported;
  refused = ended.refused;
  left_open = ended.left_open;
}

-- The thread with this number told what `tells` relates, through the share at this place among `shares`; the counts at this place
-- are its own. If no thread failed, its work didn't.
pub record TellsAt {T W : Type 0} (tells : T → W → ℕ → ThreadEnd → List Happening → List Happening → Type 0)
    (thread : T) (program : W) (number : ℕ) (failed : Option Failed) (counts : List ThreadCounts)
    (shares : List Member) (place : ℕ) : Type 0 where
  pub ended : ThreadEnd
  pub reported : ℕ
  pub share : Member
  pub count_is : slice_get counts place ≡ Some (counts_after reported ended)
  pub share_is : slice_get shares place ≡ Some share
  pub went_well : failed ≡ None → IsOk ended.result
  pub told : tells thread program number ended [] share.own

-- Each handle's thread told what it promised, through the share at the handle's place. `tells` is what a thread of the type `T`
-- tells in a program of the type `W`: by its number, how it ended, and what happened through its share before and after.
abbrev pub EachJoined : {A T W : Type 0} →
    (T → W → ℕ → ThreadEnd → List Happening → List Happening → Type 0) →
    List (PromisedHandle A (ThreadPromise T W)) → Option Failed → List ThreadCounts → List Member → Type 0
EachJoined {A} {T} {W} tells handles failed counts shares =
    (place : ℕ) (handle : PromisedHandle A (ThreadPromise T W)) → slice_get handles place ≡ Some handle →
    TellsAt tells handle.promise.thread.value handle.promise.program.value handle.promise.number failed
    counts shares place

-- `shares` are the two of the leader, `taker` and `leader`, and then one for each handle, through which its thread told what it
-- promised.
pub record AreJoined {A T W : Type 0}
    (tells : T → W → ℕ → ThreadEnd → List Happening → List Happening → Type 0)
    (handles : List (PromisedHandle A (ThreadPromise T W))) (taker leader : Member) (failed : Option Failed)
    (counts : List ThreadCounts) (shares : List Member) : Type 0 where
  pub rest : List Member
  pub shares_are : shares ≡ taker ∷ leader ∷ rest
  pub as_many : length rest ≡ length handles
  pub each : EachJoined tells handles failed counts rest

-- each thread told what `tells` says of it, by its number, through the share at that place
abbrev pub EachTells : {T W : Type 0} →
    (T → W → ℕ → ThreadEnd → List Happening → List Happening → Type 0) →
    List T → W → Option Failed → List ThreadCounts → List Member → Type 0
EachTells {T} {W} tells threads program failed counts shares =
    (place : ℕ) (thread : T) → slice_get threads place ≡ Some thread →
    TellsAt tells thread program place failed counts shares place

-- there is a handle at this place to this thread of this program, whose number is the place
pub record StartedAt {A T W : Type 0} (handles : List (PromisedHandle A (ThreadPromise T W))) (thread : T) (program : W)
    (place : ℕ) : Type 0 where
  pub handle : PromisedHandle A (ThreadPromise T W)
  pub handle_is : slice_get handles place ≡ Some handle
  pub thread_is : handle.promise.thread.value ≡ thread
  pub number_is : handle.promise.number ≡ place
  pub program_is : handle.promise.program.value ≡ program

-- each of these threads of a program has its handle, at the thread's place
abbrev pub AreStarted : {A T W : Type 0} → List (PromisedHandle A (ThreadPromise T W)) → List T → W → Type 0
AreStarted {A} {T} {W} handles threads program =
    (place : ℕ) (thread : T) → slice_get threads place ≡ Some thread → StartedAt handles thread program place

-- `shares` are the two of the leader, of which `taker` took this number of frames and `own` has its reports, and one for each thread.
-- `tells`, `leads` and `takes` are what the threads, the leader and the taking of frames tell in such a program.
pub record AreTold {T W : Type 0}
    (tells : T → W → ℕ → ThreadEnd → List Happening → List Happening → Type 0)
    (leads : T → W → ℕ → List Happening → List Happening → Type 0)
    (takes : T → W → List Happening → Type 0) (threads : List T) (leader : T) (program : W)
    (failed : Option Failed) (counts : List ThreadCounts) (leader_counts : ThreadCounts)
    (frames : ℕ) (shares : List Member) : Type 0 where
  pub taker : Member
  pub own : Member
  pub rest : List Member
  pub shares_are : shares ≡ taker ∷ own ∷ rest
  pub as_many : length rest ≡ length threads
  pub each : EachTells tells threads program failed counts rest
  pub led : leads leader program leader_counts.unreported [] own.own
  pub taken : takes leader program taker.own
  pub took : TookAll taker frames
  pub handed : all_handed shares ≡ taker.counts.handed

-- Of a run with this outcome: the shares of its leader and its threads, each of which told what it had to, and their history.
pub record HasTold {T W : Type 0}
    (tells : T → W → ℕ → ThreadEnd → List Happening → List Happening → Type 0)
    (leads : T → W → ℕ → List Happening → List Happening → Type 0)
    (takes : T → W → List Happening → Type 0) (threads : List T) (leader : T) (program : W)
    (outcome : Outcome) : Type 0 where
  pub shares : List Member
  pub log : History
  pub pending : Streams
  pub are : AreTold tells leads takes threads leader program outcome.failed outcome.threads.items
      outcome.leader outcome.frames shares
  pub handed : outcome.settled.handed ≡ all_handed shares
  pub left : outcome.settled.pending ≡ total_scopes (map.values pending)
  pub recounts : Recounts (length shares) (accounts_of shares) log pending
