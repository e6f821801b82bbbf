-- What the frames of a shared profiler show of the code that its threads ran.
use Rattle.std.specs.Prelude.{◌≡◌, ◌^◌, ◌<◌, ℕ, zero, suc, ℤ, List, [], ◌∷◌, ◌++◌, length, map, Bool, true, false, Option, Some, None, slice_get, string_bytes, count_by, Contains}
use Rattle.std.specs.Str.{bytes_eq}
use Rattle.std.specs.FinMap as fin_map
use Rattle.std.specs.List.{flat_map}
use Rattle.puffin_data.specs.declared.data.form.Form.TheVariants.{Short}
use Rattle.puffin_data.specs.Forest.{Forest, append}
use Rattle.puffin_data.specs.Forest.Measures.{scope_count}
use Rattle.puffin_frames.specs.Frame.Contents.{Streams}
use Rattle.puffin_frames.specs.Frame.Sums.{total_scopes}
use Rattle.puffin.specs.declared.light.outcome.Outcome.{Outcome}
use Rattle.puffin.specs.declared.light.outcome.ThreadCounts.{ThreadCounts}
use Rattle.puffin.specs.declared.light.ready.ThreadEnd.{ThreadEnd}
use Rattle.puffin.specs.declared.light.ready.Ready.{Ready}
use Rattle.puffin.specs.Places.{num_known}
use Rattle.puffin.specs.Code.{Code, AreScopesOf}
use Rattle.puffin.specs.Happenings.{Happening, History, frames_in}
use Rattle.puffin.specs.Joined.{HasTold}
use Rattle.puffin.specs.Leaving.{accounts_of}
use Rattle.puffin.specs.Members.{Member}
use Rattle.puffin.specs.Recounted.{SpellInTurn, streams_under, ReportsNothing, Recounts}
use Rattle.puffin.specs.Taking.{num_scopes_in}
use Rattle.puffin.specs.Telling.{HasRun, Job, HaveRun, num_unreported}

-- Under a thread's name and some start, the frames, one after the other, then what is pending, and then so many scopes that wait,
-- are just the scopes of this code that began, in order, nested as the code nests them: none is lost, doubled or changed. The
-- thread knew so many places.
pub record ShowsCode (known : ℕ) (code : Code) (name : List ℕ) (frames : List Streams)
    (pending : Streams) (waiting : ℕ) : Type 0 where
  pub start : Option ℤ
  pub shown : Forest
  pub waits : Forest
  pub spelled : SpellInTurn (streams_under (record { start = start; name = name }) (frames ++ pending ∷ [])) shown
  pub began : AreScopesOf known Short code (append shown waits)
  pub counted : scope_count waits ≡ waiting

-- The thread at this place ran code of which `holds` is true, under this name, and through the share at the place. The counts there
-- say how many of its scopes wait. It knew so many places of the code.
pub record RanAt (known : ℕ) (holds : ℕ → Code → Type 0) (shares : List Member) (counts : List ThreadCounts) (place : ℕ)
    (name : List ℕ) : Type 0 where
  pub share : Member
  pub count : ThreadCounts
  pub code : Code
  pub share_is : slice_get shares place ≡ Some share
  pub count_is : slice_get counts place ≡ Some count
  pub right : holds place code
  pub ran : HasRun name Short known code [] share.own count.unreported

-- each thread ran so, under the name at its place
abbrev pub RanEach : (known : ℕ) → (holds : ℕ → Code → Type 0) → (names : List (List ℕ)) →
    (shares : List Member) → (counts : List ThreadCounts) → Type 0
RanEach known holds names shares counts =
    (place : ℕ) (name : List ℕ) → slice_get names place ≡ Some name → RanAt known holds shares counts place name

-- just one of these names is this one
abbrev pub IsAlone : List ℕ → List (List ℕ) → Type 0
IsAlone name names = count_by (bytes_eq name) names ≡ 1

-- For each thread whose name no other has: the frames and what is pending show code of which `holds` is true, but for the scopes
-- that its counts call unreported.
abbrev pub ShowsEach : (known : ℕ) → (holds : ℕ → Code → Type 0) → (names : List (List ℕ)) →
    (counts : List ThreadCounts) → (frames : List Streams) → (pending : Streams) → Type 0
ShowsEach known holds names counts frames pending =
    (place : ℕ) (name : List ℕ) → slice_get names place ≡ Some name →
    IsAlone name names →
    (code : Code) × (count : ThreadCounts)
    × holds place code
    × (slice_get counts place ≡ Some count)
    × ∥ ShowsCode known code name frames pending count.unreported ∥₁

-- Where any number of threads, with as many shares, each ran its code, and one share more took the frames: of each thread whose
-- name no other has, the frames show its code.
abbrev pub FramesShow : Type 1
FramesShow =
    (known num_shares : ℕ) (holds : ℕ → Code → Type 0) (names : List (List ℕ)) (shares : List Member)
    (counts : List ThreadCounts) (taker : Member) (log : History) (pending : Streams) →
    RanEach known holds names shares counts → length shares ≡ length names →
    ReportsNothing taker.own →
    Recounts num_shares (accounts_of (taker ∷ shares)) log pending →
    ShowsEach known holds names counts (frames_in taker.own) pending

-- what is true of the code of a program's leader, whose place is 0, and then of its threads, which come after it by their numbers
abbrev pub leader_first : (Code → Type 0) → (ℕ → Code → Type 0) → ℕ → Code → Type 0
leader_first leads runs zero code = leads code
leader_first leads runs (suc number) code = runs number code

-- What the frames that a leader took, and what is pending, show of its program: they are as many, and have as many scopes, as
-- its outcome counts.
pub record ShowsProgram (takes : List Streams → Type 0) (known : ℕ) (holds : ℕ → Code → Type 0)
    (names : List (List ℕ)) (outcome : Outcome) : Type 0 where
  pub frames : List Streams
  pub pending : Streams
  pub taken : takes frames
  pub as_many : length frames < 2 ^ 64 → outcome.frames ≡ length frames
  pub handed : outcome.settled.handed ≡ num_scopes_in frames
  pub left : outcome.settled.pending ≡ total_scopes (fin_map.values pending)
  pub each : ShowsEach known holds names (outcome.leader ∷ outcome.threads.items) frames pending

-- what a program shows, if it states its code, and no thread failed
abbrev pub Shows : Bool → (takes : List Streams → Type 0) → (known : ℕ) → (holds : ℕ → Code → Type 0) →
    (names : List (List ℕ)) → Outcome → Type 0
Shows false takes known holds names outcome = Unit {0}
Shows true takes known holds names outcome =
    outcome.failed ≡ None → ShowsProgram takes known holds names outcome

-- each of these threads has the name at its place in the list, and knows so many places of the code
abbrev pub AreNamed : {C : Type 0} → (known : ℕ) → (names : List (List ℕ)) → List (Ready C) → Type 0
AreNamed {C} known names threads =
    (place : ℕ) (thread : Ready C) → slice_get threads place ≡ Some thread →
    (slice_get names place ≡ Some (string_bytes thread.name)) × (num_known thread.scopes ≡ known)

-- Threads of these names, and a leader of this name, told what their program says: see `HasTold`. Each knew so many places.
pub record NamedTold {C W : Type 0}
    (tells : Ready C → W → ℕ → ThreadEnd → List Happening → List Happening → Type 0)
    (leads : Ready C → W → ℕ → List Happening → List Happening → Type 0)
    (takes : Ready C → W → List Happening → Type 0) (known : ℕ) (leader_name : List ℕ)
    (names : List (List ℕ)) (program : W) (outcome : Outcome) : Type 0 where
  pub threads : List (Ready C)
  pub leader : Ready C
  pub as_many : length threads ≡ length names
  pub named : AreNamed known names threads
  pub leader_named : (string_bytes leader.name ≡ leader_name) × (num_known leader.scopes ≡ known)
  pub told : HasTold tells leads takes threads leader program outcome

-- ---- jobs

-- the names of all jobs of these threads
abbrev pub names_in : List (List Job) → List (List ℕ)
names_in threads = flat_map (λ jobs. map (λ job. job.name) jobs) threads

-- each thread, by its place, did the jobs at that place through the share there, and `holds` is true of each one's name and code
abbrev pub EachDid : (holds : ℕ → List ℕ → Code → Type 0) → (known : ℕ) → (threads : List (List Job)) →
    (shares : List Member) → Type 0
EachDid holds known threads shares =
    (place : ℕ) (jobs : List Job) → slice_get threads place ≡ Some jobs →
    (share : Member) × (slice_get shares place ≡ Some share) × HaveRun (holds place) known jobs [] share.own

-- For each name that just one job has: the frames and what is pending show code of that job, and `holds` is true of its thread's
-- place, its name and its code.
abbrev pub ShowsJobs : (holds : ℕ → List ℕ → Code → Type 0) → (known : ℕ) → (threads : List (List Job)) →
    (frames : List Streams) → (pending : Streams) → Type 0
ShowsJobs holds known threads frames pending =
    (name : List ℕ) → IsAlone name (names_in threads) →
    (place : ℕ) × (jobs : List Job) × (job : Job)
    × (slice_get threads place ≡ Some jobs)
    × Contains jobs job
    × (job.name ≡ name)
    × holds place name job.code
    × ∥ ShowsCode known job.code name frames pending job.unreported ∥₁

-- Where any number of threads, with as many shares, each did its jobs, and one share more took the frames: of each job whose name
-- no other has, the frames show its code.
abbrev pub FramesShowJobs : Type 1
FramesShowJobs =
    (known num_shares : ℕ) (holds : ℕ → List ℕ → Code → Type 0) (threads : List (List Job))
    (shares : List Member) (taker : Member) (log : History) (pending : Streams) →
    EachDid holds known threads shares → length shares ≡ length threads →
    ReportsNothing taker.own →
    Recounts num_shares (accounts_of (taker ∷ shares)) log pending →
    ShowsJobs holds known threads (frames_in taker.own) pending

-- what is true of the code of a pool's leader, whose place is 0, and then of the name and the code of each job of its threads
abbrev pub leader_before : (Code → Type 0) → (List ℕ → Code → Type 0) → ℕ → List ℕ → Code → Type 0
leader_before leads does zero = λ name code. leads code
leader_before leads does (suc number) = does

-- What the frames that a leader took, and what is pending, show of its pool. They are as many, and have as many scopes, as its
-- outcome counts; and a thread's unreported scopes are those of its jobs.
pub record ShowsPool (takes : List Streams → Type 0) (known : ℕ) (leads : Code → Type 0)
    (does : List ℕ → Code → Type 0) (leader_name : List ℕ) (outcome : Outcome) : Type 0 where
  pub frames : List Streams
  pub pending : Streams
  pub taken : takes frames
  pub as_many : length frames < 2 ^ 64 → outcome.frames ≡ length frames
  pub handed : outcome.settled.handed ≡ num_scopes_in frames
  pub left : outcome.settled.pending ≡ total_scopes (fin_map.values pending)
  -- what the leader did, and then what each thread did, in order
  pub led : Job
  pub threads : List (List Job)
  pub leader : (led.name ≡ leader_name) × (led.unreported ≡ outcome.leader.unreported)
  pub counted : (place : ℕ) (jobs : List Job) → slice_get threads place ≡ Some jobs →
      (counts : ThreadCounts)
      × (slice_get outcome.threads.items place ≡ Some counts)
      × (counts.unreported ≡ num_unreported jobs)
  pub each : ShowsJobs (leader_before leads does) known ((led ∷ []) ∷ threads) frames pending

-- what a pool shows, if it states its code, and no thread failed
abbrev pub PoolShows : Bool → (takes : List Streams → Type 0) → (known : ℕ) → (leads : Code → Type 0) →
    (does : List ℕ → Code → Type 0) → (leader_name : List ℕ) → Outcome → Type 0
PoolShows false takes known leads does leader_name outcome = Unit {0}
PoolShows true takes known leads does leader_name outcome =
    outcome.failed ≡ None → ShowsPool takes known leads does leader_name outcome
