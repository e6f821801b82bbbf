-- What happens to a profiler through its shares, what that leaves pending, and what is due for each frame.
use Rattle.std.specs.Prelude.{◌≡◌, ℕ, ◌⊎◌, List, [], ◌∷◌, ◌++◌, ◌+◌, ◌≤◌, suc, zero, length, Bool, true, false, if◌then◌else◌, refl}
use mathlib.Core.Logic.{inl, inr}
use mathlib.Core.HLevel.{×_prop, Unit-prop}
use Rattle.std.proofs.Math.Bridge.{le_prop}
use Rattle.std.specs.FinMap as map
use Rattle.std.specs.List.{flat_map}
use Rattle.std.specs.Coded.{Coded, code_by, coded×, coded⊎, coded_ℕ}
use Rattle.puffin_data.specs.Forest.{Forest, empty}
use Rattle.puffin_data.specs.Honesty.{StreamFacts, AreHonestFacts, AreUnlike}
use Rattle.puffin_threads.specs.Thread.ThreadKey.{ThreadKey, key_code, has_same_key}
use Rattle.puffin_frames.specs.Frame.Contents.{Streams, facts_code, streams_code, stream_under, reported_to}

-- What is marked of a share, beside its reports and frames. Its thread arrived: it did its part of a round. It released a round:
-- the round is closed, and the threads go on. It saw that at least so many had arrived, or so many rounds were released. It left:
-- it was given back.
pub data Mark : Type 0 where
  arrived : Mark
  released : Mark
  saw_arrived : ℕ → Mark
  saw_released : ℕ → Mark
  left : Mark

-- a report was accepted, under a thread's start and name; a frame with these streams was handed out; or a share was marked
pub data Happening : Type 0 where
  reported : ThreadKey → StreamFacts → Happening
  framed : Streams → Happening
  marked : Mark → Happening

-- a history: each happening, with the number of the share through which it came
abbrev pub History : Type 0
History = List (ℕ × Happening)

-- a mark as a pair of numbers: its kind, and the number that it saw
abbrev pub number_of : Mark → ℕ × ℕ
number_of arrived = (0, 0)
number_of released = (1, 0)
number_of (saw_arrived number) = (2, number)
number_of (saw_released number) = (3, number)
number_of left = (4, 0)

-- the mark of this kind, with the number that it saw
abbrev pub mark_of : ℕ → ℕ → Mark
mark_of zero number = arrived
mark_of (suc zero) number = released
mark_of (suc (suc zero)) number = saw_arrived number
mark_of (suc (suc (suc zero))) number = saw_released number
mark_of (suc (suc (suc (suc kind)))) number = left

-- a happening as a sum: a report, a frame or a mark
abbrev pub parts_of : Happening → (ThreadKey × StreamFacts) ⊎ (Streams ⊎ (ℕ × ℕ))
parts_of (reported key report) = inl (key, report)
parts_of (framed streams) = inr (inl streams)
parts_of (marked mark) = inr (inr (number_of mark))

-- the happening of such a sum
abbrev pub of_parts : (ThreadKey × StreamFacts) ⊎ (Streams ⊎ (ℕ × ℕ)) → Happening
of_parts (inl report) = reported report.0 report.1
of_parts (inr (inl streams)) = framed streams
of_parts (inr (inr number)) = marked (mark_of number.0 number.1)

pub of_parts-parts_of : (happening : Happening) → of_parts (parts_of happening) ≡ happening
of_parts-parts_of (reported key report) = refl
of_parts-parts_of (framed streams) = refl
of_parts-parts_of (marked arrived) = refl
of_parts-parts_of (marked released) = refl
of_parts-parts_of (marked (saw_arrived number)) = refl
of_parts-parts_of (marked (saw_released number)) = refl
of_parts-parts_of (marked left) = refl

-- the encoding of a happening for contracts
abbrev pub happening_code : Coded Happening
happening_code =
    code_by ((ThreadKey × StreamFacts) ⊎ (Streams ⊎ (ℕ × ℕ)))
    (coded⊎ (coded× key_code facts_code) (coded⊎ streams_code (coded× coded_ℕ coded_ℕ)))
    parts_of of_parts of_parts-parts_of

-- whether this is the return of a share
abbrev pub is_left : Happening → Bool
is_left (marked left) = true
is_left (marked arrived) = false
is_left (marked released) = false
is_left (marked (saw_arrived number)) = false
is_left (marked (saw_released number)) = false
is_left (reported key report) = false
is_left (framed streams) = false

-- ---- what is pending and what is due

-- the pending streams after one happening more
abbrev pub after : Streams → Happening → Streams
after pending (reported key report) = reported_to pending key report
after pending (framed streams) = map.empty
after pending (marked mark) = pending

-- the pending streams after these happenings, one after the other
abbrev pub pending_after : Streams → List Happening → Streams
pending_after pending [] = pending
pending_after pending (happening ∷ rest) = pending_after (after pending happening) rest

-- Streams without scopes, which may be pending when a history begins: a profiler that took reports without scopes has such.
abbrev pub HaveNoScopes : Streams → Type 0
HaveNoScopes streams = (key : ThreadKey) → ∥ AreHonestFacts (stream_under streams key) empty ∥₁

-- the streams that are pending at the end: all reports since the last frame, in order, after streams without scopes
pub record ArePending (happenings : List Happening) (pending : Streams) : Type 0 where
  pub start : Streams
  pub none : HaveNoScopes start
  pub is : pending ≡ pending_after start happenings

-- the streams that are due for a frame, if this is one: all that are pending
abbrev pub due_at : Streams → Happening → List Streams
due_at pending (reported key report) = []
due_at pending (framed streams) = pending ∷ []
due_at pending (marked mark) = []

-- the streams that were due for each frame: all reports since the frame before it, in order
abbrev pub due_after : Streams → List Happening → List Streams
due_after pending [] = []
due_after pending (happening ∷ rest) = due_at pending happening ++ due_after (after pending happening) rest

-- the streams of a frame, if this is one
abbrev pub frame_of : Happening → List Streams
frame_of (reported key report) = []
frame_of (framed streams) = streams ∷ []
frame_of (marked mark) = []

-- the streams of each frame, in order
abbrev pub frames_in : List Happening → List Streams
frames_in happenings = flat_map frame_of happenings

-- ---- reports

-- a report is honest, and its form is that of what is pending under its thread
abbrev pub IsReport : Streams → Happening → Type 0
IsReport pending (reported key report) =
    ∥ ((forest : Forest) × AreHonestFacts report forest) ∥₁ × ¬ AreUnlike (stream_under pending key) report
IsReport pending (framed streams) = Unit {0}
IsReport pending (marked mark) = Unit {0}

-- each report is one that may come where it does
abbrev pub AreReports : Streams → List Happening → Type 0
AreReports pending [] = Unit {0}
AreReports pending (happening ∷ rest) = IsReport pending happening × AreReports (after pending happening) rest

-- a report, if this is one under that thread's start and name
abbrev pub report_under : ThreadKey → Happening → List StreamFacts
report_under key (reported other report) = if has_same_key key other then report ∷ [] else []
report_under key (framed streams) = []
report_under key (marked mark) = []

-- what was reported under a thread's start and name, in order
abbrev pub reports_under : ThreadKey → List Happening → List StreamFacts
reports_under key happenings = flat_map (report_under key) happenings

-- ---- rounds

-- the mark alone if it is an arrival, else nothing
abbrev pub arrivals_of : Mark → List Mark
arrivals_of arrived = arrived ∷ []
arrivals_of released = []
arrivals_of (saw_arrived number) = []
arrivals_of (saw_released number) = []
arrivals_of left = []

-- the mark alone if it is a release, else nothing
abbrev pub releases_of : Mark → List Mark
releases_of arrived = []
releases_of released = released ∷ []
releases_of (saw_arrived number) = []
releases_of (saw_released number) = []
releases_of left = []

-- the marks that `kept` gives for this one; none for a report or a frame
abbrev pub if_marked : (Mark → List Mark) → Happening → List Mark
if_marked kept (reported key report) = []
if_marked kept (framed streams) = []
if_marked kept (marked mark) = kept mark

-- a report or a frame alone; no mark
abbrev pub unless_marked : Happening → List Happening
unless_marked (reported key report) = reported key report ∷ []
unless_marked (framed streams) = framed streams ∷ []
unless_marked (marked mark) = []

-- the reports and frames among these, in order
abbrev pub unmarked : List Happening → List Happening
unmarked happenings = flat_map unless_marked happenings

-- how many times a thread arrived
abbrev pub num_arrived : List Happening → ℕ
num_arrived happenings = length (flat_map (if_marked arrivals_of) happenings)

-- how many rounds were released
abbrev pub num_released : List Happening → ℕ
num_released happenings = length (flat_map (if_marked releases_of) happenings)

-- What a share saw is so: where a thread had arrived so many times, and so many rounds were released, a number that it saw is at
-- most that.
abbrev pub IsSeen : ℕ → ℕ → Happening → Type 0
IsSeen parts rounds (reported key report) = Unit {0}
IsSeen parts rounds (framed streams) = Unit {0}
IsSeen parts rounds (marked arrived) = Unit {0}
IsSeen parts rounds (marked released) = Unit {0}
IsSeen parts rounds (marked (saw_arrived number)) = number ≤ parts
IsSeen parts rounds (marked (saw_released number)) = number ≤ rounds
IsSeen parts rounds (marked left) = Unit {0}

-- each number that a share saw is at most what there was before it, counted from these
abbrev pub AreSeen : ℕ → ℕ → List Happening → Type 0
AreSeen parts rounds [] = Unit {0}
AreSeen parts rounds (happening ∷ rest) = IsSeen parts rounds happening
    × AreSeen (parts + num_arrived (happening ∷ [])) (rounds + num_released (happening ∷ [])) rest

pub IsSeen-prop : (parts rounds : ℕ) (happening : Happening) → IsProp (IsSeen parts rounds happening)
IsSeen-prop parts rounds (reported key report) = Unit-prop
IsSeen-prop parts rounds (framed streams) = Unit-prop
IsSeen-prop parts rounds (marked arrived) = Unit-prop
IsSeen-prop parts rounds (marked released) = Unit-prop
IsSeen-prop parts rounds (marked (saw_arrived number)) = le_prop
IsSeen-prop parts rounds (marked (saw_released number)) = le_prop
IsSeen-prop parts rounds (marked left) = Unit-prop

pub AreSeen-prop : (parts rounds : ℕ) (happenings : List Happening) → IsProp (AreSeen parts rounds happenings)
AreSeen-prop parts rounds [] = Unit-prop
AreSeen-prop parts rounds (happening ∷ rest) = ×_prop (IsSeen-prop parts rounds happening)
    (AreSeen-prop (parts + num_arrived (happening ∷ [])) (rounds + num_released (happening ∷ [])) rest)

-- a thread arrived at least so many times, and at least so many rounds were released
pub record HasMet (parts rounds : ℕ) (happenings : List Happening) : Type 0 where
  pub arrived : parts ≤ num_arrived happenings
  pub released : rounds ≤ num_released happenings

-- ---- a profiler with its history

-- The history began with streams without scopes; what is pending is what it leaves pending, and each frame had what was due.
pub record Stands (pending : Streams) (happenings : List Happening) : Type 0 where
  pub start : Streams
  pub none : HaveNoScopes start
  pub pending_is : pending ≡ pending_after start happenings
  pub frames_are : frames_in happenings ≡ due_after start happenings
  pub reports : AreReports start happenings
