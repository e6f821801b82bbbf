-- What threads tell that meet at the end of each round, and what that shows.
use Rattle.std.specs.Prelude.{◌≡◌, ◌≤◌, ◌<◌, ◌+◌, ◌-◌, ◌*◌, ℕ, zero, suc, List, [], ◌∷◌, length, take, Bool, true, false, None, Result, OnOk}
use Rattle.std.specs.FinMap as fin_map
use Rattle.puffin_data.specs.declared.data.form.Form.TheVariants.{Short}
use Rattle.puffin.specs.declared.light.outcome.Outcome.{Outcome}
use Rattle.puffin.specs.declared.light.outcome.ThreadCounts.{ThreadCounts}
use Rattle.puffin.specs.Code.{Code, AreTurns, AreRounds}
use Rattle.puffin.specs.Happenings.{Happening, reported, framed, marked, arrived, released, saw_arrived, saw_released, left, num_arrived, num_released}
use Rattle.puffin.specs.Shown.{ShowsProgram, ShowsEach, leader_first}
use Rattle.puffin.specs.Telling.{HasRun}

-- the beginning of a history, up to the arrival with this number, counted from 1
abbrev pub until : ℕ → List Happening → List Happening
until zero happenings = []
until (suc parts) [] = []
until (suc parts) (happening ∷ rest) = happening ∷ until (suc parts - num_arrived (happening ∷ [])) rest

-- ---- a thread

-- What a thread may do next, which arrived `parts` times and last saw `rounds` rounds released. If these are as many, it reports, or
-- arrives; otherwise it waits until it sees as many rounds released as it arrived times.
abbrev pub MayDo : ℕ → ℕ → Happening → Type 0
MayDo parts rounds (reported key report) = rounds ≡ parts
MayDo parts rounds (framed streams) = ⊥
MayDo parts rounds (marked arrived) = rounds ≡ parts
MayDo parts rounds (marked released) = ⊥
MayDo parts rounds (marked (saw_arrived number)) = ⊥
MayDo parts rounds (marked (saw_released number)) = number ≡ parts
MayDo parts rounds (marked left) = ⊥

-- the number of released rounds that a thread has last seen, after this happening
abbrev pub released_then : ℕ → Happening → ℕ
released_then rounds (reported key report) = rounds
released_then rounds (framed streams) = rounds
released_then rounds (marked arrived) = rounds
released_then rounds (marked released) = rounds
released_then rounds (marked (saw_arrived number)) = rounds
released_then rounds (marked (saw_released number)) = number
released_then rounds (marked left) = rounds

-- A thread does nothing of a round before it has seen the one before released.
abbrev pub KeepsStep : ℕ → ℕ → List Happening → Type 0
KeepsStep parts rounds [] = Unit {0}
KeepsStep parts rounds (happening ∷ rest) = MayDo parts rounds happening
    × KeepsStep (parts + num_arrived (happening ∷ [])) (released_then rounds happening) rest

-- Code ran in at most so many rounds on a new thread of this name that knew so many places, and `holds` is true of a round's number
-- and code. `own` is what happened through the thread's share. When it arrived, it had reported the scopes of the rounds so far,
-- but for some that wait.
pub record HasRunRounds (holds : ℕ → Code → Type 0) (rounds : ℕ) (name : List ℕ) (known : ℕ)
    (own : List Happening) (waiting : ℕ) : Type 0 where
  pub code : Code
  pub are : AreRounds rounds holds code
  pub ran : HasRun name Short known code [] own waiting
  pub step : KeepsStep 0 0 own
  pub each : (round : ℕ) → round < num_arrived own →
      (so_far : Code) × (waits : ℕ)
      × AreTurns holds (suc round) so_far
      × HasRun name Short known so_far [] (until (suc round) own) waits

-- Code ran so, if the program states its code.
abbrev pub HasLedRoundsAs : Bool → (ℕ → Code → Type 0) → (rounds : ℕ) → (name : List ℕ) →
    (known : ℕ) → (own : List Happening) → (waiting : ℕ) → Type 0
HasLedRoundsAs false holds rounds name known own waiting = Unit {0}
HasLedRoundsAs true holds rounds name known own waiting =
    HasRunRounds holds rounds name known own waiting

-- Code ran so, if the program states its code and the thread didn't fail.
abbrev pub HasRunRoundsAs : {X E : Type 0} → Bool → (ℕ → Code → Type 0) → (rounds : ℕ) →
    (name : List ℕ) → (known : ℕ) → Result X E → (own : List Happening) → (waiting : ℕ) → Type 0
HasRunRoundsAs states holds rounds name known result own waiting =
    OnOk result (HasLedRoundsAs states holds rounds name known own waiting)

-- ---- the leader

-- What a leader may do next, which released so many rounds, last saw that threads arrived `parts` times, and took this many frames
-- since it released a round. It takes a frame once in a round, and only where it saw that all threads arrived in this round and in
-- the earlier ones.
abbrev pub MayTake : (threads rounds parts frames : ℕ) → Happening → Type 0
MayTake threads rounds parts frames (reported key report) = ⊥
MayTake threads rounds parts frames (framed streams) =
    (parts ≡ threads * suc rounds) × (frames ≡ 0)
MayTake threads rounds parts frames (marked arrived) = ⊥
MayTake threads rounds parts frames (marked released) = Unit {0}
MayTake threads rounds parts frames (marked (saw_arrived number)) = Unit {0}
MayTake threads rounds parts frames (marked (saw_released number)) = ⊥
MayTake threads rounds parts frames (marked left) = ⊥

-- the number of arrivals that the leader has last seen, after this happening
abbrev pub parts_then : ℕ → Happening → ℕ
parts_then parts (reported key report) = parts
parts_then parts (framed streams) = parts
parts_then parts (marked arrived) = parts
parts_then parts (marked released) = parts
parts_then parts (marked (saw_arrived number)) = number
parts_then parts (marked (saw_released number)) = parts
parts_then parts (marked left) = parts

-- the number of frames that the leader took since it released a round, after this happening
abbrev pub frames_then : ℕ → Happening → ℕ
frames_then frames (reported key report) = frames
frames_then frames (framed streams) = suc frames
frames_then frames (marked arrived) = frames
frames_then frames (marked released) = 0
frames_then frames (marked (saw_arrived number)) = frames
frames_then frames (marked (saw_released number)) = frames
frames_then frames (marked left) = frames

-- A leader takes at most one frame in a round, when all threads have arrived, and releases each round that it began.
abbrev pub TakesInTurn : (threads rounds parts frames : ℕ) → List Happening → Type 0
TakesInTurn threads rounds parts frames [] = frames ≡ 0
TakesInTurn threads rounds parts frames (happening ∷ rest) = MayTake threads rounds parts frames happening
    × TakesInTurn threads (rounds + num_released (happening ∷ [])) (parts_then parts happening)
    (frames_then frames happening) rest

-- A leader does so from the beginning of a run, which has at most so many rounds.
abbrev pub TakesTurns : (threads rounds : ℕ) → List Happening → Type 0
TakesTurns threads rounds own = (num_released own ≤ rounds) × TakesInTurn threads 0 0 0 own

-- ---- what the frames show

-- what is true of the code of a round, by the number of its thread, of which the leader is the first
abbrev pub in_round : (ℕ → Code → Type 0) → (ℕ → ℕ → Code → Type 0) → ℕ → ℕ → Code → Type 0
in_round leads runs zero = leads
in_round leads runs (suc number) = runs number

-- What the frames show of a program in rounds: of the whole, as of any program; and if each round had a frame, then the frames of
-- its first rounds show just the code of these rounds, and nothing is pending after them: each has the scopes of its round alone.
pub record ShowsRounds (known rounds : ℕ) (leads : ℕ → Code → Type 0)
    (runs : ℕ → ℕ → Code → Type 0) (names : List (List ℕ)) (outcome : Outcome) : Type 0 where
  pub whole : ShowsProgram (λ frames. Unit {0}) known
      (leader_first (AreRounds rounds leads) (λ number. AreRounds rounds (runs number))) names
      outcome
  pub turns : ℕ
  pub within : turns ≤ rounds
  pub few : length whole.frames ≤ turns
  pub each : length whole.frames ≡ turns → (round : ℕ) → round < turns →
      (counts : List ThreadCounts)
      × ShowsEach known (λ number. AreTurns (in_round leads runs number) (suc round)) names counts
      (take (suc round) whole.frames) fin_map.empty

-- what a program in rounds shows, if it states its code, and no thread failed
abbrev pub RoundsShow : Bool → (known rounds : ℕ) → (leads : ℕ → Code → Type 0) →
    (runs : ℕ → ℕ → Code → Type 0) → (names : List (List ℕ)) → Outcome → Type 0
RoundsShow false known rounds leads runs names outcome = Unit {0}
RoundsShow true known rounds leads runs names outcome =
    outcome.failed ≡ None → ShowsRounds known rounds leads runs names outcome
