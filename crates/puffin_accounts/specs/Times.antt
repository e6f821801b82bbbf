-- The times of events: what the clock gave, one after the other.
use Rattle.std.specs.Prelude.{◌≡◌, ℤ, pos, ◌≤ℤ◌, List, [], ◌∷◌, fold, Option, Some}
use Rattle.std.specs.Int.{int_max}
use Rattle.std.specs.Option.{option_or}
use Rattle.puffin_data.specs.Forest.Tour.{Event, Open, Close}
use Rattle.puffin_accounts.specs.Moments.{Moment}

-- the times of events, in order
abbrev pub times_in : List Event → List ℤ
times_in [] = []
times_in (Open id text start ∷ word) = start ∷ times_in word
times_in (Close stop ∷ word) = stop ∷ times_in word

-- of each answer, the greatest until then
abbrev pub greatest_so_far : ℤ → List ℤ → List ℤ
greatest_so_far latest [] = []
greatest_so_far latest (at ∷ later) = int_max latest at ∷ greatest_so_far (int_max latest at) later

-- the clock gave these answers, one after the other
abbrev pub Answered : {C : Type 0} → (C → ℤ → C → Type 0) → C → List ℤ → C → Type 0
Answered answers old [] new = new ≡ old
Answered {C} answers old (at ∷ later) new =
    (next : C) × answers old at next × (pos 0 ≤ℤ at) × Answered answers next later new

-- the start of the first scope
abbrev pub first_start_in : Option ℤ → List Event → Option ℤ
first_start_in first [] = first
first_start_in first (Open id text start ∷ word) =
    first_start_in (option_or first (Some start)) word
first_start_in first (Close stop ∷ word) = first_start_in first word

-- Events were recorded, each at the time that the clock gave, or at the thread's latest time where that is greater. The thread's
-- name and form and the places that it knows stay.
pub record Timed {C : Type 0} (answers : C → ℤ → C → Type 0) (old new : Moment C)
    (events : List Event) : Type 0 where
  pub ats : List ℤ
  pub answered : Answered answers old.clock ats new.clock
  pub times : times_in events ≡ greatest_so_far old.thread.latest ats
  pub latest : new.thread.latest ≡ fold int_max old.thread.latest ats
  pub first_start : new.thread.first_start ≡ first_start_in old.thread.first_start events
  pub name : new.thread.name ≡ old.thread.name
  pub form : new.thread.form ≡ old.thread.form
  pub known : new.known ≡ old.known
