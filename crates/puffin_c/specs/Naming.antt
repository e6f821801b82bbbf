-- How scopes are registered with a profiler.
use Rattle.std.specs.Prelude.{◌≡◌, ◌⊎◌, ◌==◌, if◌then◌else◌, ℕ, ◌<◌, true, List, [], ◌∷◌, length, Option, Some, None, is_some, Result, Ok, Err}
use Rattle.std.specs.Str.{IsUtf8}
use Rattle.puffin_data.specs.declared.error.Error.{Error}
use Rattle.puffin_data.specs.declared.error.Error.TheVariants as error
use Rattle.puffin_threads.specs.Details.{Details, default_details, with_id}
use Rattle.puffin_collector.specs.Collector.State.{Collected, after_learning, after_wanting}
use Rattle.puffin_collector.specs.Collector.Collecting.{KnowsSome}
use Rattle.puffin_c.specs.declared.fault.Fault.{Fault}
use Rattle.puffin_c.specs.declared.fault.Fault.TheVariants as fault
use Rattle.puffin_c.specs.declared.naming.PuffinPlace.{PuffinPlace}
use Rattle.puffin_c.specs.declared.profiler.Profiler.{Profiler}
use Rattle.puffin_c.specs.Profiling.{with_collected}

-- all of these texts are UTF-8
abbrev pub AreTexts : List (List ℕ) → Type 0
AreTexts [] = Unit {0}
AreTexts (text ∷ rest) = IsUtf8 text × AreTexts rest

-- some of these texts aren't UTF-8
abbrev pub HasNoText : List (List ℕ) → Type 0
HasNoText [] = ⊥
HasNoText (text ∷ rest) = (¬ (IsUtf8 text)) ⊎ HasNoText rest

-- why texts are refused: the first cause that applies
abbrev pub AreNoTexts : List (List ℕ) → Fault → Type 0
AreNoTexts texts cause =
    ((cause ≡ fault.NotText) × HasNoText texts)
    ⊎ ((cause ≡ fault.Refused error.Memory) × AreTexts texts)

abbrev pub place_texts : PuffinPlace → List (List ℕ)
place_texts place = place.name.now ∷ place.function.now ∷ place.file.now ∷ []

-- the name of a place that isn't a function
abbrev pub own_name : List ℕ → Option (List ℕ)
own_name name = if length name == 0 then None else Some name

-- the details of a place
abbrev pub place_details : PuffinPlace → Details
place_details place = record default_details {
  function_name = place.function.now;
  file_path = place.file.now;
  line_nr = place.line;
  scope_name = own_name place.name.now;
}

-- details with an id become known, and the next frame is to list all that are known
abbrev pub after_naming : Collected → Details → Collected
after_naming collected details = after_wanting (after_learning collected (details ∷ []))

-- A scope isn't registered. Nothing is changed but, if memory ran out, that its details may be known under an id.
abbrev pub IsUnregistered : Profiler → Details → Profiler → Error → Type 0
IsUnregistered old details new refusal =
    ((refusal ≡ error.IdsExhausted) × (new ≡ old))
    ⊎ ((refusal ≡ error.Memory)
    × (id : ℕ)
    × (after : Collected)
    × KnowsSome old.collector (with_id details id ∷ []) after
    × (new ≡ with_collected old after))

-- A scope with these details was registered under this id; or it wasn't.
abbrev pub Registers : Option Profiler → Details → Option Profiler → ℕ → ℕ →
    Result (Unit {0}) Fault → Type 0
Registers held details left before id (Ok _) =
    (profiler : Profiler)
    × (held ≡ Some profiler)
    × (0 < id)
    × (left ≡ Some (with_collected profiler (after_naming profiler.collector (with_id details id))))
Registers held details left before id (Err cause) =
    (id ≡ before)
    × (refusal : Error)
    × (cause ≡ fault.Refused refusal)
    × (profiler : Profiler)
    × (new : Profiler)
    × (held ≡ Some profiler)
    × (left ≡ Some new)
    × IsUnregistered profiler details new refusal

-- The texts of a place are UTF-8, and it is registered or not. Or the call is refused before, with the first fault that applies.
abbrev pub RegistersPlace : Option Profiler → PuffinPlace → Option Profiler → ℕ → ℕ →
    Result (Unit {0}) Fault → Type 0
RegistersPlace held place left before id answer =
    (AreTexts (place_texts place) × Registers held (place_details place) left before id answer)
    ⊎ ((cause : Fault)
    × (answer ≡ Err cause)
    × (left ≡ held)
    × (id ≡ before)
    × (((cause ≡ fault.NotOpen) × (held ≡ None)) ⊎ ((is_some held ≡ true)
    × AreNoTexts (place_texts place) cause)))
