-- The scopes of a turn, the places where they begin, and the clock that they are timed by.
use Rattle.std.specs.Prelude.{◌≡◌, codes, ℤ, pos, List, [], ◌∷◌, Option}
use Rattle.std.specs.Int.{int_max}
use Rattle.std.specs.declared.sync.Arc.{Arc}
use Rattle.std.specs.declared.alloc.Global.{Global}
use Rattle.puffin_threads.specs.Details.{Details, with_id}
use Rattle.puffin_frames.specs.declared.frame_data.frame.FrameData.{FrameData}
use Rattle.puffin.specs.Places.{function_at, named_at}
use Rattle.puffin_accounts.specs.Running.{Code, nothing, scope}
use Rattle.puffin_accounts.specs.Rounds.{Round}
use Rattle.example_proved.specs.declared.Places.{Places}

-- the scope of physics
abbrev pub physics_code : Places → Code
physics_code places = scope places.physics (codes "all bodies") nothing nothing

-- a scope for the whole turn, and within it that of physics
abbrev pub turn_code : Places → Code
turn_code places = scope places.update [] (physics_code places) nothing

-- both places, and the details of each
abbrev pub the_places : Places
the_places = record { update = record { id = 1 }; physics = record { id = 2 } }

abbrev pub update_details : Details
update_details = with_id (function_at (codes "example_proved") (codes "update")) 1

abbrev pub physics_details : Details
physics_details =
    with_id (named_at (codes "example_proved") (codes "update") (codes "physics")) 2

abbrev pub the_details : List Details
the_details = update_details ∷ physics_details ∷ []

-- a turn, and the frame that was taken after it
abbrev pub turn_round : Option (Arc FrameData Global) → Round
turn_round frame = record { code = turn_code the_places; frame = frame }

-- what a clock that is set by hand answers
abbrev pub script_answers : ℤ → ℤ → ℤ → Type 0
script_answers old at new = (new ≡ old) × (at ≡ int_max (pos 0) old)
