-- The scopes of a game's rounds, and what its frames show of each thread.
use Rattle.std.specs.Prelude.{◌≡◌, ◌≤◌, ◌==◌, ◌%◌, ℕ, codes, if◌then◌else◌, List, [], ◌∷◌, length, take, suc, ◌<◌, Some, slice_get}
use Rattle.std.specs.FinMap as fin_map
use Rattle.puffin_frames.specs.Frame.Contents.{Streams}
use Rattle.puffin.specs.declared.light.outcome.Outcome.{Outcome}
use Rattle.puffin.specs.declared.light.outcome.ThreadCounts.{ThreadCounts}
use Rattle.puffin.specs.Code.{Code, nothing, scope, in_turn}
use Rattle.puffin.specs.Shown.{ShowsCode}
use Rattle.puffin.specs.Taking.{num_scopes_in}
use Rattle.example_proved_rounds.specs.declared.Game.{Game}

abbrev pub pace_of : ℕ → ℕ → List ℕ
pace_of number round = if number % 2 == round % 2 then codes "alike" else codes "apart"

-- a thread's part of a round: a scope for the whole turn, and within it a step, whose text tells of thread and round
abbrev pub part_code : Game → ℕ → ℕ → Code
part_code game number round =
    scope game.turn [] (scope game.step (pace_of number round) nothing nothing) nothing

abbrev pub the_names : List (List ℕ)
the_names = codes "north" ∷ codes "east" ∷ codes "south" ∷ codes "west" ∷ []

-- The frames that were taken, and what is pending, show under each name just the scopes of that thread's rounds that began, one
-- after the other, but for the last ones, which weren't reported and are counted.
pub record ShowsGame (known : ℕ) (game : Game) (outcome : Outcome) : Type 0 where
  pub frames : List Streams
  pub pending : Streams
  pub handed : outcome.settled.handed ≡ num_scopes_in frames
  pub each : (number : ℕ) (name : List ℕ) → slice_get the_names number ≡ Some name →
      (rounds : ℕ) × (count : ThreadCounts)
      × (rounds ≤ 10)
      × (slice_get outcome.threads.items number ≡ Some count)
      × ∥ ShowsCode known (in_turn (part_code game number) rounds) name frames pending
      count.unreported ∥₁
  -- if each of ten rounds had its frame, then each frame has the scopes of its round alone, but for those that had to wait
  pub each_round : length frames ≡ 10 → (round number : ℕ) (name : List ℕ) → round < 10 →
      slice_get the_names number ≡ Some name →
      (waiting : ℕ)
      × ∥ ShowsCode known (in_turn (part_code game number) (suc round)) name
      (take (suc round) frames) fin_map.empty waiting ∥₁
