-- What the frames of the game show.
use Rattle.std.proofs.Common.{◌≡◌, ℕ, zero, suc, codes, List, ◌∷◌, take, Some, None, Result, Ok, Err, true, refl, sym, subst, arith}
use Rattle.std.specs.Prelude.{IfOk, slice_get}
use Rattle.std.specs.FinMap as fin_map
use Rattle.puffin.specs.declared.light.outcome.Outcome.{Outcome}
use Rattle.puffin.specs.Code.{Code}
use Rattle.puffin.specs.Rounds.{RoundsShow}
use Rattle.puffin.specs.Shown.{ShowsCode, IsAlone}
use Rattle.puffin.proofs.lemmas.CodeRuns.{turns_are}
use Rattle.example_proved_rounds.specs.declared.Game.{Game}
use Rattle.example_proved_rounds.specs.Game.{part_code, the_names, ShowsGame}

-- no other thread has a thread's name, nor has the leader
alone : (number : ℕ) (name : List ℕ) → slice_get the_names number ≡ Some name → IsAlone name (codes "leader" ∷ the_names)
alone zero name at =
    let is : codes "north" ≡ name = cc in
    subst (λ (n : List ℕ). IsAlone n (codes "leader" ∷ the_names)) is refl
alone (suc zero) name at =
    let is : codes "east" ≡ name = cc in
    subst (λ (n : List ℕ). IsAlone n (codes "leader" ∷ the_names)) is refl
alone (suc (suc zero)) name at =
    let is : codes "south" ≡ name = cc in
    subst (λ (n : List ℕ). IsAlone n (codes "leader" ∷ the_names)) is refl
alone (suc (suc (suc zero))) name at =
    let is : codes "west" ≡ name = cc in
    subst (λ (n : List ℕ). IsAlone n (codes "leader" ∷ the_names)) is refl
alone (suc (suc (suc (suc n)))) name at = absurd cc

-- a game that knew so many places, and a leader of that name
module _ (leads : ℕ → Code → Type 0) (known : ℕ) (game : Game) (leader : List ℕ) (is : leader ≡ codes "leader") where
  -- what the frames of an outcome show, round for round
  abbrev shows : Outcome → Type 0
  shows = RoundsShow true known 10 leads (λ number round code. code ≡ part_code game number round) (leader ∷ the_names)

  -- neither has the leader its name
  apart : (number : ℕ) (name : List ℕ) → slice_get the_names number ≡ Some name → IsAlone name (leader ∷ the_names)
  apart number name at = subst (λ (l : List ℕ). IsAlone name (l ∷ the_names)) (sym is) (alone number name at)

  -- the leader has the number 0, and each thread one more than its own
  shown : (outcome : Outcome) → shows outcome → outcome.failed ≡ None → ShowsGame known game outcome
  shown outcome said none =
      let by_rounds = said none in
      let whole = by_rounds.whole in
      record {
        frames = whole.frames;
        pending = whole.pending;
        handed = whole.handed;
        each =
            λ number name at.
            let (code, count, (turns, most_ten, are), count_is, code_shown) =
            whole.each (suc number) name at (apart number name at) in (
              turns,
              count,
              most_ten,
              count_is,
              subst (λ (c : Code). ∥ ShowsCode known c name whole.frames whole.pending count.unreported ∥₁)
                  (turns_are (part_code game number) turns code are) code_shown,
            );
        each_round =
            λ ten round number name below at.
            let (_counts, then_shown) =
            by_rounds.each (omega (arith, ten, by_rounds.few, by_rounds.within)) round
            (omega (arith, ten, below, by_rounds.few)) in
            let (code, count, are, _count_is, code_shown) = then_shown (suc number) name at (apart number name at) in (
              count.unreported,
              subst (λ (c : Code).
                  ∥ ShowsCode known c name (take (suc round) whole.frames) fin_map.empty count.unreported ∥₁)
                  (turns_are (part_code game number) (suc round) code are) code_shown,
            );
      }

  -- what a run shows, if it ends with an outcome
  pub game_shown : {E : Type 0} (r : Result Outcome E) → IfOk r shows →
      IfOk r (λ outcome. outcome.failed ≡ None → ShowsGame known game outcome)
  game_shown (Ok outcome) said = shown outcome said
  game_shown (Err e) said = tt
