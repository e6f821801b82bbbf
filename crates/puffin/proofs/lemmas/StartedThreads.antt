-- Where a thread has no first start, nothing waits: code keeps that so.
use Rattle.std.proofs.Common.{◌≡◌, ℕ, zero, suc, ◌<◌, List, [], ◌∷◌, ◌++◌, None, refl, ap, ◌∙◌, arith}
use Rattle.puffin_data.specs.Forest.Tour.{Event}
use Rattle.puffin_data.specs.Forest.Words.{open_after}
use Rattle.puffin_threads.specs.Thread.Calls.{Thread}

-- what waits has begun
abbrev pub HasStarted : Thread → Type 0
HasStarted thread = thread.first_start ≡ None → thread.word ≡ []

none_behind : {A : Type 0} (xs ys : List A) → xs ++ ys ≡ [] → ys ≡ []
none_behind [] ys is = is
none_behind (x ∷ xs) ys is = absurd (let h : x ∷ (xs ++ ys) ≡ [] = is in cc)

-- after code that recorded these events, what waits has begun, if it had before
pub stays_started : (old new : Thread) (events : List Event) → HasStarted old
    → (new.first_start ≡ None → (old.first_start ≡ None) × (events ≡ []))
    → (0 < open_after 0 old.word → new.word ≡ old.word ++ events)
    → (open_after 0 old.word ≡ 0 → (reported : List Event) × (reported ++ new.word ≡ old.word ++ events))
    → HasStarted new
stays_started old new events started not_yet within outside none = at_depth (open_after 0 old.word) refl
  where
    whole : old.word ++ events ≡ []
    whole = let n = not_yet none in ap (λ (w : List Event). w ++ events) (started n.0) ∙ n.1

    at_depth : (k : ℕ) → open_after 0 old.word ≡ k → new.word ≡ []
    at_depth zero is = let p = outside is in none_behind p.0 new.word (p.1 ∙ whole)
    at_depth (suc k) is = within (omega (arith, is)) ∙ whole
