-- Keys and elements of lists that are joined: steps of the proof.
use Rattle.std.specs.Prelude.{◌≡◌, ℕ, zero, suc, List, [], ◌∷◌, ◌++◌, slice_get, Some}
use Rattle.std.specs.Map.{keys_of}
use Rattle.std.proofs.Common.{refl, ap}

pub keys_of-append : {K X : Type 0} (xs ys : List (K × X)) → keys_of (xs ++ ys) ≡ keys_of xs ++ keys_of ys
keys_of-append [] ys = refl
keys_of-append {K = K} (x ∷ xs) ys = ap (λ (keys : List K). x.0 ∷ keys) (keys_of-append xs ys)

-- an element keeps its place where others are added behind it
pub place_stays : {X : Type 0} (xs ys : List X) (i : ℕ) (x : X) → slice_get xs i ≡ Some x →
    slice_get (xs ++ ys) i ≡ Some x
place_stays [] ys i x h = absurd (cc)
place_stays (y ∷ xs) ys zero x h = h
place_stays (y ∷ xs) ys (suc i) x h = place_stays xs ys i x h
