-- Values read one after the other, as a loop reads them.
use Rattle.std.proofs.Common.{◌≡◌, ℕ, suc, ◌-◌, ◌+◌, ◌<◌, List, [], ◌∷◌, ◌++◌, Option, Some, None, refl, sym, ap, ◌∙◌, append_assoc, arith}
use Rattle.puffin_data.specs.Value.Decoding.{◌>>=◌, times_at}

-- what was read before, and what is still read
abbrev pub with_front : {A : Type 0} → List A → Option (List A × List ℕ) → Option (List A × List ℕ)
with_front front read = read >>= λ one. Some (front ++ one.0, one.1)

regroup : {A : Type 0} (front : List A) (value : A) (read : Option (List A × List ℕ))
    → with_front front (read >>= λ one. Some (value ∷ one.0, one.1)) ≡ with_front (front ++ value ∷ []) read
regroup {A = A} front value (Some one) = ap (λ (any : List A). Some (any, one.1)) (simp append_assoc)
regroup front value None = refl

-- one more value was read
pub one_more : {A : Type 0} (read : List ℕ → Option (A × List ℕ)) (front : List A) (count done : ℕ) (bytes : List ℕ) (value : A)
    (after : List ℕ) (total : Option (List A × List ℕ)) → done < count → read bytes ≡ Some (value, after)
    → with_front front (times_at read (count - done) bytes) ≡ total
    → with_front (front ++ value ∷ []) (times_at read (count - (done + 1)) after) ≡ total
one_more read front count done bytes value after total within read_is so_far =
    let left : count - done ≡ suc (count - (done + 1)) = omega arith in
    let same : with_front front (times_at read (count - done) bytes)
    ≡ with_front (front ++ value ∷ []) (times_at read (count - (done + 1)) after) =
    rw (left, read_is) (regroup front value (times_at read (count - (done + 1)) after)) in
    sym same ∙ so_far
