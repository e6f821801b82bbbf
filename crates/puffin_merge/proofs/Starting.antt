-- Starting each sibling as early as it can gives the least feasible starts.
use Rattle.std.proofs.Common.{ℤ, pos, ◌≤ℤ◌, List, [], ◌∷◌, arith}
use Rattle.std.proofs.lemmas.Int.{ints, clamps}
use Rattle.puffin_merge.specs.Merge.Starts.{Sibling, end_from, IsFree, IsFeasible, IsNowhereAbove, IsLeastFeasible, earliest_start, earliest_starts}

own_below : (free : ℤ) (s : Sibling) → s.own_start ≤ℤ earliest_start free s
own_below free s = omega (arith, ints, clamps)

zero_below : (free : ℤ) (s : Sibling) → pos 0 ≤ℤ earliest_start free s
zero_below free s = omega (arith, ints, clamps)

free_below : (free : ℤ) (s : Sibling) → free ≤ℤ earliest_start free s
free_below free s = omega (arith, ints, clamps)

-- whatever isn't before the three isn't before the greatest of them
above : (free t : ℤ) (s : Sibling) → s.own_start ≤ℤ t → pos 0 ≤ℤ t → free ≤ℤ t → earliest_start free s ≤ℤ t
above free t s a b c = omega (arith, ints, clamps)

ends_above : (t u : ℤ) (s : Sibling) → t ≤ℤ u → end_from t s ≤ℤ end_from u s
ends_above t u s h = omega (arith, ints, clamps)

le-trans : (a b c : ℤ) → a ≤ℤ b → b ≤ℤ c → a ≤ℤ c
le-trans a b c h k = omega (arith, ints, clamps)

earliest-free : (free : ℤ) (siblings : List Sibling) → IsFree free (earliest_starts free siblings)
earliest-free free [] = tt
earliest-free free (s ∷ siblings) = free_below free s

earliest-feasible : (free : ℤ) (siblings : List Sibling) → IsFeasible siblings (earliest_starts free siblings)
earliest-feasible free [] = tt
earliest-feasible free (s ∷ siblings) =
    let t : ℤ = earliest_start free s in (
      own_below free s,
      zero_below free s,
      earliest-free (end_from t s) siblings,
      earliest-feasible (end_from t s) siblings,
    )

free-below : (low high : ℤ) → low ≤ℤ high → (starts : List ℤ) → IsFree high starts → IsFree low starts
free-below low high h [] k = tt
free-below low high h (t ∷ starts) k = le-trans low high t h k

earliest-least : (siblings : List Sibling) (others : List ℤ) (free : ℤ) → IsFree free others
    → IsFeasible siblings others → IsNowhereAbove (earliest_starts free siblings) others
earliest-least [] [] free h k = tt
earliest-least [] (u ∷ others) free h k = k
earliest-least (s ∷ siblings) [] free h k = k
earliest-least (s ∷ siblings) (u ∷ others) free h (own, nonnegative, later, rest) =
    let first : earliest_start free s ≤ℤ u = above free u s own nonnegative h in (
      first,
      earliest-least siblings others (end_from (earliest_start free s) s)
          (free-below _ _ (ends_above _ u s first) others later) rest,
    )

feasible-free : (siblings : List Sibling) (others : List ℤ) → IsFeasible siblings others → IsFree (pos 0) others
feasible-free [] [] k = tt
feasible-free [] (u ∷ others) k = absurd k
feasible-free (s ∷ siblings) [] k = tt
feasible-free (s ∷ siblings) (u ∷ others) (own, nonnegative, later, rest) = nonnegative

-- the earliest starts are the least feasible ones
pub earliest-is_least : (siblings : List Sibling) → IsLeastFeasible siblings (earliest_starts (pos 0) siblings)
earliest-is_least siblings = record {
  feasible = earliest-feasible (pos 0) siblings;
  least = λ others k. earliest-least siblings others (pos 0) (feasible-free siblings others k) k;
}
