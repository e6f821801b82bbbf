-- Numbers that rise strictly, with one more behind them or one taken out.
use Rattle.std.proofs.Common.{◌≡◌, ℕ, ◌+◌, ◌<◌, List, [], ◌∷◌, ◌++◌, length, take, drop, map, suc, zero, sym}
use Rattle.std.proofs.Common.{ap, ◌∙◌, subst, arith, rules}
use Rattle.std.specs.Prelude.{⊤, slice_get, slice_index, get_or, remove, Some}
use Rattle.std.specs.List.Sorted.{IsStrictlyIncreasing}
use Rattle.std.proofs.lemmas.List.{map-append, append_assoc}
use Rattle.std.proofs.lemmas.Option.{get_or_from_slice_get}
use Rattle.puffin.specs.declared.global_profiler.sink.Sink.{Sink}
use Rattle.puffin.specs.declared.global_profiler.sinks.SinkEntry.{SinkEntry}
use Rattle.puffin.specs.Sinks.{TakesOut}
use Rattle.puffin.specs.inner.Numbers.{AreNumbered}

-- each number is above the one before it, the first above this one
abbrev Rises : ℕ → List ℕ → Type 0
Rises low [] = ⊤
Rises low (x ∷ xs) = (low < x) × Rises x xs

-- each but the first is above the one before it, told by places
abbrev Steps : List ℕ → ℕ → Type 0
Steps xs k = slice_index xs k < slice_index xs (suc k)

rises_from : (low : ℕ) (xs : List ℕ) → ((k : ℕ) → suc k < length (low ∷ xs) → Steps (low ∷ xs) k) → Rises low xs
rises_from low [] rise = tt
rises_from low (x ∷ xs) rise =
    (rise zero (omega arith), rises_from x xs (λ k below. rise (suc k) (omega (arith, below))))

increasing_from : (low : ℕ) (xs : List ℕ) → Rises low xs → (k : ℕ) → suc k < length (low ∷ xs) → Steps (low ∷ xs) k
increasing_from low [] rise k below = absurd (omega (arith, below))
increasing_from low (x ∷ xs) rise zero below = rise.0
increasing_from low (x ∷ xs) rise (suc k) below = increasing_from x xs rise.1 k (omega (arith, below))

next_of : (k : ℕ) → k + 1 ≡ suc k
next_of k = omega arith

rises : (low : ℕ) (xs : List ℕ) → IsStrictlyIncreasing (low ∷ xs) → Rises low xs
rises low xs increasing = rises_from low xs (λ k below.
    subst (λ n. slice_index (low ∷ xs) k < slice_index (low ∷ xs) n) (next_of k) (increasing k (omega (arith, below))))

increasing : (low : ℕ) (xs : List ℕ) → Rises low xs → IsStrictlyIncreasing (low ∷ xs)
increasing low xs rise k below =
    subst (λ n. slice_index (low ∷ xs) k < slice_index (low ∷ xs) n) (sym (next_of k))
    (increasing_from low xs rise k (omega (arith, below)))

rises_behind : (low : ℕ) (xs : List ℕ) (n m : ℕ) → n < m → Rises low (xs ++ n ∷ []) → Rises low ((xs ++ n ∷ []) ++ m ∷ [])
rises_behind low [] n m below rise = (rise.0, (below, tt))
rises_behind low (x ∷ xs) n m below rise = (rise.0, rises_behind x xs n m below rise.1)

rises_lower : (low x : ℕ) (xs : List ℕ) → low < x → Rises x xs → Rises low xs
rises_lower low x [] below rise = tt
rises_lower low x (y ∷ ys) below rise = (omega (arith, below, rise.0), rise.1)

rises_without : (low : ℕ) (before : List ℕ) (x : ℕ) (after : List ℕ) → Rises low (before ++ x ∷ after)
    → Rises low (before ++ after)
rises_without low [] x after rise = rises_lower low x after rise.0 rise.1
rises_without low (y ∷ before) x after rise = (rise.0, rises_without y before x after rise.1)

-- a list around one of its elements
around : {X : Type 0} (xs : List X) (i : ℕ) (x : X) → slice_get xs i ≡ Some x → xs ≡ take i xs ++ x ∷ drop (suc i) xs
around [] i x at = absurd (search rules)
around (y ∷ ys) zero x at = ap (λ z. z ∷ ys) (get_or_from_slice_get (y ∷ ys) zero x y at)
around (y ∷ ys) (suc i) x at = ap (λ zs. y ∷ zs) (around ys i x at)

module _ {I : Type 0} {F : I → Type 0} where
  -- one more behind the others, under the next number
  pub numbered-more : (es : List (SinkEntry I F)) (next : ℕ) (s : Sink I F) → AreNumbered es next
      → AreNumbered (es ++ record { id = next; sink = s } ∷ []) (next + 1)
  numbered-more es next s numbered =
      let P : List ℕ → Type 0 = λ xs. Rises 0 (xs ++ (next + 1) ∷ []) in
      increasing 0 _ (subst P (sym (map-append (λ (entry : SinkEntry I F). entry.id) es _))
      (rises_behind 0 (map (λ (entry : SinkEntry I F). entry.id) es) next (next + 1) (omega arith) (rises 0 _ numbered)))

  -- one taken out
  pub numbered-fewer : (before after : List (SinkEntry I F)) (e : SinkEntry I F) (next : ℕ) → AreNumbered (before ++ e ∷ after) next
      → AreNumbered (before ++ after) next
  numbered-fewer before after e next numbered =
      let number : SinkEntry I F → ℕ = λ entry. entry.id in
      let P : List ℕ → Type 0 = λ xs. Rises 0 xs in
      let all = ap (λ (xs : List ℕ). xs ++ next ∷ []) (map-append number before (e ∷ after))
      ∙ append_assoc (map number before) (map number (e ∷ after)) (next ∷ []) in
      let rest = ap (λ (xs : List ℕ). xs ++ next ∷ []) (map-append number before after)
      ∙ append_assoc (map number before) (map number after) (next ∷ []) in
      increasing 0 _ (subst P (sym rest) (rises_without 0 (map number before) e.id
      (map number after ++ next ∷ []) (subst P all (rises 0 _ numbered))))

  -- what is taken out, and what stays
  pub taken_out : (xs ys new : List (SinkEntry I F)) (i id : ℕ) (r : SinkEntry I F) → ys ≡ xs → r ≡ get_or xs i r
      → new ≡ remove xs i
      → (e : SinkEntry I F) × (slice_get ys i ≡ Some e) × (e.id ≡ id) × (i < length ys) → TakesOut id r.sink xs new
  taken_out xs ys new i id r seen is left (e, at, named, within) =
      let there : slice_get xs i ≡ Some e = ap (λ (zs : List (SinkEntry I F)). slice_get zs i) (sym seen) ∙ at in
      let same : r ≡ e = is ∙ get_or_from_slice_get xs i e r there in
      let id_is : r.id ≡ id = ap (λ (x : SinkEntry I F). x.id) same ∙ named in
      let whole : r ≡ record { id = id; sink = r.sink } = λ j. record { id = id_is j; sink = r.sink } in
      let around_it = around xs i e there ∙ ap (λ (x : SinkEntry I F). take i xs ++ x ∷ drop (suc i) xs) (sym same ∙ whole) in
      (take i xs, drop (suc i) xs, around_it, left)

  -- sinks that are numbered stay so when one is taken out
  pub numbered-taken : (id : ℕ) (s : Sink I F) (old new : List (SinkEntry I F)) (next : ℕ) → TakesOut id s old new
      → AreNumbered old next → AreNumbered new next
  numbered-taken id s old new next (before, after, old_is, new_is) numbered =
      let P : List (SinkEntry I F) → Type 0 = λ es. AreNumbered es next in
      subst P (sym new_is) (numbered-fewer before after _ next (subst P old_is numbered))
