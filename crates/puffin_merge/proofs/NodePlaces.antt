-- The ordered nodes of all nodes, in another order.
use Rattle.std.proofs.Common.{◌≡◌, ℕ, zero, suc, ◌+◌, ◌<◌, ◌≤◌, List, [], ◌∷◌, length, get_or, IsPermutation, inl, inr, sym, ◌∙◌, arith}
use Rattle.std.specs.List.Sorted.{IsSorted}
use Rattle.std.proofs.lemmas.List.Sorted.{All-permutation}
use Rattle.puffin_merge.specs.declared.merge.table.Node.{Node}
use Rattle.puffin_merge.specs.declared.merge.tree.OrderedNode.{OrderedNode}
use Rattle.puffin_merge.specs.inner.Places.{IsOrderedNodeAt, IsOrderedNodeOf, SomeOf, EachOf, AreApart, ordered_node_cmp, AreOrderedNodesOf}
use Rattle.puffin_merge.proofs.Reordering.{Reordered, none_left, keeps, turns, goes_on, from_permutation, length-reordered}

some-reordered : {A : Type 0} (P : A → Type 0) → {xs ys : List A} → Reordered xs ys → SomeOf P xs → SomeOf P ys
some-reordered P none_left h = h
some-reordered P (keeps x r) (inl h) = inl h
some-reordered P (keeps x r) (inr h) = inr (some-reordered P r h)
some-reordered P (turns x y xs) (inl h) = inr (inl h)
some-reordered P (turns x y xs) (inr (inl h)) = inl h
some-reordered P (turns x y xs) (inr (inr h)) = inr (inr h)
some-reordered P (goes_on r s) h = some-reordered P s (some-reordered P r h)

each-reordered : {A : Type 0} (P : A → Type 0) → {xs ys : List A} → Reordered xs ys → EachOf P xs → EachOf P ys
each-reordered P none_left h = h
each-reordered P (keeps x r) (first, others) = (first, each-reordered P r others)
each-reordered P (turns x y xs) (first, (second, others)) = (second, (first, others))
each-reordered P (goes_on r s) h = each-reordered P s (each-reordered P r h)

apart-reordered : {xs ys : List OrderedNode} → Reordered xs ys → AreApart xs → AreApart ys
apart-reordered none_left h = h
apart-reordered (keeps x r) (first, others) =
    (each-reordered (λ q. x.number.number ≡ q.number.number → ⊥) r first, apart-reordered r others)
apart-reordered (turns x y xs) ((apart, first), (second, others)) = ((λ e. apart (sym e), second), (first, others))
apart-reordered (goes_on r s) h = apart-reordered s (apart-reordered r h)

some_at : {A : Type 0} (P : A → Type 0) (xs : List A) (k : ℕ) (d : A) → k < length xs → P (get_or xs k d) → SomeOf P xs
some_at P [] k d lt h = absurd (omega arith)
some_at P (x ∷ xs) zero d lt h = inl h
some_at P (x ∷ xs) (suc k) d lt h = inr (some_at P xs k d (omega arith) h)

-- numbers that count up
higher : (n m : ℕ) (p : OrderedNode) (xs : List OrderedNode)
    → p.number.number ≤ n → ((k : ℕ) (d : OrderedNode) → k < length xs → (get_or xs k d).number.number ≡ n + k + 1)
    → EachOf (λ q. p.number.number ≡ q.number.number → ⊥) xs
higher n m p [] h counts = tt
higher n m p (x ∷ xs) h counts =
    let first : x.number.number ≡ n + 0 + 1 = counts 0 x (omega arith) in
    (λ e. omega arith, higher (n + 1) m p xs (omega arith) (λ k d lt. counts (suc k) d (omega arith) ∙ omega arith))

apart_from : (n : ℕ) (xs : List OrderedNode)
    → ((k : ℕ) (d : OrderedNode) → k < length xs → (get_or xs k d).number.number ≡ n + k + 1) → AreApart xs
apart_from n [] counts = tt
apart_from n (x ∷ xs) counts =
    let first : x.number.number ≡ n + 0 + 1 = counts 0 x (omega arith) in (
      higher (n + 1) 0 x xs (omega arith) (λ k d lt. counts (suc k) d (omega arith) ∙ omega arith),
      apart_from (n + 1) xs (λ k d lt. counts (suc k) d (omega arith) ∙ omega arith),
    )

some_place : (xs : List OrderedNode) (k : ℕ) → k < length xs → OrderedNode
some_place [] k h = absurd (omega arith)
some_place (x ∷ xs) k h = x

-- ordered nodes that were made in order, and then sorted
pub places_sorted : (nodes : List Node) (xs ys : List OrderedNode) → length xs ≡ length nodes
    → ((k : ℕ) (d : OrderedNode) → k < length xs → IsOrderedNodeAt nodes k (get_or xs k d)) → IsPermutation xs ys
    → IsSorted ordered_node_cmp ys → AreOrderedNodesOf nodes ys
places_sorted nodes xs ys size each permuted sorted =
    let r = from_permutation xs ys permuted in
    record {
      size = sym (length-reordered r) ∙ size;
      each = All-permutation (IsOrderedNodeOf nodes) xs ys permuted
          (λ k d lt. (k, omega (arith, lt, size), each k d lt));
      whole = λ k lt.
          let inside : k < length xs = omega (arith, lt, size) in
          let d = some_place xs k inside in
          some-reordered (λ (p : OrderedNode). p.number.number ≡ k + 1) r
          (some_at (λ (p : OrderedNode). p.number.number ≡ k + 1) xs k d inside (each k d inside).number);
      apart = apart-reordered r (apart_from 0 xs (λ k d lt. (each k d lt).number ∙ omega arith));
      sorted = sorted;
    }
