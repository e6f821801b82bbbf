-- Steps of selecting the slowest.
use Rattle.std.proofs.Common.{◌≡◌, ℕ, zero, suc, ◌+◌, ◌<◌, ◌≤◌, Bool, List, [], ◌∷◌, ◌++◌, length, drop, map, refl, sym, ap, ◌∙◌, arith, Some, None, get_or, add-one, append_assoc, drop-cons, append-nil}
use Rattle.std.specs.Prelude.{slice_get}
use Rattle.std.specs.Option.{option_map, option_to_list}
use Rattle.std.specs.List.Sorted.{IsSortedBy}
use Rattle.puffin_view.specs.View.ViewedFrames.{Frame, index_of, duration_of}
use Rattle.puffin_view.specs.View.Selection.{Rank, ranks_from}
use Rattle.puffin_view.proofs.Orders.{map-more, map-length}

get_map : {F G : Type 0} (g : F → G) (xs : List F) (k : ℕ) (d : F) → get_or (map g xs) k (g d) ≡ g (get_or xs k d)
get_map g [] k d = refl
get_map g (x ∷ xs) zero d = refl
get_map g (x ∷ xs) (suc k) d = get_map g xs k d

-- one done is one less left
regroup : {C : Type 0} (done left rest whole : List C) (c : C) → left ≡ c ∷ rest → done ++ left ≡ whole
    → (done ++ c ∷ []) ++ rest ≡ whole
regroup done left rest whole c e h = append_assoc done (c ∷ []) rest ∙ ap (λ l. done ++ l) (sym e) ∙ h

rank_of : ℕ → Frame → Rank
rank_of k f = record { duration = duration_of f; index = index_of f; place = k }

-- the ranks so far, with that of the next place
pub ranked_more : {A X : Type 0} (g : A → Frame) (s : X → Rank) (hs : List A)
    (k : ℕ) (a : A) (done new : List X) (x : X) (whole : List Rank) → k < length hs → a ≡ get_or hs k a
    → s x ≡ record { duration = duration_of (g a); index = index_of (g a); place = k } → new ≡ done ++ x ∷ []
    → map s done ++ ranks_from k (drop k (map g hs)) ≡ whole
    → map s new ++ ranks_from (k + 1) (drop (k + 1) (map g hs)) ≡ whole
ranked_more g s hs k a done new x whole h here same is so =
    let within : k < length (map g hs) = rw (map-length g hs) h in
    let there : get_or (map g hs) k (g a) ≡ g a = get_map g hs k a ∙ ap g (sym here) in
    let next : drop k (map g hs) ≡ g a ∷ drop (suc k) (map g hs) =
    drop-cons (map g hs) k (g a) within ∙ ap (λ f. f ∷ drop (suc k) (map g hs)) there in
    let left : ranks_from k (drop k (map g hs)) ≡ s x ∷ ranks_from (suc k) (drop (suc k) (map g hs)) =
    ap (ranks_from k) next ∙ ap (λ r. r ∷ ranks_from (suc k) (drop (suc k) (map g hs))) (sym same) in
    rw (add-one, is) (ap (λ l. l ++ ranks_from (suc k) (drop (suc k) (map g hs))) (map-more s done x) ∙ regroup (map s
    done) (ranks_from k (drop k (map g hs))) (ranks_from (suc k) (drop (suc k) (map g hs))) whole (s x) left so)

-- an order seen through a function that can be undone
pub map_sorted : {A B : Type 0} (f : A → B) (back : B → A) (undo : (b : B) → f (back b) ≡ b) (lt : B → B → Bool)
    (xs : List A) → IsSortedBy (λ x y. lt (f x) (f y)) xs → IsSortedBy lt (map f xs)
map_sorted f back undo lt xs h = λ k d low high.
    let far : k + 1 < length xs = rw (sym (map-length f xs)) high in
    let later : get_or (map f xs) (k + 1) d ≡ f (get_or xs (k + 1) (back d)) =
    ap (get_or (map f xs) (k + 1)) (sym (undo d)) ∙ get_map f xs (k + 1) (back d) in
    let first : get_or (map f xs) k d ≡ f (get_or xs k (back d)) =
    ap (get_or (map f xs) k) (sym (undo d)) ∙ get_map f xs k (back d) in
    ap (λ b. lt b (get_or (map f xs) k d)) later ∙ ap (λ b. lt (f (get_or xs (k + 1) (back d))) b) first
    ∙ h k (back d) low far

-- a place of a mapped list
pub slice_get_map : {A B : Type 0} (f : A → B) (xs : List A) (k : ℕ)
    → slice_get (map f xs) k ≡ option_map f (slice_get xs k)
slice_get_map f [] k = refl
slice_get_map f (x ∷ xs) zero = refl
slice_get_map f (x ∷ xs) (suc k) = slice_get_map f xs k

-- the frame at a place is added
pub pushed_at : {A B : Type 0} (g : A → B) (all new : List A) (x a : A) (frames : List A) (place : ℕ)
    → new ≡ all ++ x ∷ [] → g x ≡ g a → Some a ≡ slice_get frames place
    → map g new ≡ map g all ++ option_to_list (slice_get (map g frames) place)
pushed_at g all new x a frames place is same there =
    ap (map g) is ∙ map-more g all x ∙ ap (λ y. map g all ++ y ∷ []) same
    ∙ ap (λ o. map g all ++ option_to_list o) (ap (option_map g) there ∙ sym (slice_get_map g frames place))

-- beyond the list nothing is added
pub not_pushed_at : {A B : Type 0} (g : A → B) (all : List A) (frames : List A) (place : ℕ)
    → None ≡ slice_get frames place → map g all ≡ map g all ++ option_to_list (slice_get (map g frames) place)
not_pushed_at g all frames place there =
    sym (append-nil (map g all))
    ∙ ap (λ o. map g all ++ option_to_list o) (ap (option_map g) there ∙ sym (slice_get_map g frames place))

no_room : (n : ℕ) → suc n ≤ 0 → ⊥
no_room n h = omega arith

no_less : (k : ℕ) → k < 0 → ⊥
no_less k h = omega arith

-- beyond a list there is nothing
pub get_past : {A : Type 0} (xs : List A) (k : ℕ) → length xs ≤ k → None ≡ slice_get xs k
get_past [] k h = refl
get_past (x ∷ xs) zero h = absurd (no_room (length xs) h)
get_past (x ∷ xs) (suc k) h = get_past xs k (omega arith)

-- within a list there is the element
pub get_within : {A : Type 0} (xs : List A) (k : ℕ) (a : A) → k < length xs → a ≡ get_or xs k a
    → Some a ≡ slice_get xs k
get_within [] k a h e = absurd (no_less k h)
get_within (x ∷ xs) zero a h e = ap Some e
get_within (x ∷ xs) (suc k) a h e = get_within xs k a (omega arith) e
