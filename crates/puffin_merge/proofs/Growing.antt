-- What is merged at a path when one occurrence more comes in.
use Rattle.std.proofs.Common.{◌≡◌, ◌+◌, ◌<◌, max, Bool, true, false, cond, List, [], ◌∷◌, ◌++◌, length, fold, refl, ap, ◌∙◌, arith}
use Rattle.std.specs.Int.{int_min}
use Rattle.std.proofs.lemmas.List.Elements.{filter-append}
use Rattle.puffin_merge.specs.Merge.Occurrences.{Path, Occurrence, is_path}
use Rattle.puffin_merge.specs.Merge.Pieces.{pieces_at, total_of, greatest_of, least_start_of, merged_of, merged_at}
use Rattle.puffin_merge.proofs.OnePiece.{with_piece, one_piece}

fold-push : {A B : Type 0} (f : B → A → B) (b : B) (xs : List A) (x : A) → fold f b (xs ++ (x ∷ [])) ≡ f (fold f b xs) x
fold-push f b [] x = refl
fold-push f b (y ∷ xs) x = fold-push f (f b y) xs x

length-push : {A : Type 0} (xs : List A) (x : A) → length (xs ++ (x ∷ [])) ≡ length xs + 1
length-push [] x = refl
length-push (y ∷ xs) x = let e = length-push xs x in omega arith

-- the first piece
pub merged_of-one : (o : Occurrence) → merged_of (o ∷ []) ≡ one_piece o.own_start o.duration
merged_of-one o =
    let total : total_of (o ∷ []) ≡ o.duration = omega arith in
    let greatest : greatest_of (o ∷ []) ≡ o.duration = omega arith in
    λ i. record { number = 1; total = total i; greatest = greatest i; own_start = o.own_start }

-- a piece more
pub merged_of-more : (p : Occurrence) (pieces : List Occurrence) (o : Occurrence) →
    merged_of ((p ∷ pieces) ++ (o ∷ [])) ≡ with_piece (merged_of (p ∷ pieces)) o.own_start o.duration
merged_of-more p pieces o =
    let number : length ((p ∷ pieces) ++ (o ∷ [])) ≡ length (p ∷ pieces) + 1 = length-push (p ∷ pieces) o in
    let total : total_of ((p ∷ pieces) ++ (o ∷ [])) ≡ total_of (p ∷ pieces) + o.duration =
    fold-push (λ b q. b + q.duration) 0 (p ∷ pieces) o in
    let greatest : greatest_of ((p ∷ pieces) ++ (o ∷ [])) ≡ max (greatest_of (p ∷ pieces)) o.duration =
    fold-push (λ b q. max b q.duration) 0 (p ∷ pieces) o in
    let least : least_start_of ((p ∷ pieces) ++ (o ∷ [])) ≡ int_min (least_start_of (p ∷ pieces)) o.own_start =
    fold-push (λ t q. int_min t q.own_start) p.own_start pieces o in
    λ i. record { number = number i; total = total i; greatest = greatest i; own_start = least i }

-- an occurrence of another path changes nothing
kept : (b : Bool) (o : Occurrence) (pieces : List Occurrence) → b ≡ false → pieces ++ cond b (o ∷ []) [] ≡ pieces
kept b o pieces e = ap (λ c. pieces ++ cond c (o ∷ []) []) e ∙ append-nil pieces where
  append-nil : (xs : List Occurrence) → xs ++ [] ≡ xs
  append-nil [] = refl
  append-nil (x ∷ xs) = ap (λ l. x ∷ l) (append-nil xs)

-- an occurrence of another path leaves a path's sums
pub merged_at-other : (all : List Occurrence) (o : Occurrence) (path : Path) → is_path o.path path ≡ false
    → merged_at (all ++ (o ∷ [])) path ≡ merged_at all path
merged_at-other all o path e =
    ap merged_of
    (filter-append (λ q. is_path q.path path) all (o ∷ []) ∙ kept (is_path o.path path) o (pieces_at all path) e)

pushed : (b : Bool) (o : Occurrence) (pieces : List Occurrence) → b ≡ true
    → pieces ++ cond b (o ∷ []) [] ≡ pieces ++ (o ∷ [])
pushed b o pieces e = ap (λ c. pieces ++ cond c (o ∷ []) []) e

pieces-more : (all : List Occurrence) (o : Occurrence) (path : Path) → is_path o.path path ≡ true
    → pieces_at (all ++ (o ∷ [])) path ≡ pieces_at all path ++ (o ∷ [])
pieces-more all o path e =
    filter-append (λ q. is_path q.path path) all (o ∷ []) ∙ pushed (is_path o.path path) o (pieces_at all path) e

first_or_more : (pieces : List Occurrence) (o : Occurrence) → 0 < length pieces
    → merged_of (pieces ++ (o ∷ [])) ≡ with_piece (merged_of pieces) o.own_start o.duration
first_or_more [] o h = absurd (omega arith)
first_or_more (p ∷ pieces) o h = merged_of-more p pieces o

-- a path that has occurrences
pub merged_at-more : (all : List Occurrence) (o : Occurrence) (path : Path) → is_path o.path path ≡ true
    → 0 < (merged_at all path).number →
    merged_at (all ++ (o ∷ [])) path ≡ with_piece (merged_at all path) o.own_start o.duration
merged_at-more all o path e h = ap merged_of (pieces-more all o path e) ∙ first_or_more (pieces_at all path) o h

of_none : (pieces : List Occurrence) (o : Occurrence) → length pieces ≡ 0
    → merged_of (pieces ++ (o ∷ [])) ≡ one_piece o.own_start o.duration
of_none [] o h = merged_of-one o
of_none (p ∷ pieces) o h = absurd (omega arith)

-- a path that has none so far
pub merged_at-first : (all : List Occurrence) (o : Occurrence) (path : Path) → is_path o.path path ≡ true
    → (merged_at all path).number ≡ 0 →
    merged_at (all ++ (o ∷ [])) path ≡ one_piece o.own_start o.duration
merged_at-first all o path e h = ap merged_of (pieces-more all o path e) ∙ of_none (pieces_at all path) o h
