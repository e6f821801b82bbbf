-- Parts of a path, read by their places.
use Rattle.std.proofs.Common.{Bor, nat_lt, ◌≡◌, ℕ, ◌+◌, ◌<◌, ◌≤◌, List, [], ◌∷◌, ◌++◌, length, map, take, get_or, refl, sym, ◌∙◌, ap, arith, Some, true, false, if◌then◌else◌}
use Rattle.std.proofs.lemmas.Bool.Decides.{nat_tests}
use Rattle.std.proofs.lemmas.List.{take_more, map-append, length-map, length-take-le}
use Rattle.std.specs.List.{join_with_byte}
use Rattle.std.proofs.lemmas.List.Splits.{join_with_byte-slice_split}
use Rattle.puffin_scopes.specs.Names.Files.{last_src, is_src, parts_of, kept_parts}

-- one part more at the end is the last `src` if it is one
last_src-snoc : (parts : List (List ℕ)) (part : List ℕ)
    → last_src (parts ++ part ∷ []) ≡ (if is_src part then Some (length parts) else last_src parts)
last_src-snoc [] part = refl
last_src-snoc (first ∷ parts) part =
    elim (is_src part) as (λ is.
    (last_src (parts ++ part ∷ []) ≡ (if is then Some (length parts) else last_src parts))
    → last_src ((first ∷ parts) ++ part ∷ []) ≡ (if is then Some (length (first ∷ parts)) else last_src (first ∷ parts))) [
      | true ↦ λ later. rw later refl
      | false ↦ λ later. rw later refl
    ] (last_src-snoc parts part)

-- a path of at most two parts is kept
pub short_paths : (path : List ℕ) → length (parts_of path) ≤ 2 → path ≡ join_with_byte 47 (kept_parts (parts_of path))
short_paths path few =
    let not_more : nat_lt 2 (length (parts_of path)) ≡ false = grind (arith, nat_tests) in
    rw not_more (sym (join_with_byte-slice_split 47 path))

-- the parts that references read
abbrev pub read : List (Bor (List ℕ)) → List (List ℕ)
read parts = map (λ part. part.now) parts

-- the last `src` with one part more, read through references; `none` is read where there is no part
last_src-more : (parts : List (Bor (List ℕ))) (i : ℕ) → i < length parts → (none : Bor (List ℕ))
    → last_src (read (take (i + 1) parts)) ≡ (if is_src (get_or parts i none).now then Some i else last_src (read (take i parts)))
last_src-more parts i less none =
    let part = get_or parts i none in
    let before = read (take i parts) in
    let taken : read (take (i + 1) parts) ≡ before ++ part.now ∷ [] =
    ap read (take_more parts i none less) ∙ map-append _ (take i parts) (part ∷ []) in
    let size : length before ≡ i =
    length-map (take i parts) (λ (part : Bor (List ℕ)). part.now) ∙ length-take-le i parts (omega arith) in
    let at_size : (if is_src part.now then Some (length before) else last_src before)
    ≡ (if is_src part.now then Some i else last_src before) = rw size refl in
    ap last_src taken ∙ last_src-snoc before part.now ∙ at_size

-- a part that is `src` is the last one so far
pub last_src-found : (parts : List (Bor (List ℕ))) (i : ℕ) → i < length parts → (none : Bor (List ℕ))
    → is_src (get_or parts i none).now ≡ true → Some i ≡ last_src (read (take (i + 1) parts))
last_src-found parts i less none is = sym (rw is at (last_src-more parts i less none))

-- past a part that isn't `src`, the last one is as before
pub last_src-passed : (parts : List (Bor (List ℕ))) (i : ℕ) → i < length parts → (none : Bor (List ℕ))
    → is_src (get_or parts i none).now ≡ false → last_src (read (take i parts)) ≡ last_src (read (take (i + 1) parts))
last_src-passed parts i less none is = sym (rw is at (last_src-more parts i less none))
