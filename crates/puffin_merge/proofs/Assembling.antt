-- The forest of a table is the merge of its occurrences.
use Rattle.std.proofs.Common.{◌≡◌, ℕ, suc, ◌/◌, ◌<◌, ◌≤◌, ◌==◌, ℤ, pos, Bool, true, false, cond, List, [], ◌∷◌, ◌++◌, get_or, map, All, Contains, inl, inr, ⊎_elim, refl, sym, ap, ◌∙◌, subst, arith}
use Rattle.std.specs.List.{AllByRecursion}
use Rattle.std.specs.declared.cmp.Ordering.TheVariants.{Less}
use Rattle.std.proofs.lemmas.Bool.Decides.{nat_tests}
use Rattle.std.proofs.lemmas.List.Elements.{All-from_recursion}
use Rattle.puffin_merge.specs.Merge.Occurrences.{Label, Path, Occurrence}
use Rattle.puffin_merge.specs.Merge.Pieces.{Merged, merged_at}
use Rattle.puffin_merge.specs.Merge.Starts.{Sibling, IsLeastFeasible}
use Rattle.puffin_merge.specs.Merge.Tree.{Node, merged, row}
use Rattle.puffin_merge.specs.Merge.{below, HasSums, sibling_cmp, IsRising, sibling_of, IsRow, HasRowsBelow, IsMerge}
use Rattle.puffin_merge.proofs.Assembled.{Entry, node_of, children_of, forest_below, Each, Some_of, StandsBefore, InOrder, IsEntry, IsTable}
use Rattle.puffin_merge.proofs.Starting.{earliest-is_least}

-- ---- lists

no_snoc : {A : Type 0} (xs : List A) (x : A) → [] ≡ xs ++ (x ∷ []) → ⊥
no_snoc [] x e = cc
no_snoc (y ∷ xs) x e = cc

snoc-same : {A : Type 0} (xs ys : List A) (x y : A) → xs ++ (x ∷ []) ≡ ys ++ (y ∷ []) → (xs ≡ ys) × (x ≡ y)
snoc-same [] [] x y e = (refl, cc)
snoc-same [] (v ∷ ys) x y e = absurd (no_snoc ys y (cc))
snoc-same (u ∷ xs) [] x y e = let f : [] ≡ xs ++ (x ∷ []) = cc in absurd (no_snoc xs x f)
snoc-same (u ∷ xs) (v ∷ ys) x y e =
    let tails : xs ++ (x ∷ []) ≡ ys ++ (y ∷ []) = cc in
    let heads : u ≡ v = cc in
    let rest = snoc-same xs ys x y tails in
    let tails_same : xs ≡ ys = rest.0 in
    (cc, rest.1)

each-kept : (P : Entry → Type 0) (p : ℕ) (entries : List Entry) → Each P entries → Each P (children_of p entries)
each-kept P p [] h = tt
each-kept P p (e ∷ entries) h = by_case (e.parent == p) (each-kept P p entries h.1) where
  by_case : (b : Bool) → Each P (children_of p entries)
      → Each P (cond b (e ∷ children_of p entries) (children_of p entries))
  by_case true k = (h.0, k)
  by_case false k = k

Decides-yes : (a b : ℕ) → a ≡ b → (a == b) ≡ true
Decides-yes a b e = grind (arith, nat_tests)

Decides-same : (a b : ℕ) → (a == b) ≡ true → a ≡ b
Decides-same a b e = grind (arith, nat_tests)

-- the children's parent
parents : (p : ℕ) (entries : List Entry) → Each (λ e. e.parent ≡ p) (children_of p entries)
parents p [] = tt
parents p (e ∷ entries) = parents-step p e (children_of p entries) (parents p entries) where
  parents-step : (p : ℕ) (e : Entry) (rest : List Entry) → Each (λ f. f.parent ≡ p) rest
      → Each (λ f. f.parent ≡ p) (cond (e.parent == p) (e ∷ rest) rest)
  parents-step p e rest h = case (e.parent == p) (λ same. grind (arith, nat_tests)) where
    case : (b : Bool) → (b ≡ true → e.parent ≡ p) → Each (λ f. f.parent ≡ p) (cond b (e ∷ rest) rest)
    case true known = (known refl, h)
    case false known = h

-- ---- one row

row-is : (frames p : ℕ) (entries : List Entry)
    → row (forest_below frames p entries) ≡ map (node_of frames) (children_of p entries)
row-is frames p [] = refl
row-is frames p (e ∷ entries) = by_case (e.parent == p) (row-is frames p entries) where
  by_case : (b : Bool) → row (forest_below frames p entries) ≡ map (node_of frames) (children_of p entries) →
      row (cond b (merged (node_of frames e) (forest_below frames e.number entries) (forest_below frames p entries))
      (forest_below frames p entries))
      ≡ map (node_of frames) (cond b (e ∷ children_of p entries) (children_of p entries))
  by_case true h = ap (λ l. node_of frames e ∷ l) h
  by_case false h = h

each-both : (P Q R : Entry → Type 0) (entries : List Entry) → ((e : Entry) → P e → Q e → R e) → Each P entries
    → Each Q entries → Each R entries
each-both P Q R [] f h k = tt
each-both P Q R (e ∷ entries) f h k = (f e h.0 k.0, each-both P Q R entries f h.1 k.1)

-- the fields of one node
tells : (at : Path → Merged) (path_of : ℕ → Path) (frames highest p : ℕ) (e : Entry) → IsEntry at path_of highest e
    → e.parent ≡ p →
    HasSums (at (below (path_of p) e.label)) frames (node_of frames e)
tells at path_of frames highest p e h same =
    let here : path_of e.number ≡ below (path_of p) e.label = h.path ∙ ap (λ q. below (path_of q) e.label) same in
    let is : e.merged ≡ at (below (path_of p) e.label) = h.merged ∙ ap at here in
    record {
      any = subst (λ (q : Path). 0 < (at q).number) here h.any;
      pieces = ap (λ m. m.number) is;
      total = ap (λ m. pos m.total) is;
      per_frame = ap (λ m. pos (m.total / frames)) is;
      greatest = ap (λ m. pos m.greatest) is;
    }

all-mapped : (P : Node → Type 0) (frames : ℕ) (entries : List Entry) → Each (λ e. P (node_of frames e)) entries
    → All P (map (node_of frames) entries)
all-mapped P frames entries h = All-from_recursion P (map (node_of frames) entries) (by_cases entries h) where
  by_cases : (entries : List Entry) → Each (λ e. P (node_of frames e)) entries
      → AllByRecursion P (map (node_of frames) entries)
  by_cases [] h = tt
  by_cases (e ∷ entries) h = (h.0, by_cases entries h.1)

labels-are : (frames : ℕ) (entries : List Entry)
    → map (λ n. n.label) (map (node_of frames) entries) ≡ map (λ e. e.label) entries
labels-are frames [] = refl
labels-are frames (e ∷ entries) = ap (λ l. e.label ∷ l) (labels-are frames entries)

starts-are : (frames : ℕ) (entries : List Entry)
    → map (λ n. n.start) (map (node_of frames) entries) ≡ map (λ e. e.start) entries
starts-are frames [] = refl
starts-are frames (e ∷ entries) = ap (λ l. e.start ∷ l) (starts-are frames entries)

-- the entries of one parent, as siblings: each has the path below the parent's, and that path's sums
siblings-are : (at : Path → Merged) (path_of : ℕ → Path) (frames highest p : ℕ) (entries : List Entry)
    → Each (IsEntry at path_of highest) entries → Each (λ e. e.parent ≡ p) entries →
    map (λ n. sibling_of (at (below (path_of p) n.label)) frames) (map (node_of frames) entries)
    ≡ map (λ e. sibling_of e.merged frames) entries
siblings-are at path_of frames highest p [] h k = refl
siblings-are at path_of frames highest p (e ∷ entries) (is_entry, are_entries) (is_child, are_children) =
    let here : path_of e.number ≡ below (path_of p) e.label =
    is_entry.path ∙ ap (λ q. below (path_of q) e.label) is_child in
    let is : e.merged ≡ at (below (path_of p) e.label) = is_entry.merged ∙ ap at here in
    let first : sibling_of (at (below (path_of p) e.label)) frames ≡ sibling_of e.merged frames =
    ap (λ m. sibling_of m frames) (sym is) in
    let rest = siblings-are at path_of frames highest p entries are_entries are_children in
    λ i. first i ∷ rest i

-- siblings in order, with each before all after it: so before the next
in-order-kept : (at : Path → Merged) (path_of : ℕ → Path) (p : ℕ) (entries : List Entry) → InOrder at path_of entries
    → InOrder at path_of (children_of p entries)
in-order-kept at path_of p [] h = tt
in-order-kept at path_of p (e ∷ entries) h = by_case (e.parent == p)
    (each-kept (StandsBefore at path_of e) p entries h.0) (in-order-kept at path_of p entries h.1) where
      by_case : (b : Bool)
          → Each (StandsBefore at path_of e) (children_of p entries) → InOrder at path_of (children_of p entries)
          → InOrder at path_of (cond b (e ∷ children_of p entries) (children_of p entries))
      by_case true k l = (k, l)
      by_case false k l = l

rising : (at : Path → Merged) (path_of : ℕ → Path) (p : ℕ) (entries : List Entry) → Each (λ e. e.parent ≡ p) entries
    → InOrder at path_of entries → IsRising (sibling_cmp at (path_of p)) (map (λ e. e.label) entries)
rising at path_of p [] h k = tt
rising at path_of p (e ∷ []) h k = tt
rising at path_of p (e ∷ f ∷ entries) h k =
    let same : e.parent ≡ f.parent = h.0 ∙ sym h.1.0 in (
      subst (λ (q : ℕ). sibling_cmp at (path_of q) e.label f.label ≡ Less) h.0 (k.0.0.sibling same),
      rising at path_of p (f ∷ entries) h.1 k.1,
    )

contains-first : (x y : Label) (xs : List Label) → x ≡ y → Contains (x ∷ xs) y
contains-first x y xs e = (0, omega arith, e)

contains-later : (x y : Label) (xs : List Label) → Contains xs y → Contains (x ∷ xs) y
contains-later x y xs h = (suc h.0, omega arith, h.2)

-- an entry of a parent and a label is among the parent's children
found : (p : ℕ) (l : Label) (entries : List Entry) → Some_of (λ e. (e.parent ≡ p) × (e.label ≡ l)) entries
    → Contains (map (λ e. e.label) (children_of p entries)) l
found p l [] h = absurd h
found p l (e ∷ entries) h = ⊎_elim (λ k. here (e.parent == p) (Decides-yes e.parent p k.0) k.1)
    (λ k. later (e.parent == p) (found p l entries k)) h where
      here : (b : Bool) → b ≡ true → e.label ≡ l
          → Contains (map (λ e. e.label) (cond b (e ∷ children_of p entries) (children_of p entries))) l
      here true same is = contains-first e.label l (map (λ e. e.label) (children_of p entries)) is
      here false same is = cc

      later : (b : Bool) → Contains (map (λ e. e.label) (children_of p entries)) l
          → Contains (map (λ e. e.label) (cond b (e ∷ children_of p entries) (children_of p entries))) l
      later true k = contains-later e.label l (map (λ e. e.label) (children_of p entries)) k
      later false k = k

some-both : (P Q R : Entry → Type 0) (entries : List Entry) → ((e : Entry) → P e → Q e → R e) → Each P entries
    → Some_of Q entries → Some_of R entries
some-both P Q R [] f h k = k
some-both P Q R (e ∷ entries) f h k = ⊎_elim (λ q. inl (f e h.0 q)) (λ q. inr (some-both P Q R entries f h.1 q)) k

-- a label that occurs below a parent's path is that of one of the parent's children: the occurrence has an entry, whose parent
-- has the same path, so is the same
whole-row : (all : List Occurrence) (frames : ℕ) (path_of : ℕ → Path) (highest : ℕ) (entries : List Entry)
    → IsTable all frames path_of highest entries →
    (p : ℕ) → p ≤ highest → (o : Occurrence) (l : Label) → o.path ≡ below (path_of p) l
    → Some_of (λ e. path_of e.number ≡ o.path) entries →
    Contains (map (λ e. e.label) (children_of p entries)) l
whole-row all frames path_of highest entries t p h o l is some =
    found p l entries (some-both (IsEntry (merged_at all) path_of highest) (λ e. path_of e.number ≡ o.path)
    (λ e. (e.parent ≡ p) × (e.label ≡ l)) entries (matched) t.each some) where
      matched : (e : Entry) → IsEntry (merged_at all) path_of highest e → path_of e.number ≡ o.path
          → (e.parent ≡ p) × (e.label ≡ l)
      matched e k q =
          let joined : path_of e.parent ++ (e.label ∷ []) ≡ path_of p ++ (l ∷ []) = sym k.path ∙ q ∙ is in
          let parts = snoc-same (path_of e.parent) (path_of p) e.label l joined in
          (t.apart e.parent p (omega (arith, k)) h parts.0, parts.1)

-- the entries of one parent make the row below the parent's path
row-of : (all : List Occurrence) (frames : ℕ) (path_of : ℕ → Path) (highest : ℕ) (entries : List Entry)
    → IsTable all frames path_of highest entries →
    (p : ℕ) → p ≤ highest → IsRow all frames (path_of p) (map (node_of frames) (children_of p entries))
row-of all frames path_of highest entries t p h =
    let at : Path → Merged = merged_at all in
    let mine = parents p entries in
    let each = each-kept (IsEntry (merged_at all) path_of highest) p entries t.each in
    let labels = labels-are frames (children_of p entries) in
    record {
      sums = all-mapped (λ n. HasSums (merged_at all (below (path_of p) n.label)) frames n) frames
          (children_of p entries)
          (each-both (IsEntry (merged_at all) path_of highest) (λ e. e.parent ≡ p)
          (λ e. HasSums (merged_at all (below (path_of p) e.label)) frames (node_of frames e))
          (children_of p entries) (tells (merged_at all) path_of frames highest p) each mine);
      whole = λ k d below_end l is. subst (λ (ls : List Label). Contains ls l) (sym labels)
          (whole-row all frames path_of highest entries t p h (get_or all k d) l is (t.whole k d below_end));
      order = subst (λ (ls : List Label). IsRising (sibling_cmp (merged_at all) (path_of p)) ls) (sym labels)
          (rising (merged_at all) path_of p (children_of p entries) mine
          (in-order-kept (merged_at all) path_of p entries t.order));
      starts = subst (λ (ss : List Sibling). IsLeastFeasible ss
          (map (λ n. n.start) (map (node_of frames) (children_of p entries))))
          (sym (siblings-are (merged_at all) path_of frames highest p (children_of p entries) each mine))
          (subst (λ (ts : List ℤ). IsLeastFeasible (map (λ e. sibling_of e.merged frames) (children_of p entries)) ts)
          (sym (starts-are frames (children_of p entries) ∙ t.starts p h))
          (earliest-is_least (map (λ e. sibling_of e.merged frames) (children_of p entries))));
    }

-- ---- all rows

-- Of what is left of the table: the children of all numbers above a lowest are all there.
record IsRest (entries rest : List Entry) (lowest : ℕ) : Type 0 where
  whole : (q : ℕ) → lowest < q → children_of q rest ≡ children_of q entries

later-parents : (at : Path → Merged) (path_of : ℕ → Path) (e : Entry) (rest : List Entry)
    → Each (StandsBefore at path_of e) rest → Each (λ f. e.parent ≤ f.parent) rest
later-parents at path_of e [] h = tt
later-parents at path_of e (f ∷ rest) h = (h.0.parent, later-parents at path_of e rest h.1)

Decides-no : (a b : ℕ) → a < b → (a == b) ≡ false
Decides-no a b e = grind (arith, nat_tests)

passed : (b : Bool) (e : Entry) (q : ℕ) (rest : List Entry) → b ≡ false
    → cond b (e ∷ children_of q rest) (children_of q rest) ≡ children_of q rest
passed b e q rest h = ap (λ c. cond c (e ∷ children_of q rest) (children_of q rest)) h

next-rest : (entries : List Entry) (e : Entry) (rest : List Entry) (lowest : ℕ) → lowest ≤ e.parent
    → IsRest entries (e ∷ rest) lowest → IsRest entries rest e.parent
next-rest entries e rest lowest h r = record {
  whole = λ q above. sym (passed (e.parent == q) e q rest (Decides-no e.parent q above)) ∙ r.whole q (omega arith);
}

-- By recursion over the entries: the children of each entry are all behind it, so the forest made of what is behind an entry
-- has its whole row.
below-rows : (all : List Occurrence) (frames : ℕ) (path_of : ℕ → Path) (highest : ℕ) (entries : List Entry)
    → IsTable all frames path_of highest entries →
    (rest : List Entry) (lowest : ℕ) → IsRest entries rest lowest → Each (λ f. lowest ≤ f.parent) rest
    → Each (IsEntry (merged_at all) path_of highest) rest → InOrder (merged_at all) path_of rest →
    (p : ℕ) (path : Path) → path ≡ path_of p → HasRowsBelow all frames path (forest_below frames p rest)
below-rows all frames path_of highest entries t [] lowest r low each order p path is = tt
below-rows all frames path_of highest entries t (e ∷ rest) lowest r (is_low, are_low) (first, others)
    (before, in_order) p path is =
    by_case (e.parent == p) (Decides-same e.parent p) (λ q other same.
    below-rows all frames path_of highest entries t rest e.parent (next-rest entries e rest lowest is_low r)
    (later-parents (merged_at all) path_of e rest before) others in_order q other same) where
      by_case : (b : Bool) → (b ≡ true → e.parent ≡ p) → ((q : ℕ) (other : Path) → other ≡ path_of q
          → HasRowsBelow all frames other (forest_below frames q rest)) →
          HasRowsBelow all frames path (cond b (merged (node_of frames e) (forest_below frames e.number rest)
          (forest_below frames p rest)) (forest_below frames p rest))
      by_case false known later = later p path is
      by_case true known later =
          let here : below path e.label ≡ path_of e.number =
          ap (λ q. below q e.label) (is ∙ ap path_of (sym (known refl))) ∙ sym first.path in
          let next = next-rest entries e rest lowest is_low r in
          let mine : row (forest_below frames e.number rest) ≡ map (node_of frames) (children_of e.number entries) =
          row-is frames e.number rest ∙ ap (map (node_of frames)) (next.whole e.number first.after_parent) in (
            subst (λ (q : Path). IsRow all frames q (row (forest_below frames e.number rest))) (sym here)
                (subst (λ (ns : List Node). IsRow all frames (path_of e.number) ns) (sym mine)
                (row-of all frames path_of highest entries t e.number first.number)),
            later e.number (below path e.label) here,
            later p path is,
          )

low-enough : (entries : List Entry) → Each (λ f. 0 ≤ f.parent) entries
low-enough [] = tt
low-enough (e ∷ entries) = (omega arith, low-enough entries)

-- the forest that a table's entries make is the merge of its occurrences
pub table-merged : (all : List Occurrence) (frames : ℕ) (path_of : ℕ → Path) (highest : ℕ) (entries : List Entry)
    → IsTable all frames path_of highest entries →
    IsMerge all frames (forest_below frames 0 entries)
table-merged all frames path_of highest entries t = record {
  top = subst (λ (path : Path). IsRow all frames path (row (forest_below frames 0 entries))) t.top
      (subst (λ (ns : List Node). IsRow all frames (path_of 0) ns) (sym (row-is frames 0 entries))
      (row-of all frames path_of highest entries t 0 (omega arith)));
  deeper = below-rows all frames path_of highest entries t entries 0 (record { whole = λ q h. refl })
      (low-enough entries) t.each t.order 0 [] (sym t.top);
}
