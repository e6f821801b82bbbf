-- The stacks of a stream, and the times that they end with.
--
-- `table` has a row for each path of some parts, with the times of all its parts. Adding one part to it gives the table of one part more
-- (`one_more`), so the rows that all parts lead to are their table (`all_rows`).
use Rattle.std.proofs.Common.{◌≡◌, ℕ, ◌+◌, Bool, true, false, List, [], ◌∷◌, ◌++◌, map, min, Option, Some, None, refl, sym, ap, subst, ◌∙◌, append-nil, append_assoc, arith}
use Rattle.std.specs.Prelude.{fold, sum_by, slice_get, if◌then◌else◌, IfSome}
use Rattle.std.specs.Map.{keys_of}
use Rattle.std.specs.List.{flat_map, list_any}
use Rattle.std.specs.Str.{bytes_eq}
use Rattle.std.proofs.lemmas.List.Sums.{fold-append, sum_by_push}
use Rattle.std.proofs.lemmas.List.Elements.{filter-append}
use denote.Ref.{Bor}
use Rattle.puffin_data.specs.Forest.{Span}
use Rattle.puffin_threads.specs.Details.Collection.{Collection}
use Rattle.puffin_view.specs.View.Stats.{cut}
use Rattle.puffin_look.specs.FrameTree.{time_of}
use Rattle.puffin_look.specs.Folded.{Part, label, below, path_with, path_of, parts_at, scope_parts, parts_of, with_path, paths_in, times_in, own_time, path_line, folded_lines}
use Rattle.puffin_look.specs.Heavy.{path_rows}
use Rattle.puffin_look.specs.inner.Stacks.{Row, row_with, new_row, with_part, times_with, no_times, rows_of, path_at, row_text, HasMoreParts, TakesScopes, StandsFor}
use Rattle.puffin_look.specs.declared.stacks.Stacks.{Stacks}
use Rattle.puffin_look.proofs.StackRows.{itself, unmet_by}

-- ---- a scope

-- what is kept gives the path around
stands_path : (v : Stacks) (w : Option ℕ) (around : List Span) → StandsFor v w around → path_at (rows_of v) w ≡ path_of v.known.now around
stands_path v None around s = sym s
stands_path v (Some i) around (path, is, at) = at ∙ sym is

-- it has a path at its place
pub stands_within : (v : Stacks) (w : Option ℕ) (around : List Span) → StandsFor v w around
    → IfSome w (λ i. (path : List ℕ) × (slice_get (keys_of (rows_of v)) i ≡ Some path))
stands_within v None around s = tt
stands_within v (Some i) around (path, is, at) = (path, at)

-- a scope was added, and its path's place stands for it
pub entered : (v u : Stacks) (w : Option ℕ) (place : ℕ) (around : List Span) (s : Span) (time : ℕ) → time ≡ time_of s
    → HasMoreParts v u (parts_at (path_at (rows_of v) w) (label v.known.now s.id) time)
    → slice_get (keys_of (rows_of u)) place ≡ Some (below (path_at (rows_of v) w) (label v.known.now s.id)) → StandsFor v w around
    → TakesScopes v (record { around = around; span = s } ∷ []) u × StandsFor u (Some place) (around ++ s ∷ [])
entered v u w place around s time same more at stands =
    let p = stands_path v w around stands in
    let name = label v.known.now s.id in (
      subst (HasMoreParts v u) ((λ i. parts_at (p i) name (same i))
          ∙ sym (append-nil (scope_parts v.known.now (record { around = around; span = s })))) more,
      (
        below (path_at (rows_of v) w) name,
        ap (λ (k : Bor Collection). path_of k.now (around ++ s ∷ [])) more.known
            ∙ fold-append (path_with v.known.now) None around (s ∷ [])
            ∙ ap (λ (o : Option (List ℕ)). Some (below o name)) (sym p),
        at,
      ),
    )

-- ---- the times of all parts

-- a sum that was cut before stays cut
min_more : (m a b : ℕ) → min m (min m a + b) ≡ min m (a + b)
min_more m a b = omega arith

-- the row of a path in these parts
abbrev row_in : List Part → List ℕ → Row
row_in all path = (path, times_in all path)

abbrev table : List Part → List Row
table all = map (row_in all) (paths_in all)

-- the sum of a path's parts, with one part more
cut_more : (f : Part → ℕ) (done : List Part) (s : Part) (path : List ℕ) → bytes_eq s.path path ≡ true
    → cut (cut (sum_by f (parts_of path done)) + f s) ≡ cut (sum_by f (parts_of path (done ++ s ∷ [])))
cut_more f done s path is =
    min_more _ (sum_by f (parts_of path done)) (f s)
    ∙ ap cut (sym (ap (sum_by f)
    (filter-append (λ (d : Part). bytes_eq d.path path) done (s ∷ [])
    ∙ ap (λ (b : Bool). parts_of path done ++ (if b then s ∷ [] else [])) is) ∙ sum_by_push f (parts_of path done) s))

-- a part of another path
others_same : (done : List Part) (s : Part) (path : List ℕ) → bytes_eq s.path path ≡ false
    → parts_of path done ≡ parts_of path (done ++ s ∷ [])
others_same done s path is =
    sym (filter-append (λ (d : Part). bytes_eq d.path path) done (s ∷ [])
    ∙ ap (λ (b : Bool). parts_of path done ++ (if b then s ∷ [] else [])) is ∙ append-nil (parts_of path done))

-- the row of a path with one part more, of this path (`b`) or another
row_more_by : (done : List Part) (s : Part) (path : List ℕ) (b : Bool) → bytes_eq s.path path ≡ b
    → row_with s (row_in done path) ≡ row_in (done ++ s ∷ []) path
row_more_by done s path true is =
    ap (λ (t : Bool). if t then (path, times_with (times_in done path) s.whole s.nested) else row_in done path) is
    ∙ (λ i. (
      path,
      record {
        whole = cut_more (λ (d : Part). d.whole) done s path is i;
        nested = cut_more (λ (d : Part). d.nested) done s path is i;
      },
    ))
row_more_by done s path false is =
    ap (λ (t : Bool). if t then (path, times_with (times_in done path) s.whole s.nested) else row_in done path) is
    ∙ ap (λ (ps : List Part). (
      path,
      record { whole = cut (sum_by (λ (d : Part). d.whole) ps); nested = cut (sum_by (λ (d : Part). d.nested) ps) },
    ))
    (others_same done s path is)

row_more : (done : List Part) (s : Part) (path : List ℕ) → row_with s (row_in done path) ≡ row_in (done ++ s ∷ []) path
row_more done s path = row_more_by done s path _ refl

-- the rows of all paths with one part more
rows_grown : (done : List Part) (s : Part) (paths : List (List ℕ))
    → map (row_with s) (map (row_in done) paths) ≡ map (row_in (done ++ s ∷ [])) paths
rows_grown done s [] = refl
rows_grown done s (p ∷ paths) = λ i. row_more done s p i ∷ rows_grown done s paths i

-- the rows' paths are these
keys_in : (all : List Part) (paths : List (List ℕ)) → keys_of (map (row_in all) paths) ≡ paths
keys_in all [] = refl
keys_in all (p ∷ paths) = ap (λ (ps : List (List ℕ)). p ∷ ps) (keys_in all paths)

-- the row of one path more comes last
map_behind : (all : List Part) (xs : List (List ℕ)) (y : List ℕ)
    → map (row_in all) (xs ++ y ∷ []) ≡ map (row_in all) xs ++ row_in all y ∷ []
map_behind all [] y = refl
map_behind all (x ∷ xs) y = ap (λ (rows : List Row). row_in all x ∷ rows) (map_behind all xs y)

-- a path that wasn't met has no parts, and wasn't among the paths before
unmet : (path : List ℕ) (paths : List (List ℕ)) (parts : List Part) → list_any (bytes_eq path) (fold with_path paths parts) ≡ false
    → (parts_of path parts ≡ []) × (list_any (bytes_eq path) paths ≡ false)
unmet path paths [] absent = (refl, absent)
unmet path paths (part ∷ parts) absent =
    let (no_parts, not_after) = unmet path (with_path paths part) parts absent in
    let (differs, not_before) = unmet_by path part.path paths _ refl not_after in
    (ap (λ (b : Bool). if b then part ∷ parts_of path parts else parts_of path parts) differs ∙ no_parts, not_before)

-- the new row of a path that wasn't met has the part alone
new_more : (done : List Part) (s : Part) → list_any (bytes_eq s.path) (paths_in done) ≡ false
    → (s.path, times_with no_times s.whole s.nested) ≡ row_in (done ++ s ∷ []) s.path
new_more done s new =
    let (none, not_before) = unmet s.path [] done new in
    sym (ap (λ (t : Bool). if t then (s.path, times_with (times_in done s.path) s.whole s.nested) else row_in done s.path) (itself s.path)
    ∙ ap (λ (ps : List Part). (
      s.path,
      times_with (record { whole = cut (sum_by (λ (d : Part). d.whole) ps); nested = cut (sum_by (λ (d : Part). d.nested) ps) })
          s.whole s.nested,
    )) none)
    ∙ row_more done s s.path

-- one part more, of a path that was met (`b`) or not
one_more_by : (done : List Part) (s : Part) (b : Bool) → list_any (bytes_eq s.path) (paths_in done) ≡ b
    → map (row_with s) (table done) ++ (if b then [] else (s.path, times_with no_times s.whole s.nested) ∷ [])
    ≡ map (row_in (done ++ s ∷ [])) (if b then paths_in done else paths_in done ++ s.path ∷ [])
one_more_by done s true is = append-nil (map (row_with s) (table done)) ∙ rows_grown done s (paths_in done)
one_more_by done s false is =
    (λ i. rows_grown done s (paths_in done) i ++ new_more done s is i ∷ [])
    ∙ sym (map_behind (done ++ s ∷ []) (paths_in done) s.path)

-- the table of one part more
one_more : (done : List Part) (s : Part) → with_part (table done) s ≡ table (done ++ s ∷ [])
one_more done s =
    ap (λ (ks : List (List ℕ)). map (row_with s) (table done) ++ new_row ks s) (keys_in done (paths_in done)) ∙ one_more_by done s _ refl
    ∙ ap (map (row_in (done ++ s ∷ []))) (sym (fold-append with_path [] done (s ∷ [])))

-- many parts more
table_more : (done ps : List Part) → fold with_part (table done) ps ≡ table (done ++ ps)
table_more done [] = ap table (sym (append-nil done))
table_more done (s ∷ ps) =
    ap (λ (rows : List Row). fold with_part rows ps) (one_more done s) ∙ table_more (done ++ s ∷ []) ps
    ∙ ap table (append_assoc done (s ∷ []) ps)

-- the rows that all parts lead to
pub all_rows : (all : List Part) → fold with_part [] all ≡ path_rows all
all_rows all = table_more [] all

-- the lines of these paths
lines_in : (all : List Part) (paths : List (List ℕ))
    → flat_map row_text (map (row_in all) paths) ≡ flat_map (λ path. path_line path (own_time all path)) paths
lines_in all [] = refl
lines_in all (p ∷ paths) = ap (λ (t : List ℕ). path_line p (own_time all p) ++ t) (lines_in all paths)

-- the lines of the rows that all parts lead to
pub folded_text : (all : List Part) → flat_map row_text (fold with_part [] all) ≡ folded_lines all
folded_text all = ap (flat_map row_text) (all_rows all) ∙ lines_in all (paths_in all)
