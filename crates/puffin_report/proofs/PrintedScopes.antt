-- The lines of merged scopes, one after the other.
use Rattle.std.proofs.Common.{◌≡◌, ℕ, zero, suc, ◌+◌, ◌<◌, ◌≤◌, List, [], ◌∷◌, ◌++◌, length, take, get_or, codes, refl, sym, ap, ◌∙◌, arith, append_assoc, append-nil}
use Rattle.std.proofs.lemmas.List.{take_all}
use Rattle.std.specs.Cow.{cow_str_bytes}
use Rattle.puffin_threads.specs.Details.Collection.{Collection}
use Rattle.puffin_merge.specs.declared.merge.scope.MergeScope.{MergeScope, MergeScope', Row_of-MergeScope, end_of-MergeScope, more_of-MergeScope, items-the_row-MergeScope, items_shown-the_row-MergeScope-0}
use Rattle.puffin_merge.specs.declared.merge.scope.MergeScope.TheViews.{out-MergeScope}
use Rattle.puffin_merge.specs.Merge.Tree.{MergedForest, merged, Node}
use Rattle.puffin_merge.specs.Merge.Scopes.{scope_then, children_in, forest_in}
use Rattle.puffin_report.specs.ReportLines.{indent, scope_name, text_part, pieces_text, greatest_text, scope_line, scope_lines}

-- ---- blanks

indent_suc : (n : ℕ) → indent n ++ codes "  " ≡ indent (suc n)
indent_suc zero = refl
indent_suc (suc n) = ap (λ (bs : List ℕ). codes "  " ++ bs) (indent_suc n)

pub indent_more : (n : ℕ) → indent n ++ codes "  " ≡ indent (n + 1)
indent_more n = let next : suc n ≡ n + 1 = omega arith in indent_suc n ∙ ap indent next

-- ---- what is appended

-- one text after another
pub pushed : (before now after text rest : List ℕ) → now ≡ before ++ text → after ≡ now ++ rest → after ≡ before ++ (text ++ rest)
pushed before now after text rest first second = second ∙ ap (λ (bs : List ℕ). bs ++ rest) first ∙ append_assoc before text rest

-- ---- one scope

-- a scope without its children
abbrev pub node_of : MergeScope → Node
node_of s = record {
  label = record { id = (out-MergeScope s).id; text = cow_str_bytes (out-MergeScope s).text };
  start = (out-MergeScope s).relative_start_ns;
  total = (out-MergeScope s).total_duration_ns;
  per_frame = (out-MergeScope s).duration_per_frame_ns;
  greatest = (out-MergeScope s).max_duration_ns;
  pieces = (out-MergeScope s).num_pieces;
}

abbrev pub children_of : MergeScope → List MergeScope
children_of s = (out-MergeScope s).children.items

children_are : (m : _) (row : Row_of-MergeScope m) → children_in row ≡ forest_in (items-the_row-MergeScope m row)
children_are m end_of-MergeScope = refl
children_are m (more_of-MergeScope scope rest) = ap (scope_then scope) (children_are _ rest)

seen_as : (s : MergeScope) (others : MergedForest) → scope_then s others ≡ merged (node_of s) (forest_in (children_of s)) others
unfolding out-MergeScope Rattle.puffin_merge.specs.declared.merge.scope.MergeScope.TheBlock.shown-the_row-MergeScope-0
    denote.Hole.Carrier.out
seen_as (MergeScope' start total per_frame greatest pieces id text shape children) others =
    ap
    (λ (f : MergedForest). merged (record {
      label = record { id = id; text = cow_str_bytes text };
      start = start;
      total = total;
      per_frame = per_frame;
      greatest = greatest;
      pieces = pieces;
    }) f others) (children_are _ children ∙ ap forest_in (sym (items_shown-the_row-MergeScope-0 shape children)))

-- ---- lines

module _ (known : Collection) (level : ℕ) where
  -- the parts of a scope's line, one after the other
  pub line_made : (s : MergeScope) (before blanks name text pieces greatest : List ℕ)
      → blanks ≡ before ++ indent level → name ≡ blanks ++ scope_name known (node_of s).label.id
      → text ≡ name ++ text_part (node_of s).label.text
      → pieces ≡ text ++ pieces_text (node_of s).pieces (node_of s).total (node_of s).per_frame
      → greatest ≡ pieces ++ greatest_text (node_of s).greatest (node_of s).start
      → greatest ≡ before ++ scope_line known level (node_of s)
  line_made s before blanks name text pieces greatest e1 e2 e3 e4 e5 =
      let n = node_of s in
      let last = greatest_text n.greatest n.start in
      let numbers = pieces_text n.pieces n.total n.per_frame ++ last in
      let behind = text_part n.label.text ++ numbers in
      pushed before blanks greatest (indent level) (scope_name known n.label.id ++ behind) e1
      (pushed blanks name greatest (scope_name known n.label.id) behind e2
      (pushed name text greatest (text_part n.label.text) numbers e3
      (pushed text pieces greatest (pieces_text n.pieces n.total n.per_frame) last e4 e5)))

  -- the lines of a scope and those in it
  abbrev pub lines_of_one : MergeScope → List ℕ
  lines_of_one s = scope_line known level (node_of s) ++ scope_lines known (level + 1) (forest_in (children_of s))

  -- of scopes beside one another
  abbrev pub lines_of_all : List MergeScope → List ℕ
  lines_of_all scopes = scope_lines known level (forest_in scopes)

  lines_first : (s : MergeScope) (scopes : List MergeScope) → lines_of_all (s ∷ scopes) ≡ lines_of_one s ++ lines_of_all scopes
  lines_first s scopes =
      ap (scope_lines known level) (seen_as s (forest_in scopes))
      ∙ sym
      (append_assoc (scope_line known level (node_of s)) (scope_lines known (level + 1) (forest_in (children_of s)))
      (lines_of_all scopes))

  pub lines_alone : (s : MergeScope) → lines_of_one s ≡ lines_of_all (s ∷ [])
  lines_alone s = sym (lines_first s [] ∙ append-nil (lines_of_one s))

  lines_joined : (xs ys : List MergeScope) → lines_of_all (xs ++ ys) ≡ lines_of_all xs ++ lines_of_all ys
  lines_joined [] ys = refl
  lines_joined (x ∷ xs) ys =
      lines_first x (xs ++ ys)
      ∙ ap (λ (bs : List ℕ). lines_of_one x ++ bs) (lines_joined xs ys)
      ∙ sym (append_assoc (lines_of_one x) (lines_of_all xs) (lines_of_all ys))
      ∙ ap (λ (bs : List ℕ). bs ++ lines_of_all ys) (sym (lines_first x xs))

  one_more : (xs : List MergeScope) (i : ℕ) (x : MergeScope) → i < length xs → x ≡ get_or xs i x → take (i + 1) xs ≡ take i xs ++ (x ∷ [])
  one_more [] i x lt e = absurd (omega arith)
  one_more (y ∷ xs) zero x lt e = ap (λ (z : MergeScope). z ∷ []) (sym e)
  one_more (y ∷ xs) (suc i) x lt e =
      let step : suc i + 1 ≡ suc (i + 1) = omega arith in
      ap (λ (n : ℕ). take n (y ∷ xs)) step ∙ ap (λ (zs : List MergeScope). y ∷ zs) (one_more xs i x (omega arith) e)

  -- the lines so far, and those of one scope more
  pub lines_next : (before now next : List ℕ) (xs : List MergeScope) (i : ℕ) (x : MergeScope) → i < length xs
      → x ≡ get_or xs i x → now ≡ before ++ lines_of_all (take i xs) → next ≡ now ++ lines_of_all (x ∷ [])
      → next ≡ before ++ lines_of_all (take (i + 1) xs)
  lines_next before now next xs i x lt at so_far one =
      one
      ∙ ap (λ (bs : List ℕ). bs ++ lines_of_all (x ∷ [])) so_far
      ∙ append_assoc before (lines_of_all (take i xs)) (lines_of_all (x ∷ []))
      ∙ ap (λ (bs : List ℕ). before ++ bs) (sym (lines_joined (take i xs) (x ∷ [])) ∙ ap lines_of_all (sym (one_more xs i x lt at)))

  -- no scope is left
  pub lines_done : (before now : List ℕ) (xs : List MergeScope) (i : ℕ) → length xs ≤ i
      → now ≡ before ++ lines_of_all (take i xs) → now ≡ before ++ lines_of_all xs
  lines_done before now xs i all so_far = so_far ∙ ap (λ (ys : List MergeScope). before ++ lines_of_all ys) (take_all i xs all)
