-- Merged scopes are listed one after the other, each before those in it.
use Rattle.std.proofs.Common.{◌≡◌, ℕ, zero, suc, ◌+◌, ◌<◌, ◌≤◌, List, [], ◌∷◌, ◌++◌, length, take, get_or, refl, sym, ap, subst, ◌∙◌, arith, append_assoc, append-nil, length-append}
use Rattle.std.proofs.lemmas.List.{take_all}
use Rattle.std.specs.Cow.{cow_str_bytes}
use Rattle.puffin_merge.specs.declared.merge.scope.MergeScope.{MergeScope, MergeScope', Row_of-MergeScope, end_of-MergeScope, more_of-MergeScope, items-the_row-MergeScope, items_shown-the_row-MergeScope-0}
use Rattle.puffin_merge.specs.declared.merge.scope.MergeScope.TheViews.{out-MergeScope}
use Rattle.puffin_merge.specs.Merge.Tree.{MergedForest, merged, Node}
use Rattle.puffin_merge.specs.Merge.Scopes.{scope_then, children_in, forest_in}
use Rattle.puffin_c.specs.declared.merged.MergedList.{MergedList}
use Rattle.puffin_c.specs.declared.merged.PuffinMerged.{PuffinMerged}
use Rattle.puffin_c.specs.Merges.{PlacedNode, nodes_from, merged_row, merged_rows, merged_texts, AppendsNodes, IsListOf}

-- ---- a scope and those in it

-- a scope without those in it
abbrev pub node_of : MergeScope → Node
node_of s = record {
  label = record { id = (out-MergeScope s).id; text = cow_str_bytes (out-MergeScope s).text };
  start = (out-MergeScope s).relative_start_ns;
  total = (out-MergeScope s).total_duration_ns;
  per_frame = (out-MergeScope s).duration_per_frame_ns;
  greatest = (out-MergeScope s).max_duration_ns;
  pieces = (out-MergeScope s).num_pieces;
}

abbrev pub placed : ℕ → MergeScope → PlacedNode
placed depth s = record { node = node_of s; depth = depth }

abbrev pub children_of : MergeScope → List MergeScope
children_of s = (out-MergeScope s).children.items

-- the children in a row are the scopes that are listed of it
children_are : (m : _) (row : Row_of-MergeScope m) → children_in row ≡ forest_in (items-the_row-MergeScope m row)
children_are m end_of-MergeScope = refl
children_are m (more_of-MergeScope scope rest) = ap (scope_then scope) (children_are _ rest)

-- a scope before others is its node, with its children, before them
seen_as : (s : MergeScope) (others : MergedForest) → scope_then s others ≡ merged (node_of s) (forest_in (children_of s)) others
unfolding out-MergeScope Rattle.puffin_merge.specs.declared.merge.scope.MergeScope.TheBlock.shown-the_row-MergeScope-0
    denote.Hole.Carrier.out
seen_as (MergeScope' start total per_frame greatest pieces id text shape children) others =
    let node : Node = record {
      label = record { id = id; text = cow_str_bytes text };
      start = start;
      total = total;
      per_frame = per_frame;
      greatest = greatest;
      pieces = pieces;
    } in
    ap (λ (f : MergedForest). merged node f others)
    (children_are _ children ∙ ap forest_in (sym (items_shown-the_row-MergeScope-0 shape children)))

-- the nodes of scopes at this depth, each before its children; of one scope; and of scopes one behind the other
abbrev pub nodes_of_all : ℕ → List MergeScope → List PlacedNode
nodes_of_all depth scopes = nodes_from depth (forest_in scopes)

abbrev pub nodes_of_one : ℕ → MergeScope → List PlacedNode
nodes_of_one depth s = placed depth s ∷ nodes_of_all (depth + 1) (children_of s)

nodes_first : (depth : ℕ) (s : MergeScope) (scopes : List MergeScope) →
    nodes_of_all depth (s ∷ scopes) ≡ nodes_of_one depth s ++ nodes_of_all depth scopes
nodes_first depth s scopes = ap (nodes_from depth) (seen_as s (forest_in scopes))

nodes_alone : (depth : ℕ) (s : MergeScope) → nodes_of_one depth s ≡ nodes_of_all depth (s ∷ [])
nodes_alone depth s = sym (nodes_first depth s [] ∙ append-nil (nodes_of_one depth s))

nodes_joined : (depth : ℕ) (xs ys : List MergeScope) → nodes_of_all depth (xs ++ ys) ≡ nodes_of_all depth xs ++ nodes_of_all depth ys
nodes_joined depth [] ys = refl
nodes_joined depth (x ∷ xs) ys =
    nodes_first depth x (xs ++ ys) ∙ ap (λ (ns : List PlacedNode). nodes_of_one depth x ++ ns) (nodes_joined depth xs ys)
    ∙ sym (append_assoc (nodes_of_one depth x) (nodes_of_all depth xs) (nodes_of_all depth ys))
    ∙ ap (λ (ns : List PlacedNode). ns ++ nodes_of_all depth ys) (sym (nodes_first depth x xs))

-- one more element is taken
one_more : (xs : List MergeScope) (i : ℕ) (x : MergeScope) → i < length xs → x ≡ get_or xs i x → take (i + 1) xs ≡ take i xs ++ (x ∷ [])
one_more [] i x lt e = absurd (omega arith)
one_more (y ∷ xs) zero x lt e = ap (λ (z : MergeScope). z ∷ []) (sym e)
one_more (y ∷ xs) (suc i) x lt e =
    let step : suc i + 1 ≡ suc (i + 1) = omega arith in
    ap (λ (n : ℕ). take n (y ∷ xs)) step ∙ ap (λ (zs : List MergeScope). y ∷ zs) (one_more xs i x (omega arith) e)

-- ---- rows and texts

-- the texts and rows of nodes one behind the other
texts_joined : (xs ys : List PlacedNode) → merged_texts (xs ++ ys) ≡ merged_texts xs ++ merged_texts ys
texts_joined [] ys = refl
texts_joined (x ∷ xs) ys =
    ap (λ (l : List ℕ). x.node.label.text ++ l) (texts_joined xs ys)
    ∙ sym (append_assoc x.node.label.text (merged_texts xs) (merged_texts ys))

rows_joined : (at : ℕ) (xs ys : List PlacedNode) →
    merged_rows at (xs ++ ys) ≡ merged_rows at xs ++ merged_rows (at + length (merged_texts xs)) ys
rows_joined at [] ys = let same : at ≡ at + 0 = omega arith in ap (λ (n : ℕ). merged_rows n ys) same
rows_joined at (x ∷ xs) ys =
    let size = length-append x.node.label.text (merged_texts xs) in
    let same : (at + length x.node.label.text) + length (merged_texts xs)
    ≡ at + length (x.node.label.text ++ merged_texts xs) = omega (arith, size) in
    ap (λ (l : List PuffinMerged). merged_row at x ∷ l)
    (rows_joined (at + length x.node.label.text) xs ys
    ∙ ap (λ (n : ℕ). merged_rows (at + length x.node.label.text) xs ++ merged_rows n ys) same)

-- ---- appending

-- no node is appended, or nodes twice
pub none_appended : (v : MergedList) → AppendsNodes v [] v
none_appended v = record { rows = sym (append-nil v.rows.items); texts = sym (append-nil v.texts.items) }

both_appended : (u v w : MergedList) (xs ys : List PlacedNode) → AppendsNodes u xs v → AppendsNodes v ys w → AppendsNodes u (xs ++ ys) w
both_appended u v w xs ys a b =
    let at = length u.texts.items in
    let size = ap length a.texts ∙ length-append u.texts.items (merged_texts xs) in
    record {
      rows = b.rows ∙ ap (λ (l : List PuffinMerged). l ++ merged_rows (length v.texts.items) ys) a.rows
          ∙ append_assoc u.rows.items (merged_rows at xs) (merged_rows (length v.texts.items) ys)
          ∙ ap (λ (n : ℕ). u.rows.items ++ (merged_rows at xs ++ merged_rows n ys)) size
          ∙ ap (λ (l : List PuffinMerged). u.rows.items ++ l) (sym (rows_joined at xs ys));
      texts = b.texts ∙ ap (λ (l : List ℕ). l ++ merged_texts ys) a.texts ∙ append_assoc u.texts.items (merged_texts xs) (merged_texts ys)
          ∙ ap (λ (l : List ℕ). u.texts.items ++ l) (sym (texts_joined xs ys));
    }

-- the row of one node
row_appended : (u v : MergedList) (p : PlacedNode) (row : PuffinMerged) → v.rows.items ≡ u.rows.items ++ row ∷ [] →
    v.texts.items ≡ u.texts.items ++ p.node.label.text → row ≡ merged_row (length u.texts.items) p →
    AppendsNodes u (p ∷ []) v
row_appended u v p row rows texts is = record {
  rows = rows ∙ ap (λ (r : PuffinMerged). u.rows.items ++ r ∷ []) is;
  texts = texts ∙ ap (λ (t : List ℕ). u.texts.items ++ t) (sym (append-nil p.node.label.text));
}

-- a scope's row, and then those in it
pub scope_appended : (depth : ℕ) (s : MergeScope) (u v w : MergedList) (row : PuffinMerged) →
    v.rows.items ≡ u.rows.items ++ row ∷ [] → v.texts.items ≡ u.texts.items ++ cow_str_bytes (out-MergeScope s).text
    → row ≡ merged_row (length u.texts.items) (placed depth s) →
    AppendsNodes v (nodes_of_all (depth + 1) (children_of s)) w → AppendsNodes u (nodes_of_all depth (s ∷ [])) w
scope_appended depth s u v w row rows texts is children =
    subst (λ (ns : List PlacedNode). AppendsNodes u ns w) (nodes_alone depth s)
    (both_appended u v w (placed depth s ∷ []) (nodes_of_all (depth + 1) (children_of s))
    (row_appended u v (placed depth s) row rows texts is) children)

-- the scopes so far, and one more
pub next_appended : (depth : ℕ) (u v w : MergedList) (xs : List MergeScope) (i : ℕ) (x : MergeScope) → i < length xs → x ≡ get_or xs i x
    → AppendsNodes u (nodes_of_all depth (take i xs)) v → AppendsNodes v (nodes_of_all depth (x ∷ [])) w →
    AppendsNodes u (nodes_of_all depth (take (i + 1) xs)) w
next_appended depth u v w xs i x lt at so_far one =
    subst (λ (ns : List PlacedNode). AppendsNodes u ns w)
    (sym (nodes_joined depth (take i xs) (x ∷ [])) ∙ ap (nodes_of_all depth) (sym (one_more xs i x lt at)))
    (both_appended u v w (nodes_of_all depth (take i xs)) (nodes_of_all depth (x ∷ [])) so_far one)

-- no scope is left
pub all_appended : (depth : ℕ) (u v : MergedList) (xs : List MergeScope) (i : ℕ) → length xs ≤ i →
    AppendsNodes u (nodes_of_all depth (take i xs)) v → AppendsNodes u (nodes_of_all depth xs) v
all_appended depth u v xs i all so_far =
    subst (λ (ys : List MergeScope). AppendsNodes u (nodes_of_all depth ys) v) (take_all i xs all) so_far

-- as many rows at least as before
pub longer : (u v : MergedList) (ns : List PlacedNode) → AppendsNodes u ns v → length u.rows.items ≤ length v.rows.items
longer u v ns a = let size = ap length a.rows ∙ length-append u.rows.items (merged_rows (length u.texts.items) ns) in omega (arith, size)

-- a list that was empty
pub listed : (u v : MergedList) (xs : List MergeScope) → u.rows.items ≡ [] → u.texts.items ≡ [] →
    AppendsNodes u (nodes_of_all 0 xs) v → IsListOf (forest_in xs) v
listed u v xs no_rows no_texts a =
    let nodes = nodes_of_all 0 xs in
    record {
      rows = a.rows ∙ ap (λ (l : List PuffinMerged). l ++ merged_rows (length u.texts.items) nodes) no_rows
          ∙ ap (λ (t : List ℕ). merged_rows (length t) nodes) no_texts;
      texts = a.texts ∙ ap (λ (t : List ℕ). t ++ merged_texts nodes) no_texts;
    }
