-- A scope that is made of another's fields, with children that are the same as its children, is the same.
use Rattle.std.proofs.Common.{◌≡◌, ℕ, zero, suc, ◌+◌, ◌<◌, ◌≤◌, ℤ, List, [], ◌∷◌, ◌++◌, length, take, get_or, refl, sym, ap, ◌∙◌, arith, append_assoc}
use Rattle.std.proofs.lemmas.List.{take_all}
use Rattle.std.specs.declared.alloc.Global.{Global}
use Rattle.std.specs.declared.borrow.CowStr.{CowStr}
use Rattle.std.specs.Cow.{cow_str_bytes}
use Rattle.puffin_merge.specs.declared.merge.scope.MergeScope.{MergeScope, MergeScope', items_shown-the_row-MergeScope-0}
use Rattle.puffin_merge.specs.declared.merge.scope.MergeScope.TheViews.{roll-MergeScope, out-MergeScope}
use Rattle.puffin_merge.specs.Merge.Tree.{MergedForest, no_node, merged, Node}
use Rattle.puffin_merge.specs.Merge.Scopes.{scope_then, forest_in}
use Rattle.puffin_merge.specs.inner.Merging.{append-nil}
use Rattle.puffin_merge.proofs.Attaching.{Siblings, children_are, made_then}

-- a scope without its children
abbrev pub node_of : MergeScope → Node
node_of s = record {
  label = record { id = (out-MergeScope s).id; text = cow_str_bytes (out-MergeScope s).text };
  start = (out-MergeScope s).relative_start_ns;
  total = (out-MergeScope s).total_duration_ns;
  per_frame = (out-MergeScope s).duration_per_frame_ns;
  greatest = (out-MergeScope s).max_duration_ns;
  pieces = (out-MergeScope s).num_pieces;
}

abbrev below : MergeScope → MergedForest
below s = forest_in (out-MergeScope s).children.items

-- what contracts see of a scope is its node, the forest of its children, and the scopes after it
pub seen_as : (s : MergeScope) (others : MergedForest) → scope_then s others ≡ merged (node_of s) (below s) others
unfolding out-MergeScope Rattle.puffin_merge.specs.declared.merge.scope.MergeScope.TheBlock.shown-the_row-MergeScope-0
    denote.Hole.Carrier.out
seen_as (MergeScope' start total per_frame greatest pieces id text shape children) others =
    ap (λ (f : MergedForest). merged (record {
      label = record { id = id; text = cow_str_bytes text };
      start = start;
      total = total;
      per_frame = per_frame;
      greatest = greatest;
      pieces = pieces;
    }) f others)
    (children_are _ children ∙ ap forest_in (sym (items_shown-the_row-MergeScope-0 shape children)))

-- ---- lists of scopes

joined : MergedForest → MergedForest → MergedForest
joined no_node g = g
joined (merged n children others) g = merged n children (joined others g)

joined_first : (s : MergeScope) (f g : MergedForest) → scope_then s (joined f g) ≡ joined (scope_then s f) g
unfolding joined
joined_first s f g = seen_as s (joined f g) ∙ ap (λ (x : MergedForest). joined x g) (sym (seen_as s f))

joined_lists : (xs ys : List MergeScope) → forest_in (xs ++ ys) ≡ joined (forest_in xs) (forest_in ys)
unfolding joined
joined_lists [] ys = refl
joined_lists (x ∷ xs) ys = ap (scope_then x) (joined_lists xs ys) ∙ joined_first x (forest_in xs) (forest_in ys)

-- one scope more on both sides
pub same_push : (xs ys zs : List MergeScope) (s t : MergeScope) → zs ≡ xs ++ (s ∷ []) → forest_in xs ≡ forest_in ys
    → forest_in (s ∷ []) ≡ forest_in (t ∷ []) → forest_in zs ≡ forest_in (ys ++ (t ∷ []))
same_push xs ys zs s t is e f =
    ap forest_in is ∙ joined_lists xs (s ∷ []) ∙ (λ i. joined (e i) (f i)) ∙ sym (joined_lists ys (t ∷ []))

-- ---- one scope

-- a scope with the same fields, and children that are seen as the same, is seen as the same
pub same_scope : (s : MergeScope) (start total per_frame greatest : ℤ) (pieces id : ℕ) (text : CowStr Global)
    (children : Siblings)
    → start ≡ (out-MergeScope s).relative_start_ns → total ≡ (out-MergeScope s).total_duration_ns
    → per_frame ≡ (out-MergeScope s).duration_per_frame_ns → greatest ≡ (out-MergeScope s).max_duration_ns
    → pieces ≡ (out-MergeScope s).num_pieces → id ≡ (out-MergeScope s).id
    → cow_str_bytes text ≡ cow_str_bytes (out-MergeScope s).text → forest_in children.items ≡ below s
    → forest_in (roll-MergeScope
    (record {
      relative_start_ns = start;
      total_duration_ns = total;
      duration_per_frame_ns = per_frame;
      max_duration_ns = greatest;
      num_pieces = pieces;
      id = id;
      text = text;
      children = children;
    }) ∷ [])
    ≡ forest_in (s ∷ [])
same_scope s start total per_frame greatest pieces id text children e1 e2 e3 e4 e5 e6 e7 e8 =
    made_then start total per_frame greatest pieces id text children no_node
    ∙ (λ i. merged (record {
      label = record { id = e6 i; text = e7 i };
      start = e1 i;
      total = e2 i;
      per_frame = e3 i;
      greatest = e4 i;
      pieces = e5 i;
    }) (e8 i) no_node)
    ∙ sym (seen_as s no_node)

-- ---- the children so far

-- one element more of the first ones of a list
pub one_more : (xs : List MergeScope) (i : ℕ) (x : MergeScope) → i < length xs → x ≡ get_or xs i x
    → take (i + 1) xs ≡ take i xs ++ (x ∷ [])
one_more [] i x lt e = absurd (omega arith)
one_more (y ∷ xs) zero x lt e = ap (λ (z : MergeScope). z ∷ []) (sym e)
one_more (y ∷ xs) (suc i) x lt e = let step : suc i + 1 ≡ suc (i + 1) = omega arith in
    ap (λ (n : ℕ). take n (y ∷ xs)) step ∙ ap (λ (zs : List MergeScope). y ∷ zs) (one_more xs i x (omega arith) e)

-- the first ones are all, if they are as many
pub all_taken : (xs : List MergeScope) (i : ℕ) → length xs ≤ i → take i xs ≡ xs
all_taken xs i h = take_all i xs h

-- a scope among others stands for one that is the same
pub exchanged : (before after : List MergeScope) (s t : MergeScope) → forest_in (s ∷ []) ≡ forest_in (t ∷ [])
    → forest_in (before ++ (s ∷ after)) ≡ forest_in (before ++ (t ∷ after))
exchanged before after s t e =
    joined_lists before (s ∷ after)
    ∙ ap (joined (forest_in before)) (joined_lists (s ∷ []) after
    ∙ ap (λ (f : MergedForest). joined f (forest_in after)) e ∙ sym (joined_lists (t ∷ []) after))
    ∙ sym (joined_lists before (t ∷ after))

-- one scope more, and what is left after it
pub same_next : (xs zs rest more : List MergeScope) (s t : MergeScope) → zs ≡ xs ++ (s ∷ []) → rest ≡ t ∷ more
    → forest_in (s ∷ []) ≡ forest_in (t ∷ []) → forest_in (zs ++ more) ≡ forest_in (xs ++ rest)
same_next xs zs rest more s t is left e =
    ap (λ (ys : List MergeScope). forest_in (ys ++ more)) is ∙ ap forest_in (append_assoc xs (s ∷ []) more)
    ∙ exchanged xs more s t e
    ∙ ap (λ (ys : List MergeScope). forest_in (xs ++ ys)) (sym left)

-- nothing is left
pub none_left : (xs rest : List MergeScope) → length rest ≡ 0 → forest_in xs ≡ forest_in (xs ++ rest)
none_left xs [] e = ap forest_in (sym (append-nil xs))
none_left xs (t ∷ rest) e = absurd (omega arith)
