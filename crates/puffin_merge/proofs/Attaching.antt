-- The rows below the nodes hold the forests of the entries of all ordered nodes so far, the last sibling first.
use Rattle.std.proofs.Common.{◌≡◌, ℕ, zero, suc, ◌+◌, ◌-◌, ◌<◌, ℤ, ◌+ℤ◌, FitsSigned, Bool, true, false, cond, eqb, List, [], ◌∷◌, ◌++◌, length, get_or, set, reverse, drop, inl, inr, refl, sym, ap, subst, ◌∙◌, arith, w64, vec_len}
use Rattle.std.specs.Prelude.{SomeIff, Option, Some, None}
use Rattle.std.proofs.lemmas.Bool.{cases_eq}
use Rattle.std.proofs.lemmas.List.{drop_more, reverse-append, get_or-set_other, length-set}
use Rattle.std.proofs.lemmas.Grind.{get_or-set_at}
use Rattle.std.specs.declared.vec.Vec.{Vec}
use Rattle.std.specs.declared.alloc.Global.{Global}
use Rattle.puffin_merge.specs.declared.merge.scope.MergeScope.{MergeScope, MergeScope', Row_of-MergeScope, end_of-MergeScope, more_of-MergeScope, items-the_row-MergeScope, items_hidden-the_row-MergeScope-0}
use Rattle.puffin_merge.specs.declared.merge.scope.MergeScope.TheViews.{roll-MergeScope}
use Rattle.std.specs.declared.borrow.CowStr.{CowStr}
use Rattle.std.specs.Cow.{cow_str_bytes}
use Rattle.puffin_merge.specs.declared.merge.table.Table.{Table}
use Rattle.puffin_merge.specs.declared.merge.table.Node.{Node}
use Rattle.puffin_merge.specs.declared.merge.tree.OrderedNode.{OrderedNode}
use Rattle.puffin_merge.specs.declared.merge.tree.Placement.{Placement}
use Rattle.puffin_merge.specs.Merge.Occurrences.{Occurrence}
use Rattle.puffin_merge.specs.Merge.Tree.{MergedForest, merged}
use Rattle.puffin_merge.specs.Merge.Tree as forests
use Rattle.puffin_merge.specs.Merge.Refusals.{EndsFit}
use Rattle.puffin_merge.specs.Merge.Scopes.{scope_then, children_in, forest_in}
use Rattle.puffin_merge.proofs.Assembled.{Entry, node_of, forest_below, entry_of, entries_from}
use Rattle.puffin_merge.specs.inner.Tables.{IsTableOf}
use Rattle.puffin_merge.specs.inner.Places.{EachOf, AreApart, EndFits, AreOrderedNodesOf, above_all, next_placement, placements_from, placed_node}
use Rattle.puffin_merge.specs.Merge.{IsMerge}
use Rattle.puffin_merge.proofs.PlaceEntries.{forest_merged}
use Rattle.puffin_merge.proofs.Finding.{same_at}
use Rattle.puffin_merge.proofs.Ending.{blank, Usable}

abbrev pub Siblings : Type 0
Siblings = Vec MergeScope Global

-- ---- children

-- the children in a scope are the forest of their list
pub children_are : (m : _) (row : Row_of-MergeScope m) → children_in row ≡ forest_in (items-the_row-MergeScope m row)
children_are m end_of-MergeScope = refl
children_are m (more_of-MergeScope scope rest) = ap (scope_then scope) (children_are _ rest)

abbrev row_of : MergeScope → (m : _) × Row_of-MergeScope m
row_of (MergeScope' start total per_frame greatest pieces id text shape children) = (_, children)

-- a scope that was made of such fields, before others
pub made_then : (start total per_frame greatest : ℤ) (pieces id : ℕ) (text : CowStr Global) (children : Siblings)
    (others : MergedForest)
    → scope_then (roll-MergeScope
    (record {
      relative_start_ns = start;
      total_duration_ns = total;
      duration_per_frame_ns = per_frame;
      max_duration_ns = greatest;
      num_pieces = pieces;
      id = id;
      text = text;
      children = children;
    })) others
    ≡ merged (record {
      label = record { id = id; text = cow_str_bytes text };
      start = start;
      total = total;
      per_frame = per_frame;
      greatest = greatest;
      pieces = pieces;
    }) (forest_in children.items) others
unfolding Rattle.puffin_merge.specs.declared.merge.scope.MergeScope.TheBlock.hidden-the_row-MergeScope-0
    roll-MergeScope denote.Hole.Carrier.roll
made_then start total per_frame greatest pieces id text children others =
    let scope =
    roll-MergeScope (record {
      relative_start_ns = start;
      total_duration_ns = total;
      duration_per_frame_ns =
          per_frame;
      max_duration_ns = greatest;
      num_pieces = pieces;
      id = id;
      text = text;
      children = children;
    }) in
    let row = row_of scope in
    ap (λ (f : MergedForest). merged (record {
      label = record { id = id; text = cow_str_bytes text };
      start = start;
      total = total;
      per_frame = per_frame;
      greatest = greatest;
      pieces = pieces;
    }) f others)
    (children_are row.0 row.1 ∙ ap forest_in (items_hidden-the_row-MergeScope-0 children))

-- what holds is what it was to hold
pub held_is : {A : Type 0} (r : Option A) (P : Type 0) (v w : A) → SomeIff r P v → P → r ≡ Some w → w ≡ v
held_is None P v w n h e = absurd (n h)
held_is (Some x) P v w n h e = cc

-- ---- entries

-- the entries of ordered nodes and their placements
abbrev pub entries_of : List Node → List OrderedNode → List Placement → List Entry
entries_of nodes [] placements = []
entries_of nodes (p ∷ ordered_nodes) [] = []
entries_of nodes (p ∷ ordered_nodes) (x ∷ placements) =
    entry_of nodes p x blank ∷ entries_of nodes ordered_nodes placements

entries_are : (nodes : List Node) (frames : ℕ) (ordered_nodes : List OrderedNode) (before : Placement)
    → entries_from nodes frames before ordered_nodes blank
    ≡ entries_of nodes ordered_nodes (placements_from nodes frames before ordered_nodes blank)
entries_are nodes frames [] before = refl
entries_are nodes frames (p ∷ ordered_nodes) before =
    let x = next_placement nodes frames before p blank in
    ap (λ (es : List Entry). entry_of nodes p x blank ∷ es) (entries_are nodes frames ordered_nodes x)

-- ends that fit
both_fit : (b : Bool) (n : forests.Node) (under others : MergedForest) → FitsSigned w64 (n.start +ℤ n.per_frame)
    → EndsFit under → EndsFit others → EndsFit (cond b (merged n under others) others)
both_fit true n under others h k l = (h, k, l)
both_fit false n under others h k l = l

-- if the ends of all placements fit, so do those of the forest
forest_fits : (nodes : List Node) (frames : ℕ) (ordered_nodes : List OrderedNode) (before : Placement) (q : ℕ)
    → EachOf EndFits (placements_from nodes frames before ordered_nodes blank)
    → EndsFit (forest_below frames q (entries_from nodes frames before ordered_nodes blank))
forest_fits nodes frames [] before q h = tt
forest_fits nodes frames (p ∷ ordered_nodes) before q (end_fits, later_fit) =
    let x = next_placement nodes frames before p blank in
    let rest = entries_from nodes frames x ordered_nodes blank in
    both_fit (eqb p.parent.number q) (node_of frames (entry_of nodes p x blank))
    (forest_below frames p.number.number rest) (forest_below frames q rest) end_fits
    (forest_fits nodes frames ordered_nodes x p.number.number later_fit)
    (forest_fits nodes frames ordered_nodes x q later_fit)

-- ---- rows

abbrev pub IsNot : ℕ → List OrderedNode → Type 0
IsNot q ordered_nodes = EachOf (λ p. p.number.number ≡ q → ⊥) ordered_nodes

-- the row below each number that no ordered node so far has
abbrev pub HoldForests : List Node → ℕ → List Siblings → List OrderedNode → List Placement → Type 0
HoldForests nodes frames rows ordered_nodes placements =
    (q : ℕ) (r : Siblings) → q < length rows → IsNot q ordered_nodes
    → forest_in (reverse (get_or rows q r).items) ≡ forest_below frames q (entries_of nodes ordered_nodes placements)

abbrev pub AreEmpty : List Siblings → Type 0
AreEmpty rows = EachOf (λ r. r.items ≡ []) rows

turned : (ordered_nodes : List OrderedNode) (q : ℕ) → EachOf (λ z. q ≡ z.number.number → ⊥) ordered_nodes
    → IsNot q ordered_nodes
turned [] q h = tt
turned (z ∷ ordered_nodes) q (other, others) = (λ e. other (sym e), turned ordered_nodes q others)

eqb_same : (a b : ℕ) → a ≡ b → eqb a b ≡ true
eqb_same a b h = grind arith

eqb_other : (a b : ℕ) → (a ≡ b → ⊥) → eqb a b ≡ false
eqb_other a b h = grind arith

-- one ordered node more: its row becomes its scope's children, and the scope stands first in its parent's
pub hold_more : (nodes : List Node) (frames : ℕ) (rows taken given : List Siblings) (p : OrderedNode) (x : Placement)
    (ordered_nodes : List OrderedNode) (placements : List Placement) (scope : MergeScope)
    (empty pushed r v : Siblings) (children : List MergeScope)
    → HoldForests nodes frames rows ordered_nodes placements
    → EachOf (λ z. p.number.number ≡ z.number.number → ⊥) ordered_nodes → p.parent.number < p.number.number
    → p.number.number < length rows
    → taken ≡ set rows p.number.number empty → length taken ≡ length rows → given ≡ set taken p.parent.number pushed
    → pushed.items ≡ (get_or taken p.parent.number r).items ++ (scope ∷ [])
    → children ≡ reverse (get_or rows p.number.number v).items → ((others : MergedForest)
    → scope_then scope others ≡ merged (node_of frames (entry_of nodes p x blank)) (forest_in children) others)
    → length given ≡ length rows → HoldForests nodes frames given (p ∷ ordered_nodes) (x ∷ placements)
hold_more nodes frames rows taken given p x ordered_nodes placements scope empty pushed r v children hold apart under
    inside take size give push below is same_size q s lt other = elim (cases_eq p.parent.number q) [
      | inl same ↦
          let at : get_or given q s ≡ pushed = ap (λ (rs : List Siblings). get_or rs q s) give
          ∙ get_or-set_at taken p.parent.number q pushed s (sym same) (omega (arith, under, inside, size)) in
          let kept : get_or taken p.parent.number r ≡ get_or rows q r =
          ap (λ (rs : List Siblings). get_or rs p.parent.number r) take ∙ get_or-set_other rows p.number.number
          p.parent.number empty r (λ e. omega (arith, under, e)) ∙ ap (λ (n : ℕ). get_or rows n r) same in
          let items : (get_or given q s).items ≡ (get_or rows q r).items ++ (scope ∷ []) =
          ap (λ (v : Siblings). v.items) at ∙ push ∙ ap (λ (v : Siblings). v.items ++ (scope ∷ [])) kept in
          ap (λ (scopes : List MergeScope). forest_in (reverse scopes)) items
          ∙ ap forest_in (reverse-append (get_or rows q r).items (scope ∷ []))
          ∙ is (forest_in (reverse (get_or rows q r).items))
          ∙ ap (λ (f : MergedForest). merged node f (forest_in (reverse (get_or rows q r).items)))
          (ap forest_in below ∙ hold p.number.number v inside (turned ordered_nodes p.number.number apart))
          ∙ ap (merged node (forest_below frames p.number.number rest)) (hold q r (omega (arith, lt, same_size)) other.1)
          ∙ sym (ap (λ (b : Bool). cond b (merged node (forest_below frames p.number.number rest)
          (forest_below frames q rest)) (forest_below frames q rest)) (eqb_same p.parent.number q same))
      | inr differ ↦
          let at : get_or given q s ≡ get_or rows q s =
          ap (λ (rs : List Siblings). get_or rs q s) give
          ∙ get_or-set_other taken p.parent.number q pushed s (λ e. differ (sym e))
          ∙ ap (λ (rs : List Siblings). get_or rs q s) take
          ∙ get_or-set_other rows p.number.number q empty s (λ e. other.0 (sym e)) in
          ap (λ (v : Siblings). forest_in (reverse v.items)) at
          ∙ hold q s (omega (arith, lt, same_size)) other.1
          ∙ sym (ap (λ (b : Bool). cond b (merged node (forest_below frames p.number.number rest)
          (forest_below frames q rest)) (forest_below frames q rest)) (eqb_other p.parent.number q differ))
    ]
  where
    rest : List Entry
    rest = entries_of nodes ordered_nodes placements

    node : forests.Node
    node = node_of frames (entry_of nodes p x blank)

-- ordered nodes that differ, from some ordered node on
pub apart_from : (ordered_nodes : List OrderedNode) (i : ℕ) (q : OrderedNode)
    → AreApart ordered_nodes → i < length ordered_nodes
    → EachOf (λ z. (get_or ordered_nodes i q).number.number ≡ z.number.number → ⊥) (drop (i + 1) ordered_nodes)
apart_from [] i q h lt = absurd (omega arith)
apart_from (p ∷ ordered_nodes) zero q (apart, others) lt = apart
apart_from (p ∷ ordered_nodes) (suc i) q h lt =
    let e : suc (i + 1) ≡ suc i + 1 = omega arith in
    subst (λ (n : ℕ). EachOf (λ z. (get_or (p ∷ ordered_nodes) (suc i) q).number.number ≡ z.number.number → ⊥)
    (drop n (p ∷ ordered_nodes))) e (apart_from ordered_nodes i q h.1 (omega arith))

-- the ordered node before those so far
pub hold_next : (t : Table) (frames : ℕ) (rows : List Siblings) (ordered_nodes : List OrderedNode)
    (placements : List Placement) (i j : ℕ) (p q : OrderedNode) (x y : Placement) (n d : Node) (scope : MergeScope)
    (empty pushed own below r v : Siblings) (children : List MergeScope)
    → AreOrderedNodesOf t.nodes.items ordered_nodes → j + 1 ≡ i → j < length ordered_nodes → j < length placements
    → p ≡ get_or ordered_nodes j q → x ≡ get_or placements j y → n ≡ get_or t.nodes.items (p.number.number - 1) d
    → Usable t p n
    → HoldForests t.nodes.items frames rows (drop i ordered_nodes) (drop i placements) → p.number.number < length rows
    → own ≡ get_or (set rows p.number.number empty) p.parent.number r → pushed.items ≡ own.items ++ (scope ∷ [])
    → below ≡ get_or rows p.number.number v → children ≡ reverse below.items
    → ((others : MergedForest)
    → scope_then scope others ≡ merged (placed_node frames n.sums p x) (forest_in children) others)
    → HoldForests t.nodes.items frames (set (set rows p.number.number empty) p.parent.number pushed)
    (drop j ordered_nodes) (drop j placements)
hold_next t frames rows ordered_nodes placements i j p q x y n d scope empty pushed own below r v children are step lt
    lt_placement ordered_node placements_at node usable hold inside own_is push below_is turn is =
    let nodes = t.nodes.items in
    let low = usable.low in
    let high = usable.high in
    let size : vec_len t.nodes ≡ length nodes = t.nodes.ok.0 in
    let places_are : p ∷ drop i ordered_nodes ≡ drop j ordered_nodes =
    ap (λ (z : OrderedNode). z ∷ drop i ordered_nodes) ordered_node
    ∙ ap (λ (k : ℕ). get_or ordered_nodes j q ∷ drop k ordered_nodes) (sym step)
    ∙ sym (drop_more ordered_nodes j q lt) in
    let placements_are : x ∷ drop i placements ≡ drop j placements = ap (λ (z : Placement). z ∷ drop i placements)
    placements_at ∙ ap (λ (k : ℕ). get_or placements j y ∷ drop k placements) (sym step)
    ∙ sym (drop_more placements j y lt_placement) in
    let same : n ≡ get_or nodes (p.number.number - 1) blank =
    node ∙ same_at nodes (p.number.number - 1) d blank (omega (arith, low, high, size)) in
    let apart : EachOf (λ z. p.number.number ≡ z.number.number → ⊥) (drop i ordered_nodes) =
    subst (λ (k : ℕ). EachOf (λ z. p.number.number ≡ z.number.number → ⊥) (drop k ordered_nodes)) step
    (subst (λ (o : OrderedNode). EachOf (λ z. o.number.number ≡ z.number.number → ⊥) (drop (j + 1) ordered_nodes))
    (sym ordered_node) (apart_from ordered_nodes j q are.apart lt)) in
    let once = length-set rows p.number.number empty in
    let twice = length-set (set rows p.number.number empty) p.parent.number pushed in
    let step_on : HoldForests nodes frames (set (set rows p.number.number empty) p.parent.number pushed)
    (p ∷ drop i ordered_nodes) (x ∷ drop i placements) =
    hold_more nodes frames rows (set rows p.number.number empty) (set (set rows p.number.number empty) p.parent.number
    pushed) p x (drop i ordered_nodes) (drop i placements) scope empty pushed r v children
    hold apart usable.parent inside refl once refl (push ∙ ap (λ (o : Siblings). o.items ++ (scope ∷ [])) own_is)
    (turn ∙ ap (λ (o : Siblings). reverse o.items) below_is)
    (λ others. is others ∙ ap (λ (m : Node). merged (placed_node frames m.sums p x) (forest_in children) others) same)
    (twice ∙ once) in
    subst (λ (ds : List Placement). HoldForests nodes frames
    (set (set rows p.number.number empty) p.parent.number pushed) (drop j ordered_nodes) ds) placements_are
    (subst (λ (ps : List OrderedNode). HoldForests nodes frames
    (set (set rows p.number.number empty) p.parent.number pushed) ps (x ∷ drop i placements)) places_are step_on)

no_zero : (nodes : List Node) (ordered_nodes : List OrderedNode)
    → ((i : ℕ) (q : OrderedNode) → i < length ordered_nodes → 0 < (get_or ordered_nodes i q).number.number)
    → IsNot 0 ordered_nodes
no_zero nodes [] h = tt
no_zero nodes (p ∷ ordered_nodes) h = let low : 0 < p.number.number = h 0 p (omega arith) in
    (λ e. omega (arith, low, e), no_zero nodes ordered_nodes (λ i q lt. h (suc i) q (omega arith)))

-- after all ordered nodes, the top row is the merge
pub top_merged : (t : Table) (frames : ℕ) (rows : List Siblings) (ordered_nodes : List OrderedNode)
    (placements : List Placement) (r : Siblings) (merged_scopes : List MergeScope)
    → AreOrderedNodesOf t.nodes.items ordered_nodes
    → placements ≡ placements_from t.nodes.items frames above_all ordered_nodes blank → EachOf EndFits placements
    → HoldForests t.nodes.items frames rows ordered_nodes placements → 0 < length rows
    → merged_scopes ≡ reverse (get_or rows 0 r).items
    → (all : List Occurrence) → IsTableOf all t
    → IsMerge all frames (forest_in merged_scopes) × EndsFit (forest_in merged_scopes)
top_merged t frames rows ordered_nodes placements r scopes are is fit hold some top all table =
    let forest : forest_in scopes
    ≡ forest_below frames 0 (entries_from t.nodes.items frames above_all ordered_nodes blank) =
    ap forest_in top ∙ hold 0 r some (no_zero t.nodes.items ordered_nodes
    (λ i q lt. let of = are.each i q lt in let number = of.2.number in omega (arith, number)))
    ∙ ap (λ (ds : List Placement). forest_below frames 0 (entries_of t.nodes.items ordered_nodes ds)) is
    ∙ sym (ap (forest_below frames 0) (entries_are t.nodes.items frames ordered_nodes above_all)) in (
      subst (IsMerge all frames) (sym forest) (forest_merged all t frames ordered_nodes blank table are),
      subst EndsFit (sym forest)
          (forest_fits t.nodes.items frames ordered_nodes above_all 0 (subst (EachOf EndFits) is fit)),
    )
