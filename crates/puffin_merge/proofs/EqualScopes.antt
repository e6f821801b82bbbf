-- A comparison of merged scopes that goes by their numbers, ids, texts and children holds where they say the same.
use Rattle.std.proofs.Common.{◌≡◌, ℕ, ◌<◌, ℤ, Bool, true, false, ◌&&◌, int_eq, nat_eq, Decides, List, [], ◌∷◌, refl, sym, ap, subst, ◌∙◌, arith}
use Rattle.std.proofs.lemmas.Bool.{true≢false, and_from, and_parts}
use Rattle.std.specs.Cmp.{unsigned_Decides, signed_Decides}
use Rattle.std.specs.Cmp.Lexicographic.{pointwise, bytes_decides}
use denote.Hole.Compared.{Rel, Local, compared, compared_is}
use denote.Param.Weighed.{most}
use Rattle.std.specs.Cow.{cow_str_bytes}
use Rattle.puffin_merge.specs.declared.merge.scope.MergeScope.{MergeScope, MergeScope', Row_of-MergeScope, end_of-MergeScope, more_of-MergeScope, items-the_row-MergeScope, items_shown-the_row-MergeScope-0, outs-MergeScope', size-MergeScope, size_is-MergeScope, MergeScope-F}
use Rattle.puffin_merge.specs.declared.merge.scope.MergeScope.TheBlock.{the_members, member-MergeScope, the_family, the_depth}
use Rattle.puffin_merge.specs.declared.merge.scope.MergeScope.TheViews.{out-MergeScope}
use Rattle.puffin_merge.specs.Merge.Tree.{MergedForest, no_node, merged, Node}
use Rattle.puffin_merge.specs.Merge.Scopes.{scope_then, forest_in}
use Rattle.puffin_merge.proofs.Copied.{node_of, seen_as}

abbrev children_of : MergeScope → List MergeScope
children_of s = (out-MergeScope s).children.items

abbrev below : MergeScope → MergedForest
below s = forest_in (children_of s)

-- two scopes of which it is known whether their children are equal
abbrev pub are_equal : MergeScope → MergeScope → Bool → Bool
are_equal s t children =
    int_eq (out-MergeScope s).relative_start_ns (out-MergeScope t).relative_start_ns
    && (int_eq (out-MergeScope s).total_duration_ns (out-MergeScope t).total_duration_ns
    && (int_eq (out-MergeScope s).duration_per_frame_ns (out-MergeScope t).duration_per_frame_ns
    && (int_eq (out-MergeScope s).max_duration_ns (out-MergeScope t).max_duration_ns
    && (nat_eq (out-MergeScope s).num_pieces (out-MergeScope t).num_pieces
    && (nat_eq (out-MergeScope s).id (out-MergeScope t).id
    && (pointwise nat_eq (cow_str_bytes (out-MergeScope s).text) (cow_str_bytes (out-MergeScope t).text)
    && children))))))

-- ---- tests that decide

both_decide : {a b : Bool} {P Q : Type 0} → Decides a P → Decides b Q → Decides (a && b) (P × Q)
both_decide {a} {b} f g =
    (λ e. (f.0 (and_parts a b e).0, g.0 (and_parts a b e).1), λ h. and_from a b (f.1 h.0) (g.1 h.1))

decides_as : {a : Bool} {P Q : Type 0} → Decides a P → (P → Q) → (Q → P) → Decides a Q
decides_as f to back = (λ e. to (f.0 e), λ h. f.1 (back h))

-- ---- one scope

-- scopes say the same where their nodes and what is below them do
apart : (s t : MergeScope) (f g : MergedForest) → scope_then s f ≡ scope_then t g
    → (node_of s ≡ node_of t) × ((below s ≡ below t) × (f ≡ g))
apart s t f g e =
    let h : merged (node_of s) (below s) f ≡ merged (node_of t) (below t) g = sym (seen_as s f) ∙ (e ∙ seen_as t g) in
    (cc, (cc, cc))

together : (s t : MergeScope) (f g : MergedForest) → node_of s ≡ node_of t → below s ≡ below t → f ≡ g
    → scope_then s f ≡ scope_then t g
together s t f g n c o = seen_as s f ∙ (λ i. merged (n i) (c i) (o i)) ∙ sym (seen_as t g)

-- the comparison of all fields decides whether the two nodes are the same, and that of the children whether the forests below
-- are
scopes_decided : (s t : MergeScope) (children : Bool) → Decides children (below s ≡ below t)
    → Decides (are_equal s t children) (forest_in (s ∷ []) ≡ forest_in (t ∷ []))
scopes_decided s t children d =
    decides_as
    (both_decide (signed_Decides (out-MergeScope s).relative_start_ns (out-MergeScope t).relative_start_ns)
    (both_decide (signed_Decides (out-MergeScope s).total_duration_ns (out-MergeScope t).total_duration_ns)
    (both_decide (signed_Decides (out-MergeScope s).duration_per_frame_ns (out-MergeScope t).duration_per_frame_ns)
    (both_decide (signed_Decides (out-MergeScope s).max_duration_ns (out-MergeScope t).max_duration_ns)
    (both_decide (unsigned_Decides (out-MergeScope s).num_pieces (out-MergeScope t).num_pieces)
    (both_decide (unsigned_Decides (out-MergeScope s).id (out-MergeScope t).id)
    (both_decide
    (bytes_decides (cow_str_bytes (out-MergeScope s).text) (cow_str_bytes (out-MergeScope t).text)) d)))))))
    (λ fields.
    let (start, (total, (per_frame, (greatest, (pieces, (id, (text, children_same))))))) = fields in
    together s t no_node no_node (λ i. record {
      label = record { id = id i; text = text i };
      start = start i;
      total = total i;
      per_frame = per_frame i;
      greatest = greatest i;
      pieces = pieces i;
    }) children_same refl)
    (λ e.
    let (node, (children_same, others_same)) = apart s t no_node no_node e in (
      ap (λ (n : Node). n.start) node,
      (
        ap (λ (n : Node). n.total) node,
        (
          ap (λ (n : Node). n.per_frame) node,
          (
            ap (λ (n : Node). n.greatest) node,
            (
              ap (λ (n : Node). n.pieces) node,
              (ap (λ (n : Node). n.label.id) node, (ap (λ (n : Node). n.label.text) node, children_same)),
            ),
          ),
        ),
      ),
    ))

-- ---- all below

has_none : MergedForest → Bool
has_none no_node = true
has_none (merged n children others) = false

is_some : (s : MergeScope) (f : MergedForest) → no_node ≡ scope_then s f → ⊥
unfolding has_none
is_some s f e = true≢false (ap has_none (e ∙ seen_as s f))

children_are : (start total per_frame greatest : ℤ) (pieces id : ℕ) (text : _) (shape : _) (row : _) → children_of
    (MergeScope' start total per_frame greatest pieces id text shape row) ≡ items-the_row-MergeScope _ row
children_are start total per_frame greatest pieces id text shape row =
    ap (λ (o : MergeScope-F MergeScope). o.children.items)
    (outs-MergeScope' start total per_frame greatest pieces id text shape row)
    ∙ items_shown-the_row-MergeScope-0 shape row

module _ (eq : MergeScope → MergeScope → Bool)
    (is : (s t : MergeScope) → eq s t ≡ are_equal s t (pointwise eq (children_of s) (children_of t))) where
  mutual
    all_decided : (s t : MergeScope) → Decides (eq s t) (forest_in (s ∷ []) ≡ forest_in (t ∷ []))
    all_decided (MergeScope' start total per_frame greatest pieces id text shape row) t =
        let s = MergeScope' start total per_frame greatest pieces id text shape row in
        subst (λ (b : Bool). Decides b (forest_in (s ∷ []) ≡ forest_in (t ∷ []))) (sym (is s t))
        (scopes_decided s t (pointwise eq (children_of s) (children_of t))
        (subst (λ (xs : List MergeScope). Decides (pointwise eq xs (children_of t)) (forest_in xs ≡ below t))
        (sym (children_are start total per_frame greatest pieces id text shape row))
        (rows_decided _ row (children_of t))))

    rows_decided : (m : _) (row : Row_of-MergeScope m) (ys : List MergeScope) → Decides
        (pointwise eq (items-the_row-MergeScope m row) ys) (forest_in (items-the_row-MergeScope m row) ≡ forest_in ys)
    rows_decided m end_of-MergeScope [] = (λ e. refl, λ e. refl)
    rows_decided m end_of-MergeScope (y ∷ ys) =
        (λ e. absurd (true≢false (sym e)), λ e. absurd (is_some y (forest_in ys) e))
    rows_decided m (more_of-MergeScope x rest) [] = (
      λ e. absurd (true≢false (sym e)),
      λ e. absurd (is_some x (forest_in (items-the_row-MergeScope _ rest)) (sym e)),
    )
    rows_decided m (more_of-MergeScope x rest) (y ∷ ys) =
        let xs = items-the_row-MergeScope _ rest in
        decides_as (both_decide (all_decided x y) (rows_decided _ rest ys))
        (λ both. let (node, (children, none)) = apart x y no_node no_node both.0 in
        together x y (forest_in xs) (forest_in ys) node children both.1)
        (λ e. let (node, (children, others)) = apart x y (forest_in xs) (forest_in ys) e in
        (together x y no_node no_node node children refl, others))

-- ---- the comparison that is made of a step

abbrev Comparison : Type 0
Comparison = Rel the_members the_family the_depth Bool

-- the step compares all that the scopes hold, and their children by what it is given
abbrev pub ComparesAll : (Comparison → Comparison) → Type 0
ComparesAll step = (r : Comparison) (s t : MergeScope)
    → step r member-MergeScope s t ≡ are_equal s t (pointwise (r member-MergeScope) (children_of s) (children_of t))

less_deep : (s : MergeScope) → most size-MergeScope (children_of s) < size-MergeScope s
less_deep s = let e = size_is-MergeScope s in omega arith

agreeing : (r t : MergeScope → MergeScope → Bool) (n : ℕ)
    → ((u v : MergeScope) → size-MergeScope u < n → size-MergeScope v < n → r u v ≡ t u v)
    → (xs ys : List MergeScope) → most size-MergeScope xs < n → most size-MergeScope ys < n
    → pointwise r xs ys ≡ pointwise t xs ys
agreeing r t n a [] [] p q = refl
agreeing r t n a [] (y ∷ ys) p q = refl
agreeing r t n a (x ∷ xs) [] p q = refl
agreeing r t n a (x ∷ xs) (y ∷ ys) p q =
    λ i. a x y (omega arith) (omega arith) i && agreeing r t n a xs ys (omega arith) (omega arith) i

is_local : (step : Comparison → Comparison) → ComparesAll step → Local the_members the_family the_depth Bool true step
is_local step is r t n a member-MergeScope s u p q =
    let f = less_deep s in
    let g = less_deep u in
    is r s u
    ∙ ap (are_equal s u) (agreeing (r member-MergeScope) (t member-MergeScope) n (a member-MergeScope) (children_of s)
    (children_of u) (omega arith) (omega arith))
    ∙ sym (is t s u)

-- a comparison that goes through all fields and all children decides whether contracts see two scopes as the same
pub equal_where : (step : Comparison → Comparison) → ComparesAll step → (s t : MergeScope)
    → Decides (compared the_members the_family the_depth Bool true step member-MergeScope s t)
    (forest_in (s ∷ []) ≡ forest_in (t ∷ []))
equal_where step is =
    let eq = compared the_members the_family the_depth Bool true step in
    all_decided (eq member-MergeScope) (λ s t. compared_is the_members the_family the_depth Bool true step
    (is_local step is) member-MergeScope s t ∙ is eq s t)
