-- Drawing one node after the other.
use Rattle.std.proofs.Common.{◌≡◌, ℕ, ◌+◌, ◌-◌, ◌<◌, ◌≤◌, ◌^◌, List, [], ◌∷◌, ◌++◌, length, get_or, drop, sym, ap, subst, ◌∙◌, arith, append_assoc, pos}
use Rattle.std.proofs.lemmas.List.{drop_more}
use Rattle.puffin_merge.specs.declared.merge.table.Table.{Table}
use Rattle.puffin_merge.specs.declared.merge.table.Node.{Node}
use Rattle.puffin_merge.specs.declared.merge.tree.OrderedNode.{OrderedNode}
use Rattle.puffin_merge.specs.declared.merge.tree.Placement.{Placement}
use Rattle.puffin_merge.specs.Merge.Occurrences.{Occurrence}
use Rattle.puffin_merge.specs.inner.Tables.{IsTableOf}
use Rattle.puffin_merge.specs.inner.Places.{AreOrderedNodesOf, EachOf, EndFits, above_all, placement_after, next_placement, placements_from}
use Rattle.puffin_merge.proofs.Finding.{same_at}

-- what stands nowhere
abbrev pub no_place : OrderedNode
no_place = record {
  parent = record { number = 0 };
  own_start = pos 0;
  id = 0;
  text = record { ref_ptr = (0, 0); now = [] };
  number = record { number = 0 };
}

-- an ordered node's number is at least 1
pub place_low : (nodes : List Node) (ordered_nodes : List OrderedNode) (i : ℕ) (q : OrderedNode)
    → AreOrderedNodesOf nodes ordered_nodes → i < length ordered_nodes → 1 ≤ (get_or ordered_nodes i q).number.number
place_low nodes ordered_nodes i q are lt =
    let (k, inside, at) = are.each i q lt in let number = at.number in omega arith

-- an ordered node's number is that of a node of the table
pub place_high : (nodes : List Node) (ordered_nodes : List OrderedNode) (i : ℕ) (q : OrderedNode)
    → AreOrderedNodesOf nodes ordered_nodes → i < length ordered_nodes
    → (get_or ordered_nodes i q).number.number - 1 < length nodes
place_high nodes ordered_nodes i q are lt =
    let (k, inside, at) = are.each i q lt in let number = at.number in omega arith

-- the total of an ordered node's node fits `i64`
pub small_at : (t : Table) (ordered_nodes : List OrderedNode) (i : ℕ) (q : OrderedNode) (n d : Node)
    → (all : List Occurrence) × IsTableOf all t → AreOrderedNodesOf t.nodes.items ordered_nodes
    → i < length ordered_nodes → n ≡ get_or t.nodes.items ((get_or ordered_nodes i q).number.number - 1) d
    → n.sums.total < 2 ^ 63
small_at t ordered_nodes i q n d some are lt e =
    let inside = place_high t.nodes.items ordered_nodes i q are lt in
    subst (λ (m : Node). m.sums.total < 2 ^ 63) (sym e)
    ((some.1.each ((get_or ordered_nodes i q).number.number - 1) d (omega (arith, inside, t.nodes.ok.0))).small)

placements_step : (nodes : List Node) (frames : ℕ) (last : Placement) (ordered_nodes : List OrderedNode) (i : ℕ)
    (q : OrderedNode) (d : Node) → i < length ordered_nodes
    → placements_from nodes frames last (drop i ordered_nodes) d
    ≡ next_placement nodes frames last (get_or ordered_nodes i q) d ∷ placements_from nodes frames
    (next_placement nodes frames last (get_or ordered_nodes i q) d) (drop (i + 1) ordered_nodes) d
placements_step nodes frames last ordered_nodes i q d lt =
    ap (λ (ps : List OrderedNode). placements_from nodes frames last ps d) (drop_more ordered_nodes i q lt)

next_is : (nodes : List Node) (frames : ℕ) (last : Placement) (ordered_nodes : List OrderedNode)
    (i : ℕ) (q : OrderedNode) (n d e : Node) → AreOrderedNodesOf nodes ordered_nodes → i < length ordered_nodes
    → n ≡ get_or nodes ((get_or ordered_nodes i q).number.number - 1) e
    → next_placement nodes frames last (get_or ordered_nodes i q) d
    ≡ placement_after frames n.sums (get_or ordered_nodes i q) last
next_is nodes frames last ordered_nodes i q n d e are lt same =
    ap (λ (m : Node). placement_after frames m.sums (get_or ordered_nodes i q) last) (same_at nodes
    ((get_or ordered_nodes i q).number.number - 1) d e (place_high nodes ordered_nodes i q are lt) ∙ sym same)

-- what is placed with one node more
pub placements_more : (nodes : List Node) (frames : ℕ) (last next : Placement) (ordered_nodes : List OrderedNode)
    (i : ℕ) (q : OrderedNode) (n d e : Node) (done all : List Placement) → AreOrderedNodesOf nodes ordered_nodes
    → i < length ordered_nodes → n ≡ get_or nodes ((get_or ordered_nodes i q).number.number - 1) e
    → next ≡ placement_after frames n.sums (get_or ordered_nodes i q) last → all ≡ done ++ (next ∷ [])
    → placements_from nodes frames above_all ordered_nodes d
    ≡ done ++ placements_from nodes frames last (drop i ordered_nodes) d
    → placements_from nodes frames above_all ordered_nodes d
    ≡ all ++ placements_from nodes frames next (drop (i + 1) ordered_nodes) d
placements_more nodes frames last next ordered_nodes i q n d e done all are lt same is pushed rest =
    let there : next_placement nodes frames last (get_or ordered_nodes i q) d ≡ next =
    next_is nodes frames last ordered_nodes i q n d e are lt same ∙ sym is in
    rest ∙ ap (λ (xs : List Placement). done ++ xs) (placements_step nodes frames last ordered_nodes i q d lt
    ∙ ap (λ (x : Placement). x ∷ placements_from nodes frames x (drop (i + 1) ordered_nodes) d) there)
    ∙ sym (append_assoc done (next ∷ []) (placements_from nodes frames next (drop (i + 1) ordered_nodes) d)) ∙ ap
    (λ (xs : List Placement). xs ++ placements_from nodes frames next (drop (i + 1) ordered_nodes) d) (sym pushed)

-- one more placement whose end fits
pub fit_push : (done all : List Placement) (next : Placement) → all ≡ done ++ (next ∷ []) → EachOf EndFits done
    → EndFits next → EachOf EndFits all
fit_push done all next e h x = subst (EachOf EndFits) (sym e) (push done h x) where
  push : (done : List Placement) → EachOf EndFits done → EndFits next → EachOf EndFits (done ++ (next ∷ []))
  push [] h x = (x, tt)
  push (y ∷ done) (first, others) x = (first, push done others x)

-- an end that doesn't fit is among all
pub placements_refused : (nodes : List Node) (frames : ℕ) (last : Placement) (ordered_nodes : List OrderedNode)
    (i : ℕ) (q : OrderedNode) (n e : Node) (done : List Placement) → AreOrderedNodesOf nodes ordered_nodes
    → i < length ordered_nodes → n ≡ get_or nodes ((get_or ordered_nodes i q).number.number - 1) e
    → (EndFits (placement_after frames n.sums (get_or ordered_nodes i q) last) → ⊥) → ((d : Node) → placements_from
    nodes frames above_all ordered_nodes d ≡ done ++ placements_from nodes frames last (drop i ordered_nodes) d)
    → (d : Node) → EachOf EndFits (placements_from nodes frames above_all ordered_nodes d) → ⊥
placements_refused nodes frames last ordered_nodes i q n e done are lt same no_fit rest d all =
    no_fit (subst EndFits (next_is nodes frames last ordered_nodes i q n d e are lt same)
    (at done _ _ (subst (EachOf EndFits) (rest d
    ∙ ap (λ (xs : List Placement). done ++ xs) (placements_step nodes frames last ordered_nodes i q d lt)) all)))
  where
    at : (done : List Placement) (x : Placement) (xs : List Placement) → EachOf EndFits (done ++ (x ∷ xs)) → EndFits x
    at [] x xs (first, others) = first
    at (y ∷ done) x xs (first, others) = at done x xs others
