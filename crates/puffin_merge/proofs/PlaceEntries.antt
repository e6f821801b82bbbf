-- The ordered nodes of a table's nodes, in order, are the entries that its forest is made of.
--
-- `t` is the table of the occurrences `all`. `p` and `q` are ordered nodes, `x` and `y` where their entries are placed, and `d` stands for
-- nodes past the end.
use Rattle.std.proofs.Common.{◌≡◌, ℕ, ◌+◌, ◌-◌, ◌<◌, ◌≤◌, ℤ, pos, Bool, true, false, cond, eqb, List, [], ◌∷◌, length, get_or, All, inl, inr, refl, sym, ap, subst, ◌∙◌, arith, vec_len}
use Rattle.std.specs.List.{AllByRecursion}
use Rattle.std.proofs.lemmas.List.Elements.{recursion_from_All}
use Rattle.std.specs.declared.cmp.Ordering.{Ordering}
use Rattle.std.specs.declared.cmp.Ordering.TheVariants.{Less, Equal, Greater}
use Rattle.std.specs.Ordering.{is_gt, nat_cmp, int_cmp, ordering_then}
use Rattle.std.specs.Cmp.{nat_cmp_total}
use Rattle.std.specs.Cmp.Lexicographic.{slice_cmp}
use Rattle.std.specs.FinMap.{nat_cmp-IsAntisymmetric, slice_cmp-IsAntisymmetric}
use Rattle.puffin_merge.specs.declared.merge.table.Table.{Table}
use Rattle.puffin_merge.specs.declared.merge.table.Node.{Node}
use Rattle.puffin_merge.specs.declared.merge.tree.OrderedNode.{OrderedNode}
use Rattle.puffin_merge.specs.declared.merge.tree.Placement.{Placement}
use Rattle.puffin_merge.specs.Merge.Occurrences.{Label, Path, Occurrence, label_cmp}
use Rattle.puffin_merge.specs.Merge.Pieces.{Merged, merged_at}
use Rattle.puffin_merge.specs.Merge.Starts.{earliest_starts}
use Rattle.puffin_merge.specs.Merge.{below, IsMerge}
use Rattle.puffin_merge.proofs.Assembled.{children_of, forest_below, Each, Some_of, StandsBefore, InOrder, IsEntry, entry_of, entries_from}
use Rattle.puffin_merge.specs.inner.Found.{key_label}
use Rattle.puffin_merge.specs.inner.Tables.{merged_of_sums, path_at, IsTableOf}
use Rattle.puffin_merge.specs.inner.Places.{IsOrderedNodeOf, node_label, SomeOf, EachOf, AreApart, ordered_node_cmp, AreOrderedNodesOf, above_all, next_placement}
use Rattle.std.proofs.lemmas.Cmp.{tied_itself}
use Rattle.puffin_merge.proofs.Assembling.{table-merged}
use Rattle.puffin_merge.proofs.Paths.{ties, top_path}
use Rattle.puffin_merge.proofs.OrderedRows.{InRow, in_row, parents_rise}
use Rattle.puffin_merge.proofs.EntryStarts.{siblings_of, free_of, own_is, starts_earliest}

-- ---- each ordered node's entry

-- an ordered node's entry has the path and the sums of the node that it was made from
one_entry : (all : List Occurrence) (t : Table) (p : OrderedNode) (x : Placement) (d : Node)
    → IsTableOf all t → IsOrderedNodeOf t.nodes.items p
    → IsEntry (merged_at all) (path_at t.nodes.items) (vec_len t.nodes) (entry_of t.nodes.items p x d)
one_entry all t p x d table (k, inside, at) =
    let size : vec_len t.nodes ≡ length t.nodes.items = t.nodes.ok.0 in
    let nodes = t.nodes.items in
    let is = table.each k d (omega arith) in
    let number : p.number.number ≡ k + 1 = at.number in
    let ordered_node : p.number.number - 1 ≡ k = omega arith in
    let parent = at.parent d in
    let early = is.earlier in
    let text = at.text d in
    let id = at.id d in
    let label : ◌≡◌ {A = Label} (key_label (get_or nodes k d).key) (node_label p) =
    λ i. record { id = sym id i; text = sym text i } in
    let sums : merged_of_sums (get_or nodes (p.number.number - 1) d).sums
    ≡ merged_at all (path_at nodes p.number.number) =
    ap (λ (j : ℕ). merged_of_sums (get_or nodes j d).sums) ordered_node ∙ is.sums
    ∙ ap (λ (j : ℕ). merged_at all (path_at nodes j)) (sym number) in
    record {
      after_parent = omega (arith, early, parent, number);
      number = omega (arith, number, inside);
      path = ap (path_at nodes) number ∙ is.path
          ∙ ap (λ (j : ℕ). below (path_at nodes j) (key_label (get_or nodes k d).key)) (sym parent)
          ∙ ap (below (path_at nodes p.parent.number)) label;
      merged = sums;
      any = subst (λ (m : Merged). 0 < m.number)
          (is.sums ∙ ap (λ (j : ℕ). merged_at all (path_at nodes j)) (sym number)) is.some;
    }

-- each entry has the path and the sums of its node
pub each_entry : (all : List Occurrence) (t : Table) (frames : ℕ) (ordered_nodes : List OrderedNode)
    (before : Placement) (d : Node) → IsTableOf all t → AllByRecursion (IsOrderedNodeOf t.nodes.items) ordered_nodes
    → Each (IsEntry (merged_at all) (path_at t.nodes.items) (vec_len t.nodes))
    (entries_from t.nodes.items frames before ordered_nodes d)
each_entry all t frames [] before d table are = tt
each_entry all t frames (p ∷ ordered_nodes) before d table (is, others) = (
  one_entry all t p (next_placement t.nodes.items frames before p d) d table is,
  each_entry all t frames ordered_nodes (next_placement t.nodes.items frames before p d) d table others,
)

-- a path whose node is among the ordered nodes has an entry
some_entry : (nodes : List Node) (frames : ℕ) (ordered_nodes : List OrderedNode) (before : Placement) (d : Node)
    (k : ℕ) (path : Path) → path_at nodes (k + 1) ≡ path → SomeOf (λ p. p.number.number ≡ k + 1) ordered_nodes
    → Some_of (λ e. path_at nodes e.number ≡ path) (entries_from nodes frames before ordered_nodes d)
some_entry nodes frames [] before d k path at none = none
some_entry nodes frames (p ∷ ordered_nodes) before d k path at (inl here) = inl (ap (path_at nodes) here ∙ at)
some_entry nodes frames (p ∷ ordered_nodes) before d k path at (inr later) =
    inr (some_entry nodes frames ordered_nodes _ d k path at later)

-- each occurrence has an entry
pub whole_entries : (all : List Occurrence) (t : Table) (frames : ℕ) (before : Placement)
    (ordered_nodes : List OrderedNode) (d : Node) → IsTableOf all t → AreOrderedNodesOf t.nodes.items ordered_nodes
    → All (λ o. Some_of (λ e. path_at t.nodes.items e.number ≡ o.path)
    (entries_from t.nodes.items frames before ordered_nodes d)) all
whole_entries all t frames before ordered_nodes d table are =
    λ j o j_inside.
    let (k, inside, path) = table.whole j o j_inside in
    some_entry t.nodes.items frames ordered_nodes before d k _ path (are.whole k (omega (arith, inside, t.nodes.ok.0)))

-- ---- the order of entries

-- of five orders that aren't Greater together, where the first ties and the next three together don't: these three are Less
less_of : (first second third fourth last : Ordering) → first ≡ Equal → (ordering_then second (ordering_then third fourth) ≡ Equal → ⊥)
    → is_gt (ordering_then first (ordering_then second (ordering_then third (ordering_then fourth last)))) ≡ false
    → ordering_then second (ordering_then third fourth) ≡ Less
less_of Less second third fourth last tie apart not_greater = absurd (cc)
less_of Greater second third fourth last tie apart not_greater = absurd (cc)
less_of Equal Less third fourth last tie apart not_greater = refl
less_of Equal Greater third fourth last tie apart not_greater = cc
less_of Equal Equal Less fourth last tie apart not_greater = refl
less_of Equal Equal Greater fourth last tie apart not_greater = cc
less_of Equal Equal Equal Less last tie apart not_greater = refl
less_of Equal Equal Equal Greater last tie apart not_greater = cc
less_of Equal Equal Equal Equal last tie apart not_greater = absurd (apart refl)

-- an entry's path: its parent's, and the label of its ordered node
entry_path : (all : List Occurrence) (t : Table) (p : OrderedNode) (d : Node)
    → IsTableOf all t → IsOrderedNodeOf t.nodes.items p
    → path_at t.nodes.items p.number.number ≡ below (path_at t.nodes.items p.parent.number) (node_label p)
entry_path all t p d table of = (one_entry all t p above_all d table of).path

-- an entry's own start: that of the occurrences of its path
entry_start : (all : List Occurrence) (t : Table) (p : OrderedNode) (d : Node) → IsTableOf all t
    → IsOrderedNodeOf t.nodes.items p
    → p.own_start ≡ (merged_at all (below (path_at t.nodes.items p.parent.number) (node_label p))).own_start
entry_start all t p d table of =
    own_is t.nodes.items p d of ∙ ap (λ (any : Merged). any.own_start)
    ((one_entry all t p above_all d table of).merged ∙ ap (merged_at all) (entry_path all t p d table of))

-- A later ordered node has no lower parent, or is a later sibling: if its place among the siblings were the same, it would have
-- the same path, so the same number.
stands_before : (all : List Occurrence) (t : Table) (p q : OrderedNode) (x y : Placement) (d : Node) → IsTableOf all t
    → IsOrderedNodeOf t.nodes.items p → IsOrderedNodeOf t.nodes.items q → is_gt (ordered_node_cmp p q) ≡ false
    → (p.number.number ≡ q.number.number → ⊥)
    → StandsBefore (merged_at all) (path_at t.nodes.items) (entry_of t.nodes.items p x d) (entry_of t.nodes.items q y d)
stands_before all t p q x y d table p_is q_is not_greater other =
    let (p_place, p_inside, p_at) = p_is in
    let (q_place, q_inside, q_at) = q_is in
    let p_number = p_at.number in
    let q_number = q_at.number in
    let nodes = t.nodes.items in
    let size : vec_len t.nodes ≡ length nodes = t.nodes.ok.0 in
    let path = path_at nodes in
    record {
      parent = parents_rise p q not_greater;
      sibling = λ same.
          let ours = entry_start all t p d table p_is in
          let theirs : q.own_start ≡ (merged_at all (below (path p.parent.number) (node_label q))).own_start =
          entry_start all t q d table q_is
          ∙ ap (λ (n : ℕ). (merged_at all (below (path n) (node_label q))).own_start) (sym same) in
          let tie : nat_cmp p.parent.number q.parent.number ≡ Equal =
          ap (nat_cmp p.parent.number) (sym same) ∙ nat_tied p.parent.number in
          -- with the same start and label both nodes have the same path, and so the same number
          let not_tied : (ordering_then (int_cmp p.own_start q.own_start) (label_cmp (node_label p) (node_label q))
          ≡ Equal) → ⊥ = λ tied.
          let (starts_tie, labels_tie) =
          ties (int_cmp p.own_start q.own_start) (label_cmp (node_label p) (node_label q)) tied in
          let (ids_tie, texts_tie) = ties (nat_cmp p.id q.id) (slice_cmp nat_cmp p.text.now q.text.now) labels_tie in
          let ids = nat_cmp-IsAntisymmetric p.id q.id ids_tie in
          let texts = slice_cmp-IsAntisymmetric nat_cmp-IsAntisymmetric p.text.now q.text.now texts_tie in
          let label : ◌≡◌ {A = Label} (node_label p) (node_label q) = λ i. record { id = ids i; text = texts i } in
          let same_path : path p.number.number ≡ path q.number.number =
          entry_path all t p d table p_is ∙ ap (λ (n : ℕ). below (path n) (node_label p)) same
          ∙ ap (below (path q.parent.number)) label ∙ sym (entry_path all t q d table q_is) in
          other (table.apart p.number.number q.number.number (omega arith) (omega arith) same_path) in
          let less =
          less_of (nat_cmp p.parent.number q.parent.number) (int_cmp p.own_start q.own_start) (nat_cmp p.id q.id)
          (slice_cmp nat_cmp p.text.now q.text.now) (nat_cmp p.number.number q.number.number) tie not_tied not_greater in
          ap (λ (start : ℤ).
          ordering_then (int_cmp start (merged_at all (below (path p.parent.number) (node_label q))).own_start)
          (label_cmp (node_label p) (node_label q))) (sym ours)
          ∙ ap (λ (start : ℤ). ordering_then (int_cmp p.own_start start) (label_cmp (node_label p) (node_label q)))
          (sym theirs) ∙ less;
    }
  where
    nat_tied : (n : ℕ) → nat_cmp n n ≡ Equal
    nat_tied n = tied_itself nat_cmp_total n

-- an entry stands before all those of the nodes behind its own
before_rest : (all : List Occurrence) (t : Table) (frames : ℕ) (p : OrderedNode) (x : Placement)
    (ordered_nodes : List OrderedNode) (before : Placement) (d : Node) → IsTableOf all t
    → IsOrderedNodeOf t.nodes.items p → AllByRecursion (IsOrderedNodeOf t.nodes.items) ordered_nodes
    → EachOf (λ q. is_gt (ordered_node_cmp p q) ≡ false) ordered_nodes
    → EachOf (λ q. p.number.number ≡ q.number.number → ⊥) ordered_nodes
    → Each (StandsBefore (merged_at all) (path_at t.nodes.items) (entry_of t.nodes.items p x d))
    (entries_from t.nodes.items frames before ordered_nodes d)
before_rest all t frames p x [] before d table is are row apart = tt
before_rest all t frames p x (q ∷ ordered_nodes) before d table is (q_is, others_are) (row, others_row) (other, others_apart) = (
  stands_before all t p q x (next_placement t.nodes.items frames before q d) d table is q_is row other,
  before_rest all t frames p x ordered_nodes (next_placement t.nodes.items frames before q d) d table is others_are
      others_row others_apart,
)

-- the entries are in the order of parents, and of siblings
pub entries_in_order : (all : List Occurrence) (t : Table) (frames : ℕ) (ordered_nodes : List OrderedNode)
    (before : Placement) (d : Node) → IsTableOf all t → AllByRecursion (IsOrderedNodeOf t.nodes.items) ordered_nodes
    → InRow ordered_nodes → AreApart ordered_nodes
    → InOrder (merged_at all) (path_at t.nodes.items) (entries_from t.nodes.items frames before ordered_nodes d)
entries_in_order all t frames [] before d table are row apart = tt
entries_in_order all t frames (p ∷ ordered_nodes) before d table (is, others_are) (row, others_row) (other, others_apart) =
    let here = next_placement t.nodes.items frames before p d in (
      before_rest all t frames p here ordered_nodes here d table is others_are row other,
      entries_in_order all t frames ordered_nodes here d table others_are others_row others_apart,
    )

-- ---- all of it

-- no parent has a number below 0
low_enough : (ordered_nodes : List OrderedNode) → EachOf (λ q. 0 ≤ q.parent.number) ordered_nodes
low_enough [] = tt
low_enough (q ∷ ordered_nodes) = (omega arith, low_enough ordered_nodes)

-- the forest of the table is the merge
pub forest_merged : (all : List Occurrence) (t : Table) (frames : ℕ) (ordered_nodes : List OrderedNode) (d : Node)
    → IsTableOf all t → AreOrderedNodesOf t.nodes.items ordered_nodes
    → IsMerge all frames (forest_below frames 0 (entries_from t.nodes.items frames above_all ordered_nodes d))
forest_merged all t frames ordered_nodes d table are =
    let each = recursion_from_All (IsOrderedNodeOf t.nodes.items) ordered_nodes are.each in
    let row = in_row ordered_nodes are.sorted in
    table-merged all frames (path_at t.nodes.items) (vec_len t.nodes)
    (entries_from t.nodes.items frames above_all ordered_nodes d) (record {
      top = top_path t.nodes.items;
      apart = table.apart;
      each = each_entry all t frames ordered_nodes above_all d table each;
      whole = whole_entries all t frames above_all ordered_nodes d table are;
      order = entries_in_order all t frames ordered_nodes above_all d table each row are.apart;
      starts = λ p inside. starts_earliest t.nodes.items frames p ordered_nodes
          above_all d each row (low_enough ordered_nodes) ∙ ap (λ (s : ℤ). earliest_starts s (siblings_of frames
          (children_of p (entries_from t.nodes.items frames above_all ordered_nodes d)))) (nothing_free p);
    })
  where
    nothing_free : (p : ℕ) → free_of p above_all ≡ pos 0
    nothing_free p = by_test (eqb p 0) where
      by_test : (b : Bool) → cond {A = ℤ} b (pos 0) (pos 0) ≡ pos 0
      by_test true = refl
      by_test false = refl
