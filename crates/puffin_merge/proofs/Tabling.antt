-- A table with one piece more, at a node that is there or at a new one.
--
-- `t` is the table before and `u` the one after, `o` the occurrence whose piece it is, after `all` the others. `k` is the place of any
-- node, whose number is `k + 1`, and `i` that of the node with the piece. `n` is a node, and `d` stands for those past the end.
use Rattle.std.proofs.Common.{◌≡◌, ℕ, zero, suc, ◌+◌, ◌-◌, ◌<◌, ◌≤◌, ◌^◌, ℤ, Bool, false, cond, List, [], ◌∷◌, ◌++◌, length, get_or, set, All, refl, sym, ap, subst, ◌∙◌, arith, inl, inr, vec_len}
use Rattle.std.proofs.lemmas.Bool.{cases_lt, cases_eq}
use Rattle.std.proofs.lemmas.List.{length_push, get_or-set_same, get_or-set_other, get_or_append_left, get_or_push, length-set}
use Rattle.std.proofs.lemmas.List.Elements.{All-push, recursion_from_All}
use Rattle.std.specs.List.{AllByRecursion}
use Rattle.puffin_merge.specs.declared.merge.table.Table.{Table}
use Rattle.puffin_merge.specs.declared.merge.table.Node.{Node}
use Rattle.puffin_merge.specs.declared.merge.table.Key.{Key}
use Rattle.puffin_merge.specs.Merge.Occurrences.{Label, Path, Occurrence, is_path}
use Rattle.puffin_merge.specs.Merge.Pieces.{Merged, pieces_at, merged_at}
use Rattle.puffin_merge.specs.Merge.{below}
use Rattle.puffin_merge.specs.Merge.Refusals.{SumsFit}
use Rattle.puffin_merge.proofs.OnePiece.{with_piece, one_piece}
use Rattle.puffin_merge.specs.inner.Found.{key_label, IsKeyOf, IsSameKey, HasLabel, IsNewKey}
use Rattle.puffin_merge.specs.inner.Tables.{merged_of_sums, path_at, new_node, node_with_piece, IsNodeOf, IsTableOf, occurrence_at, FitsOneMore, AddsPieceAt, AddsAt}
use Rattle.puffin_merge.proofs.Paths.{same_path, other_path, path_at-kept, path_at-new, path_at-set, top_path}
use Rattle.puffin_merge.proofs.Finding.{some_of, same_at}
use Rattle.puffin_merge.proofs.Growing.{merged_at-other, merged_at-more, merged_at-first}

-- a list with an item isn't empty
no_snoc : {A : Type 0} (xs : List A) (x : A) → [] ≡ xs ++ (x ∷ []) → ⊥
no_snoc [] x same = cc
no_snoc (y ∷ xs) x same = cc

-- equal lists have the same last item, and the same others
snoc-same : {A : Type 0} (xs ys : List A) (x y : A) → xs ++ (x ∷ []) ≡ ys ++ (y ∷ []) → (xs ≡ ys) × (x ≡ y)
snoc-same [] [] x y same = (refl, cc)
snoc-same [] (head ∷ ys) x y same = absurd (no_snoc ys y (cc))
snoc-same (head ∷ xs) [] x y same = let none : [] ≡ xs ++ (x ∷ []) = cc in absurd (no_snoc xs x none)
snoc-same (head ∷ xs) (other ∷ ys) x y same =
    let tails : xs ++ (x ∷ []) ≡ ys ++ (y ∷ []) = cc in
    let heads : head ≡ other = cc in
    let (others, last) = snoc-same xs ys x y tails in
    ((λ i. heads i ∷ others i), last)

-- nodes with the same path have the same label, and parents with the same path
below-same : (parent other : Path) (label other_label : Label) → below parent label ≡ below other other_label
    → (parent ≡ other) × (label ≡ other_label)
below-same parent other label other_label same = snoc-same parent other label other_label same

-- the sums of a path that has a node, with one piece more
pub more_at : (all : List Occurrence) (nodes : List Node) (k : ℕ) (n : Node) (o : Occurrence) → IsNodeOf all nodes k n
    → o.path ≡ path_at nodes (k + 1) →
    merged_at (all ++ (o ∷ [])) o.path ≡ with_piece (merged_of_sums n.sums) o.own_start o.duration
more_at all nodes k n o is at =
    let some : 0 < (merged_at all o.path).number =
    subst (λ (sums : Merged). 0 < sums.number) (is.sums ∙ ap (merged_at all) (sym at)) is.some in
    merged_at-more all o o.path (same_path o.path o.path refl) some
    ∙ ap (λ (sums : Merged). with_piece sums o.own_start o.duration) (ap (merged_at all) at ∙ sym is.sums)

-- a path that has no node has no pieces
none_at : (all : List Occurrence) (path : Path) → AllByRecursion (λ o. o.path ≡ path → ⊥) all
    → (merged_at all path).number ≡ 0
none_at all path others = ap length (no_pieces all others) where
  no_pieces : (all : List Occurrence) → AllByRecursion (λ o. o.path ≡ path → ⊥) all → pieces_at all path ≡ []
  no_pieces [] others = refl
  no_pieces (o ∷ all) (other, rest) = ap (λ (test : Bool). cond test (o ∷ pieces_at all path) (pieces_at all path))
      (other_path o.path path other) ∙ no_pieces all rest

-- a path that no occurrence has gets the sums of one piece
pub first_at : (all : List Occurrence) (o : Occurrence) → All (λ other. other.path ≡ o.path → ⊥) all
    → merged_at (all ++ (o ∷ [])) o.path ≡ one_piece o.own_start o.duration
first_at all o others = merged_at-first all o o.path (same_path o.path o.path refl)
    (none_at all o.path (recursion_from_All (λ (other : Occurrence). other.path ≡ o.path → ⊥) all others))

-- ---- a node that is there

-- what a node's sums fit with, those of its path do
fits_sums : (all : List Occurrence) (nodes : List Node) (k : ℕ) (n : Node) (o : Occurrence) → IsNodeOf all nodes k n
    → o.path ≡ path_at nodes (k + 1) → (n.sums.number + 1 < 2 ^ 64) × (n.sums.total + o.duration < 2 ^ 63)
    → SumsFit all o
fits_sums all nodes k n o is at (number_fits, total_fits) =
    let more = more_at all nodes k n o is at in
    record {
      number = subst (λ (sums : Merged). sums.number < 2 ^ 64) (sym more) number_fits;
      total = subst (λ (sums : Merged). sums.total < 2 ^ 63) (sym more) total_fits;
    }

-- and the other way round
sums_fit : (all : List Occurrence) (nodes : List Node) (k : ℕ) (n : Node) (o : Occurrence)
    → IsNodeOf all nodes k n → o.path ≡ path_at nodes (k + 1) → SumsFit all o
    → (n.sums.number + 1 < 2 ^ 64) × (n.sums.total + o.duration < 2 ^ 63)
sums_fit all nodes k n o is at fits =
    let more = more_at all nodes k n o is at in (
      subst (λ (sums : Merged). sums.number < 2 ^ 64) more fits.number,
      subst (λ (sums : Merged). sums.total < 2 ^ 63) more fits.total,
    )

-- the path of a node with this key
pub path_of_key : (all : List Occurrence) (nodes : List Node) (k : ℕ) (n : Node) (parent : ℕ) (label : Label)
    → IsNodeOf all nodes k n → IsKeyOf n.key parent label → path_at nodes (k + 1) ≡ below (path_at nodes parent) label
path_of_key all nodes k n parent label is same =
    is.path ∙ ap (λ (any : ℕ). below (path_at nodes any) (key_label n.key)) same.parent
    ∙ ap (λ (any : Label). below (path_at nodes parent) any) same.label

-- ---- one piece more at a node

-- the node that was put at a place
set_at : (nodes : List Node) (i k : ℕ) (n d : Node) → i < length nodes → k ≡ i → get_or (set nodes i n) k d ≡ n
set_at nodes i k n d inside same = ap (λ (any : ℕ). get_or (set nodes i n) any d) same ∙ get_or-set_same nodes i n d inside

-- two nodes have different paths
path_apart : (all : List Occurrence) (t : Table) (i k : ℕ) → IsTableOf all t → i < vec_len t.nodes
    → k < vec_len t.nodes → (k ≡ i → ⊥) → path_at t.nodes.items (i + 1) ≡ path_at t.nodes.items (k + 1) → ⊥
path_apart all t i k table i_inside k_inside other same_path =
    other (let same = table.apart (i + 1) (k + 1) (omega arith) (omega arith) same_path in omega arith)

-- the node at k once a piece is taken in at the node at i
grown_each : (all : List Occurrence) (t u : Table) (i k : ℕ) (o : Occurrence) (d n : Node) → IsTableOf all t
    → i < vec_len t.nodes → k < vec_len t.nodes → o.path ≡ path_at t.nodes.items (i + 1)
    → n ≡ node_with_piece (get_or t.nodes.items i d) o.own_start o.duration → u.nodes.items ≡ set t.nodes.items i n
    → (get_or t.nodes.items i d).sums.total + o.duration < 2 ^ 63
    → IsNodeOf (all ++ (o ∷ [])) (set t.nodes.items i n) k (get_or (set t.nodes.items i n) k d)
grown_each all t u i k o d n table i_inside k_inside path is items fits =
    let size : vec_len t.nodes ≡ length t.nodes.items = t.nodes.ok.0 in
    let nodes = t.nodes.items in
    let key : n.key ≡ (get_or nodes i d).key = ap (λ (any : Node). any.key) is in
    let paths : (any : ℕ) → path_at (set nodes i n) any ≡ path_at nodes any = λ any. path_at-set nodes i n d any key in
    elim (cases_eq k i) [
      | inl same ↦
          let old = table.each i d i_inside in
          let now : get_or (set nodes i n) k d ≡ node_with_piece (get_or nodes i d) o.own_start o.duration =
          set_at nodes i k n d (omega arith) same ∙ is in
          let at : path_at (set nodes i n) (k + 1) ≡ o.path =
          paths (k + 1) ∙ ap (λ (any : ℕ). path_at nodes (any + 1)) same ∙ sym path in
          let small = old.greatest in
          subst (λ (any : Node). IsNodeOf (all ++ (o ∷ [])) (set nodes i n) k any) (sym now) (record {
            id = old.id;
            earlier = subst (λ (any : ℕ). (get_or nodes i d).key.parent.number ≤ any) (sym same) old.earlier;
            path = paths (k + 1) ∙ ap (λ (any : ℕ). path_at nodes (any + 1)) same
                ∙ old.path ∙ ap (λ (any : Path). below any (key_label (get_or nodes i d).key))
                (sym (paths (get_or nodes i d).key.parent.number));
            sums = sym (more_at all nodes i (get_or nodes i d) o old path) ∙ ap (merged_at (all ++ (o ∷ []))) (sym at);
            some = omega arith;
            small = fits;
            greatest = omega (arith, small);
          })
      | inr other ↦
          let old = table.each k d k_inside in
          let now : get_or (set nodes i n) k d ≡ get_or nodes k d = get_or-set_other nodes i k n d other in
          let apart : is_path o.path (path_at nodes (k + 1)) ≡ false =
          other_path o.path (path_at nodes (k + 1))
          (λ same. path_apart all t i k table i_inside k_inside other (sym path ∙ same)) in
          subst (λ (any : Node). IsNodeOf (all ++ (o ∷ [])) (set nodes i n) k any) (sym now) (record {
            id = old.id;
            earlier = old.earlier;
            path = paths (k + 1) ∙ old.path ∙ ap (λ (any : Path). below any (key_label (get_or nodes k d).key))
                (sym (paths (get_or nodes k d).key.parent.number));
            sums = old.sums ∙ sym (merged_at-other all o (path_at nodes (k + 1)) apart)
                ∙ ap (merged_at (all ++ (o ∷ []))) (sym (paths (k + 1)));
            some = old.some;
            small = old.small;
            greatest = old.greatest;
          })
    ]

-- the table with one piece more at one of its nodes has the sums of one more occurrence
pub grown : (all : List Occurrence) (t u : Table) (i : ℕ) (o : Occurrence) (d n : Node) → IsTableOf all t
    → i < vec_len t.nodes → o.path ≡ path_at t.nodes.items (i + 1)
    → n ≡ node_with_piece (get_or t.nodes.items i d) o.own_start o.duration → u.nodes.items ≡ set t.nodes.items i n
    → (get_or t.nodes.items i d).sums.total + o.duration < 2 ^ 63 → IsTableOf (all ++ (o ∷ [])) u
grown all t u i o d n table inside path is items fits =
    let size : vec_len t.nodes ≡ length t.nodes.items = t.nodes.ok.0 in
    let nodes = t.nodes.items in
    let key : n.key ≡ (get_or nodes i d).key = ap (λ (any : Node). any.key) is in
    let wide : vec_len u.nodes ≡ vec_len t.nodes = u.nodes.ok.0 ∙ ap length items ∙ length-set nodes i n ∙ sym size in
    let paths : (p : ℕ) → path_at u.nodes.items p ≡ path_at nodes p =
    λ p. ap (λ (any : List Node). path_at any p) items ∙ path_at-set nodes i n d p key in
    record {
      each = λ k end k_inside. subst (λ (any : List Node). IsNodeOf (all ++ (o ∷ [])) any k (get_or any k end)) (sym items)
          (subst (λ (any : Node). IsNodeOf (all ++ (o ∷ [])) (set nodes i n) k any)
          (same_at (set nodes i n) k d end (omega (arith, k_inside, wide, length-set nodes i n)))
          (grown_each all t u i k o d n table inside (omega (arith, k_inside, wide)) path is items fits));
      apart = λ p q p_low q_low same. table.apart p q (omega (arith, p_low, wide)) (omega (arith, q_low, wide))
          (sym (paths p) ∙ same ∙ paths q);
      whole = All-push
          (λ (x : Occurrence). (k : ℕ) × (k < vec_len u.nodes) × (path_at u.nodes.items (k + 1) ≡ x.path)) all o
          (λ j end k_inside. let (at, at_inside, its_path) = table.whole j end k_inside in
          (at, subst (λ (any : ℕ). at < any) (sym wide) at_inside, paths (at + 1) ∙ its_path))
          (i, omega (arith, inside, wide), paths (i + 1) ∙ sym path);
    }

-- ---- a new node

-- no node has the path of a new key
fresh_path : (all : List Occurrence) (t : Table) (key : Key) (k : ℕ) → IsTableOf all t
    → key.parent.number ≤ vec_len t.nodes → IsNewKey t.nodes key → k < vec_len t.nodes
    → path_at t.nodes.items (k + 1) ≡ below (path_at t.nodes.items key.parent.number) (key_label key) → ⊥
fresh_path all t key k table parent fresh inside same_path =
    let size : vec_len t.nodes ≡ length t.nodes.items = t.nodes.ok.0 in
    let d = some_of t.nodes.items k (omega arith) in
    let is = table.each k d inside in
    let early = is.earlier in
    let (paths_same, labels_same) = below-same (path_at t.nodes.items (get_or t.nodes.items k d).key.parent.number)
    (path_at t.nodes.items key.parent.number) (key_label (get_or t.nodes.items k d).key) (key_label key)
    (sym is.path ∙ same_path) in
    let parents : (get_or t.nodes.items k d).key.parent.number ≡ key.parent.number =
    table.apart _ _ (omega arith) parent paths_same in
    fresh k inside (λ end. subst (λ (any : Node). IsSameKey any.key key) (same_at t.nodes.items k d end (omega arith))
    (record { parent = parents; label = labels_same }))

-- The nodes of a table to which a node was added: those before it are as they were, since the new path is none of theirs.
started_each : (all : List Occurrence) (t : Table) (key : Key) (o : Occurrence) (k : ℕ) (d : Node)
    → IsTableOf all t → 0 < key.id → key.parent.number ≤ vec_len t.nodes → o.duration < 2 ^ 63
    → o.path ≡ below (path_at t.nodes.items key.parent.number) (key_label key)
    → ((j : ℕ) → j < vec_len t.nodes → path_at t.nodes.items (j + 1) ≡ o.path → ⊥) → k < vec_len t.nodes + 1
    → IsNodeOf (all ++ (o ∷ [])) (t.nodes.items ++ (new_node key o.own_start o.duration ∷ [])) k
    (get_or (t.nodes.items ++ (new_node key o.own_start o.duration ∷ [])) k d)
started_each all t key o k d table id parent small path fresh k_inside =
    let size : vec_len t.nodes ≡ length t.nodes.items = t.nodes.ok.0 in
    let nodes = t.nodes.items in
    let n = new_node key o.own_start o.duration in
    let kept : (p : ℕ) → p ≤ length nodes → path_at (nodes ++ (n ∷ [])) p ≡ path_at nodes p =
    λ p low. path_at-kept nodes n p low in
    elim (cases_lt k (vec_len t.nodes)) [
      | inl inside ↦
          let old = table.each k d inside in
          let early = old.earlier in
          let apart : is_path o.path (path_at nodes (k + 1)) ≡ false =
          other_path o.path (path_at nodes (k + 1)) (λ same_path. fresh k inside (sym same_path)) in
          subst (λ (any : Node). IsNodeOf (all ++ (o ∷ [])) (nodes ++ (n ∷ [])) k any)
          (sym (get_or_append_left nodes (n ∷ []) d k (omega (arith, inside)))) (record {
            id = old.id;
            earlier = old.earlier;
            path = kept (k + 1) (omega (arith, inside))
                ∙ old.path ∙ ap (λ (p : Path). below p (key_label (get_or nodes k d).key))
                (sym (kept (get_or nodes k d).key.parent.number (omega (arith, inside, early))));
            sums = old.sums ∙ sym (merged_at-other all o (path_at nodes (k + 1)) apart)
                ∙ ap (merged_at (all ++ (o ∷ []))) (sym (kept (k + 1) (omega (arith, inside))));
            some = old.some;
            small = old.small;
            greatest = old.greatest;
          })
      | inr outside ↦
          let at : k ≡ length nodes = omega arith in
          let new : path_at (nodes ++ (n ∷ [])) (k + 1) ≡ o.path =
          path_at-new nodes n (k + 1) (omega arith) ∙ sym path in
          let first = first_at all o (λ j end j_inside. λ same. let (at, inside, its_path) = table.whole j end j_inside in
          fresh at inside (its_path ∙ same)) in
          subst (λ (any : Node). IsNodeOf (all ++ (o ∷ [])) (nodes ++ (n ∷ [])) k any)
          (sym (get_or_push nodes n d k (sym at))) (record {
            id = id;
            earlier = omega (arith, at, parent);
            path = new ∙ path
                ∙ ap (λ (p : Path). below p (key_label key)) (sym (kept key.parent.number (omega (arith, parent))));
            sums = sym first ∙ ap (merged_at (all ++ (o ∷ []))) (sym new);
            some = omega arith;
            small = small;
            greatest = omega arith;
          })
    ]

-- the table with a new node has the sums of one more occurrence
pub started : (all : List Occurrence) (t u : Table) (key : Key) (o : Occurrence)
    → IsTableOf all t → 0 < key.id → key.parent.number ≤ vec_len t.nodes → o.duration < 2 ^ 63
    → o.path ≡ below (path_at t.nodes.items key.parent.number) (key_label key)
    → IsNewKey t.nodes key → u.nodes.items ≡ t.nodes.items ++ (new_node key o.own_start o.duration ∷ [])
    → IsTableOf (all ++ (o ∷ [])) u
started all t u key o table id parent small path new_key items =
    let size : vec_len t.nodes ≡ length t.nodes.items = t.nodes.ok.0 in
    let nodes = t.nodes.items in
    let n = new_node key o.own_start o.duration in
    let wide : vec_len u.nodes ≡ vec_len t.nodes + 1 =
    u.nodes.ok.0 ∙ ap length items ∙ length_push nodes n ∙ ap (λ (any : ℕ). any + 1) (sym size) in
    let fresh : (j : ℕ) → j < vec_len t.nodes → path_at nodes (j + 1) ≡ o.path → ⊥ =
    λ j inside same. fresh_path all t key j table parent new_key inside (same ∙ path) in
    let kept : (p : ℕ) → p ≤ vec_len t.nodes → path_at u.nodes.items p ≡ path_at nodes p =
    λ p low. ap (λ (any : List Node). path_at any p) items ∙ path_at-kept nodes n p (omega (arith, low)) in
    let last : path_at u.nodes.items (vec_len t.nodes + 1) ≡ o.path =
    ap (λ (any : List Node). path_at any (vec_len t.nodes + 1)) items
    ∙ path_at-new nodes n (vec_len t.nodes + 1) (omega arith) ∙ sym path in
    record {
      each = λ k end inside. subst (λ (any : List Node). IsNodeOf (all ++ (o ∷ [])) any k (get_or any k end)) (sym items)
          (started_each all t key o k end table id parent small path fresh (omega (arith, inside, wide)));
      apart = λ p q p_low q_low same. elim (cases_lt p (vec_len t.nodes + 1)) [
        | inl p-in ↦ elim (cases_lt q (vec_len t.nodes + 1)) [
          | inl q-in ↦
              table.apart p q (omega arith) (omega arith) (sym (kept p (omega arith)) ∙ same ∙ kept q (omega arith))
          | inr q-last ↦
              let q-is : q ≡ vec_len t.nodes + 1 = omega (arith, q_low, wide) in
              absurd (not_new all t key o p table path fresh (omega arith)
              (sym (kept p (omega arith)) ∙ same ∙ ap (path_at u.nodes.items) q-is ∙ last))
        ]
        | inr p-last ↦
            let p-is : p ≡ vec_len t.nodes + 1 = omega (arith, p_low, wide) in
            elim (cases_lt q (vec_len t.nodes + 1)) [
              | inl q-in ↦ absurd (not_new all t key o q table path fresh (omega arith)
                  (sym (kept q (omega arith)) ∙ sym same ∙ ap (path_at u.nodes.items) p-is ∙ last))
              | inr q-last ↦ omega (arith, q_low, wide, p-is)
            ]
      ];
      whole = All-push
          (λ (p_low : Occurrence). (k : ℕ) × (k < vec_len u.nodes) × (path_at u.nodes.items (k + 1) ≡ p_low.path)) all o
          (λ j end j_inside. let (at, inside, its_path) = table.whole j end j_inside in
          (at, omega (arith, inside, wide), kept (at + 1) (omega (arith, inside)) ∙ its_path))
          (vec_len t.nodes, omega (arith, wide), last);
    }
  where
    -- neither the root nor a node that was there has the new path
    not_new : (all : List Occurrence) (t : Table) (key : Key) (o : Occurrence) (p : ℕ)
        → IsTableOf all t → o.path ≡ below (path_at t.nodes.items key.parent.number) (key_label key)
        → ((j : ℕ) → j < vec_len t.nodes → path_at t.nodes.items (j + 1) ≡ o.path → ⊥) → p ≤ vec_len t.nodes
        → path_at t.nodes.items p ≡ o.path → ⊥
    not_new all t key o zero table path fresh low same =
        no_snoc (path_at t.nodes.items key.parent.number) (key_label key) (sym (top_path t.nodes.items) ∙ same ∙ path)
    not_new all t key o (suc p) table path fresh low same =
        fresh p (omega arith) (ap (path_at t.nodes.items) (omega arith) ∙ same)

-- ---- what adding says

-- one piece more at a node that is there adds the occurrence
pub adds_grown : (t u : Table) (parent : ℕ) (label : Label) (own_start : ℤ) (duration x : ℕ)
    → (all : List Occurrence) × IsTableOf all t → 0 < x → x ≤ vec_len t.nodes
    → HasLabel t.nodes.items (x - 1) parent label
    → AddsPieceAt t (x - 1) own_start duration u → AddsAt t (occurrence_at t parent label own_start duration) x u
adds_grown t u parent label own_start duration x (occurrences, is_table) low high has
    (texts, numbers, items, fits_more) =
    let size : vec_len t.nodes ≡ length t.nodes.items = t.nodes.ok.0 in
    let nodes = t.nodes.items in
    let d = some_of nodes (x - 1) (omega arith) in
    let wide : vec_len u.nodes ≡ vec_len t.nodes =
    u.nodes.ok.0 ∙ ap length (items d) ∙ length-set nodes (x - 1) _ ∙ sym size in
    let one : x ≡ (x - 1) + 1 = omega arith in
    let kept : (p : ℕ) → path_at u.nodes.items p ≡ path_at nodes p =
    λ p. ap (λ (any : List Node). path_at any p) (items d) ∙ path_at-set nodes (x - 1) _ d p refl in
    let path : (all : List Occurrence) → IsTableOf all t
    → below (path_at nodes parent) label ≡ path_at nodes ((x - 1) + 1) =
    λ all table. sym (path_of_key all nodes (x - 1) (get_or nodes (x - 1) d) parent label
    (table.each (x - 1) d (omega arith)) (has d)) in
    record {
      number = omega (arith, high, wide);
      path = kept x ∙ ap (path_at nodes) one ∙ sym (path occurrences is_table);
      extends = record { longer = omega (arith, wide); kept = λ k old. kept k };
      fits = λ all table. fits_sums all nodes (x - 1) (get_or nodes (x - 1) d) (occurrence_at t parent label own_start
          duration) (table.each (x - 1) d (omega arith)) (path all table) (fits_more d);
      table = λ all table. grown all t u (x - 1) (occurrence_at t parent label own_start duration) d _ table
          (omega arith) (path all table) refl (items d) (fits_more d).1;
    }

-- if the node's sums don't fit, the occurrence is refused
pub grown_refused : (t : Table) (parent : ℕ) (label : Label) (own_start : ℤ) (duration x : ℕ)
    → 0 < x → x ≤ vec_len t.nodes → HasLabel t.nodes.items (x - 1) parent label
    → (FitsOneMore t.nodes.items (x - 1) duration → ⊥)
    → (all : List Occurrence) → IsTableOf all t → SumsFit all (occurrence_at t parent label own_start duration) → ⊥
grown_refused t parent label own_start duration x low high has no_fit all table fits =
    let size : vec_len t.nodes ≡ length t.nodes.items = t.nodes.ok.0 in
    let nodes = t.nodes.items in
    let o = occurrence_at t parent label own_start duration in
    no_fit (λ d. sums_fit all nodes (x - 1) (get_or nodes (x - 1) d) o (table.each (x - 1) d (omega arith))
    (sym (path_of_key all nodes (x - 1) (get_or nodes (x - 1) d) parent label (table.each (x - 1) d (omega arith))
    (has d))) fits)

-- a new node adds the occurrence
pub adds_started : (t u : Table) (key : Key) (own_start : ℤ) (duration x : ℕ) → 0 < key.id
    → key.parent.number ≤ vec_len t.nodes → duration < 2 ^ 63 → x ≡ vec_len t.nodes + 1
    → IsNewKey t.nodes key → u.nodes.items ≡ t.nodes.items ++ (new_node key own_start duration ∷ [])
    → AddsAt t (occurrence_at t key.parent.number (key_label key) own_start duration) x u
adds_started t u key own_start duration x id parent small is new_key items =
    let size : vec_len t.nodes ≡ length t.nodes.items = t.nodes.ok.0 in
    let nodes = t.nodes.items in
    let n = new_node key own_start duration in
    let o = occurrence_at t key.parent.number (key_label key) own_start duration in
    let wide : vec_len u.nodes ≡ vec_len t.nodes + 1 =
    u.nodes.ok.0 ∙ ap length items ∙ length_push nodes n ∙ ap (λ (any : ℕ). any + 1) (sym size) in
    record {
      number = omega (arith, is, wide);
      path = ap (λ (any : List Node). path_at any x) items ∙ path_at-new nodes n x (omega (arith, is));
      extends = record {
        longer = omega (arith, wide);
        kept = λ k low. ap (λ (any : List Node). path_at any k) items
            ∙ path_at-kept nodes n k (omega (arith, low));
      };
      fits = λ all table.
          let first = first_at all o (λ j end j_inside. λ same. let (at, inside, its_path) = table.whole j end j_inside in
          fresh_path all t key at table parent new_key inside (its_path ∙ same)) in
          record {
            number = subst (λ (any : Merged). any.number < 2 ^ 64) (sym first) (omega arith);
            total = subst (λ (any : Merged). any.total < 2 ^ 63) (sym first) small;
          };
      table = λ all table. started all t u key o table id parent small refl new_key items;
    }
