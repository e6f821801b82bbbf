-- The occurrence is one more piece of the node that was found, or the first of a new node.
use Rattle.std.proofs.Common.{inr, Ok, Err, Result, w64, ◌≡◌, ◌+◌, ◌<◌, ◌≤◌, ◌^◌, ◌++◌, ◌∷◌, [], ℕ, ℤ, vec_len, subst, sym}
use Rattle.std.specs.Prelude.{IfOk, OnOk}
use Rattle.std.proofs.lemmas.Int.{to_z-of_z}
use Rattle.std.proofs.lemmas.Result.{err_from_is_err_and}
use Rattle.puffin_data.specs.declared.error.Error.{Error}
use Rattle.puffin_merge.specs.declared.merge.table.Table.{Table}
use Rattle.puffin_merge.specs.declared.merge.table.Key.{Key}
use Rattle.puffin_merge.specs.declared.merge.table.KeyRef.{KeyRef}
use Rattle.puffin_merge.specs.declared.merge.table.NodeNumber.{NodeNumber}
use Rattle.puffin_merge.specs.Merge.Occurrences.{Label}
use Rattle.puffin_merge.specs.inner.Found.{key_label, ref_label, HasLabel}
use Rattle.puffin_merge.specs.inner.Tables.{new_node, occurrence_at, AddsAt}
use Rattle.puffin_merge.proofs.Tabling.{adds_grown, grown_refused, adds_started}
use Rattle.puffin_merge.proofs.merge.table.Table.add.Goals as goal

pub returns-in_err-add_piece-in-Some-clause-err : goal.returns-in_err-add_piece-in-Some-clause-err
returns-in_err-add_piece-in-Some-clause-err c =
    let (cause, is_err, same_cause) = err_from_is_err_and c.from_residual.result c.from_residual.ensures.1 in
    let (positive, inside, has_label) = c.in-Some.ensures.some in
    let (too_large, no_fit) = c.in_err-add_piece-in-Some.ensures.err in
    rw (is_err, same_cause)
    (inr (
      too_large,
      grown_refused c.args.self.now c.args.key.parent.number (ref_label c.args.key) c.args.own_start c.args.duration
          c.in-Some.number.number positive inside has_label no_fit,
    ))

pub returns-in_ok-add_piece-in-Some-clause-ok : goal.returns-in_ok-add_piece-in-Some-clause-ok
returns-in_ok-add_piece-in-Some-clause-ok c =
    let (positive, inside, has_label) = c.in-Some.ensures.some in
    adds_grown c.args.self.now c.add_piece.new.self c.args.key.parent.number (ref_label c.args.key) c.args.own_start
    c.args.duration c.in-Some.number.number c.requires.table positive inside has_label
    (rw (to_z-of_z w64 c.args.own_start c.ranges.own_start) at c.in_ok-add_piece-in-Some.ensures.ok)

-- a new node is the first piece of its label, where it could be made
made : (t u : Table) (key : Key) (label : Label) (own_start : ℤ) (duration : ℕ) (result : Result NodeNumber Error)
    → key_label key ≡ label → 0 < key.id → key.parent.number ≤ vec_len t.nodes → duration < 2 ^ 63
    → ((j : ℕ) → j < vec_len t.nodes → HasLabel t.nodes.items j key.parent.number label → ⊥)
    → IfOk result (λ node. node.number ≡ vec_len t.nodes + 1)
    → OnOk result (u.nodes.items ≡ t.nodes.items ++ (new_node key own_start duration ∷ []))
    → IfOk result (λ node. AddsAt t (occurrence_at t key.parent.number label own_start duration) node.number u)
made t u key label own_start duration (Ok node) same_label id parent small fresh number items =
    subst (λ (any : Label). AddsAt t (occurrence_at t key.parent.number any own_start duration) node.number u) same_label
    (adds_started t u key own_start duration node.number id parent small number (subst (λ (any : Label). (j : ℕ)
    → j < vec_len t.nodes → HasLabel t.nodes.items j key.parent.number any → ⊥) (sym same_label) fresh) items)
made t u key label own_start duration (Err fault) same_label id parent small fresh number items = tt

-- the label of a key whose text was copied
with_text : (asked : KeyRef) (bytes : _) → bytes ≡ asked.text.now
    → ◌≡◌ {A = Label} (record { id = asked.id; text = bytes }) (ref_label asked)
with_text asked bytes same_text = λ i. record { id = asked.id; text = same_text i }

pub returns-in_ok-text-in-None-clause-ok : goal.returns-in_ok-text-in-None-clause-ok
returns-in_ok-text-in-None-clause-ok c =
    made c.args.self.now c.add_node.new.self
    (record { parent = c.args.key.parent; id = c.args.key.id; text = c.in_ok-text-in-None.text })
    (ref_label c.args.key) c.args.own_start c.args.duration c.add_node.result
    (with_text c.args.key _ c.in_ok-text-in-None.ensures.ok) c.requires.id c.requires.parent c.requires.small
    c.in-None.ensures.none c.add_node.ensures.number
    (rw (to_z-of_z w64 c.args.own_start c.ranges.own_start) at c.add_node.ensures.nodes)
