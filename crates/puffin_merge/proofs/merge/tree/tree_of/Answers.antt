-- An end that doesn't fit.
use Rattle.std.proofs.Common.{◌-◌, refl, inl, inr, ◌≡◌, ℕ, List, subst, length, ap, ◌∙◌, drop, reverse, arith}
use Rattle.std.proofs.lemmas.Result.{err_from_is_err_and}
use Rattle.puffin_merge.specs.declared.merge.table.Node.{Node}
use Rattle.puffin_merge.specs.declared.merge.tree.OrderedNode.{OrderedNode}
use Rattle.puffin_merge.specs.inner.Places.{EachOf, EndFits, above_all, placements_from}
use Rattle.puffin_merge.proofs.Ending.{placements_some, blank, usable, placements_size}
use Rattle.puffin_merge.proofs.Attaching.{Siblings, HoldForests, hold_next, top_merged}
use Rattle.puffin_merge.proofs.merge.tree.tree_of.Goals as goal

pub returns-in_err-placements-clause-err : goal.returns-in_err-placements-clause-err
returns-in_err-placements-clause-err c =
    let p = err_from_is_err_and c.from_residual-in_err-placements.result c.from_residual-in_err-placements.ensures.1 in
    rw (p.1, p.2) (elim (c.in_err-placements.ensures.err) [
      | inl memory ↦ inl memory
      | inr large ↦ inr (
        large.0,
        placements_some c.args.table.now c.args.frames c.in_ok-ordered_nodes.ordered_nodes.items
            c.in_ok-ordered_nodes.ensures.ordered_nodes
            (subst (λ (ordered_nodes : List OrderedNode). (d : Node) → EachOf
            EndFits (placements_from c.args.table.now.nodes.items c.args.frames above_all ordered_nodes d) → ⊥)
            c.as_slice.ensures.value large.1),
      )
    ])

pub overflow_sub-ordered : goal.overflow_sub-ordered
overflow_sub-ordered c = let u = usable c.args.table.now c.in_ok-ordered_nodes.ordered_nodes.items
    (c.nodes.i - 1) c.index-ordered.result.now _ _ blank c.requires.table c.in_ok-ordered_nodes.ensures.ordered_nodes
    (omega (arith, c.in_ok-ordered_nodes.ordered_nodes.ok.0, c.len-i.ensures)) c.index-ordered.ensures refl in
    let low = u.low in omega arith

pub index-node-requires : goal.index-node-requires
index-node-requires c = let u = usable c.args.table.now c.in_ok-ordered_nodes.ordered_nodes.items
    (c.nodes.i - 1) c.index-ordered.result.now _ _ blank c.requires.table c.in_ok-ordered_nodes.ensures.ordered_nodes
    (omega (arith, c.in_ok-ordered_nodes.ordered_nodes.ok.0, c.len-i.ensures)) c.index-ordered.ensures refl in
    let low = u.low in let high = u.high in omega arith

pub index_mut-requires : goal.index_mut-requires
index_mut-requires c = let u =
    usable c.args.table.now c.in_ok-ordered_nodes.ordered_nodes.items (c.nodes.i - 1) c.index-ordered.result.now
    _ c.index-node.result.now _ c.requires.table c.in_ok-ordered_nodes.ensures.ordered_nodes
    (omega (arith, c.in_ok-ordered_nodes.ordered_nodes.ok.0, c.len-i.ensures))
    c.index-ordered.ensures c.index-node.ensures in
    let high = u.high in omega (
      arith,
      high,
      c.nodes.invariant.size,
      c.in_ok-ordered_nodes.ordered_nodes.ok.0,
      c.in_ok-ordered_nodes.ensures.ordered_nodes.size,
      c.args.table.now.nodes.ok.0,
    )

pub index_mut-requires-in-nodes : goal.index_mut-requires-in-nodes
index_mut-requires-in-nodes c = let u =
    usable c.args.table.now c.in_ok-ordered_nodes.ordered_nodes.items (c.nodes.i - 1) c.index-ordered.result.now _
    c.index-node.result.now _ c.requires.table c.in_ok-ordered_nodes.ensures.ordered_nodes
    (omega (arith, c.in_ok-ordered_nodes.ordered_nodes.ok.0, c.len-i.ensures))
    c.index-ordered.ensures c.index-node.ensures in let high = u.high in let parent = u.parent in
    omega (
      arith,
      high,
      parent,
      c.nodes.invariant.size,
      c.in_ok-ordered_nodes.ordered_nodes.ok.0,
      c.in_ok-ordered_nodes.ensures.ordered_nodes.size,
      c.args.table.now.nodes.ok.0,
    )

pub make_scope-requires-clause-id : goal.make_scope-requires-clause-id
make_scope-requires-clause-id c = let u =
    usable c.args.table.now c.in_ok-ordered_nodes.ordered_nodes.items (c.nodes.i - 1) c.index-ordered.result.now _
    c.index-node.result.now _ c.requires.table c.in_ok-ordered_nodes.ensures.ordered_nodes
    (omega (arith, c.in_ok-ordered_nodes.ordered_nodes.ok.0, c.len-i.ensures)) c.index-ordered.ensures
    c.index-node.ensures in u.id

pub make_scope-requires-clause-small : goal.make_scope-requires-clause-small
make_scope-requires-clause-small c = let u =
    usable c.args.table.now c.in_ok-ordered_nodes.ordered_nodes.items (c.nodes.i - 1) c.index-ordered.result.now _
    c.index-node.result.now _ c.requires.table c.in_ok-ordered_nodes.ensures.ordered_nodes
    (omega (arith, c.in_ok-ordered_nodes.ordered_nodes.ok.0, c.len-i.ensures)) c.index-ordered.ensures
    c.index-node.ensures in u.small

pub make_scope-requires-clause-greatest : goal.make_scope-requires-clause-greatest
make_scope-requires-clause-greatest c = let u =
    usable c.args.table.now c.in_ok-ordered_nodes.ordered_nodes.items (c.nodes.i - 1) c.index-ordered.result.now
    _ c.index-node.result.now _ c.requires.table c.in_ok-ordered_nodes.ensures.ordered_nodes
    (omega (arith, c.in_ok-ordered_nodes.ordered_nodes.ok.0, c.len-i.ensures)) c.index-ordered.ensures
    c.index-node.ensures in u.greatest

pub index-requires : goal.index-requires
index-requires c =
    let size = ap length (c.in_ok-placements.ensures.ok blank) in
    omega (
      arith,
      size,
      placements_size c.args.table.now.nodes.items c.args.frames c.as_slice.result.now above_all
          blank,
      c.as_slice.ensures.len,
      c.in_ok-placements.placements.ok.0,
      c.len-i.ensures,
    )

pub nodes-preserved : goal.nodes-preserved
nodes-preserved c =
    let size = ap length (c.in_ok-placements.ensures.ok blank) in
    let u =
    usable c.args.table.now c.in_ok-ordered_nodes.ordered_nodes.items (c.nodes.i - 1) c.index-ordered.result.now
    _ c.index-node.result.now _ c.requires.table c.in_ok-ordered_nodes.ensures.ordered_nodes
    (omega (arith, c.in_ok-ordered_nodes.ordered_nodes.ok.0, c.len-i.ensures)) c.index-ordered.ensures
    c.index-node.ensures in
    let high = u.high in
    record {
      size = c.nodes.invariant.size;
      forests = hold_next c.args.table.now c.args.frames c.nodes.rows.items c.in_ok-ordered_nodes.ordered_nodes.items
          c.in_ok-placements.placements.items c.nodes.i (c.nodes.i - 1) c.index-ordered.result.now
          _ c.index.result.now _ c.index-node.result.now _ c.in_ok-scope.scope c.replace-children.new.dest
          c.push-in-nodes.new.self c.index_mut-in-nodes.result.now c.replace-children.result _ _
          c.reverse.new.self.items
          c.in_ok-ordered_nodes.ensures.ordered_nodes (omega arith)
          (omega (arith, c.in_ok-ordered_nodes.ordered_nodes.ok.0, c.len-i.ensures))
          (omega (
            arith,
            size,
            placements_size c.args.table.now.nodes.items c.args.frames c.as_slice.result.now
                above_all blank,
            c.as_slice.ensures.len,
            c.in_ok-placements.placements.ok.0,
            c.len-i.ensures,
          ))
          c.index-ordered.ensures c.index.ensures c.index-node.ensures u c.nodes.invariant.forests
          (omega (
            arith,
            high,
            c.nodes.invariant.size,
            c.nodes.rows.ok.0,
            c.in_ok-ordered_nodes.ordered_nodes.ok.0,
            c.in_ok-ordered_nodes.ensures.ordered_nodes.size,
            c.args.table.now.nodes.ok.0,
          ))
          c.index_mut-in-nodes.ensures.value c.in_ok-push-2.ensures.items (c.replace-children.ensures.value
          ∙ c.index_mut.ensures.value) c.reverse.ensures.items c.in_ok-scope.ensures.ok;
    }

pub returns-clause-ok : goal.returns-clause-ok
returns-clause-ok c =
    let none : c.nodes.i ≡ 0 = omega arith in
    let placements : c.in_ok-placements.placements.items ≡ placements_from c.args.table.now.nodes.items c.args.frames
    above_all c.in_ok-ordered_nodes.ordered_nodes.items blank =
    c.in_ok-placements.ensures.ok blank ∙ ap (λ (ordered_nodes : List OrderedNode). placements_from
    c.args.table.now.nodes.items c.args.frames above_all ordered_nodes blank) c.as_slice.ensures.value in
    top_merged c.args.table.now c.args.frames c.nodes.rows.items c.in_ok-ordered_nodes.ordered_nodes.items
    c.in_ok-placements.placements.items _ c.reverse-2.new.self.items c.in_ok-ordered_nodes.ensures.ordered_nodes
    placements c.in_ok-placements.ensures.fit
    (subst (λ (k : ℕ). HoldForests c.args.table.now.nodes.items c.args.frames c.nodes.rows.items
    (drop k c.in_ok-ordered_nodes.ordered_nodes.items) (drop k c.in_ok-placements.placements.items)) none
    c.nodes.invariant.forests)
    (omega (arith, c.nodes.invariant.size, c.nodes.rows.ok.0)) (c.reverse-2.ensures.items
    ∙ ap (λ (v : Siblings). reverse v.items) (c.replace-top.ensures.value ∙ c.index_mut-2.ensures.value))
