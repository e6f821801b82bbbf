-- The node of each ordered node is there, and its placement comes next.
use Rattle.std.proofs.Common.{inr, arith}
use Rattle.std.proofs.lemmas.Result.{err_from_is_err_and}
use Rattle.puffin_merge.proofs.Drawing.{no_place, place_low, place_high, small_at, placements_more, fit_push, placements_refused}
use Rattle.puffin_merge.proofs.merge.tree.place_nodes.Goals as goal

pub overflow_sub-ordered : goal.overflow_sub-ordered
overflow_sub-ordered c = place_low c.args.table.now.nodes.items c.args.ordered_nodes.now c.loop-ordered.ordered-index
    _ c.requires.ordered_nodes c.loop-ordered-test.true

pub index-node-requires : goal.index-node-requires
index-node-requires c =
    let inside = place_high c.args.table.now.nodes.items c.args.ordered_nodes.now c.loop-ordered.ordered-index
    no_place c.requires.ordered_nodes c.loop-ordered-test.true in
    omega (arith, inside, c.args.table.now.nodes.ok.0)

pub place_node-requires-clause-small : goal.place_node-requires-clause-small
place_node-requires-clause-small c = small_at c.args.table.now c.args.ordered_nodes.now c.loop-ordered.ordered-index _
    c.index-node.result.now _ c.requires.table c.requires.ordered_nodes c.loop-ordered-test.true c.index-node.ensures

pub returns-in_err-last-clause-err : goal.returns-in_err-last-clause-err
returns-in_err-last-clause-err c =
    let p = err_from_is_err_and c.from_residual-in_err-last.result c.from_residual-in_err-last.ensures.1 in
    rw (p.1, p.2) (inr (
      c.in_err-last.ensures.err.0,
      placements_refused c.args.table.now.nodes.items c.args.frames c.loop-ordered.last c.args.ordered_nodes.now
          c.loop-ordered.ordered-index _ c.index-node.result.now _ c.loop-ordered.placements.items
          c.requires.ordered_nodes c.loop-ordered-test.true c.index-node.ensures c.in_err-last.ensures.err.1
          c.loop-ordered.invariant.rest,
    ))

pub loop-ordered-preserved : goal.loop-ordered-preserved
loop-ordered-preserved c = record {
  rest = λ d. placements_more c.args.table.now.nodes.items c.args.frames c.loop-ordered.last
      c.in_ok-last.last c.args.ordered_nodes.now c.loop-ordered.ordered-index _ c.index-node.result.now
      d _ c.loop-ordered.placements.items c.push.new.self.items c.requires.ordered_nodes c.loop-ordered-test.true
      c.index-node.ensures c.in_ok-last.ensures.ok c.in_ok-push.ensures.items (c.loop-ordered.invariant.rest d);
  fit = fit_push c.loop-ordered.placements.items c.push.new.self.items c.in_ok-last.last c.in_ok-push.ensures.items
      c.loop-ordered.invariant.fit c.in_ok-last.ensures.fits;
}
