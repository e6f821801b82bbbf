-- The same fields, and one child after the other.
use Rattle.std.proofs.Common.{take, sym, ap, ◌∙◌, arith, refl}
use Rattle.std.proofs.lemmas.Int.{ints}
use Rattle.puffin_merge.specs.declared.merge.scope.MergeScope.TheViews.{out-MergeScope}
use Rattle.puffin_merge.specs.Merge.Scopes.{forest_in}
use Rattle.puffin_merge.proofs.Copied.{same_push, same_scope, one_more, all_taken}
use Rattle.puffin_merge.proofs.Entering.{passed_64}
use Rattle.puffin_merge.proofs.merge.scope.MergeScope.+clone.Goals as goal

pub loop-child-preserved : goal.loop-child-preserved
loop-child-preserved t c =
    same_push c.loop-child.children.items (take c.loop-child.child-index c.deref-child-items.result.now)
    c.push.new.self.items c.in_ok-clone.field-0 c.child-item.result c.in_ok-push.ensures.items
    c.loop-child.invariant c.in_ok-clone.ensures.same
    ∙ ap forest_in (sym (one_more c.deref-child-items.result.now c.loop-child.child-index c.child-item.result
    (omega arith) c.child-item.is))

pub returns-clause-same : goal.returns-clause-same
returns-clause-same t c =
    let s = c.args.self.now in
    let start = passed_64 (out-MergeScope s).relative_start_ns (omega (arith, ints)) in
    let total = passed_64 (out-MergeScope s).total_duration_ns (omega (arith, ints)) in
    let per_frame = passed_64 (out-MergeScope s).duration_per_frame_ns (omega (arith, ints)) in
    let greatest = passed_64 (out-MergeScope s).max_duration_ns (omega (arith, ints)) in
    let children = c.loop-child.invariant ∙ ap forest_in (all_taken c.deref-child-items.result.now
    c.loop-child.child-index (omega arith) ∙ c.deref-child-items.ensures.value) in
    same_scope s _ _ _ _ _ _ c.in_ok-clone-2.field-0 c.loop-child.children start total per_frame greatest refl refl
    c.in_ok-clone-2.ensures.cases children
