-- The same fields, and one child after the other.
use Rattle.std.proofs.Common.{◌∙◌, arith, refl}
use Rattle.std.proofs.lemmas.Int.{ints}
use Rattle.puffin_merge.specs.declared.merge.scope.MergeScope.TheViews.{out-MergeScope}
use Rattle.puffin_merge.proofs.Copied.{same_next, none_left, same_scope}
use Rattle.puffin_merge.proofs.Entering.{passed_64}
use Rattle.puffin_merge.proofs.merge.scope.MergeScope.+into_owned.Goals as goal

pub loop-child-preserved : goal.loop-child-preserved
loop-child-preserved t c = record {
  children = same_next c.loop-child.owned.items c.push.new.self.items c.loop-child.child-iterator.rest.items
      c.next.new.self.rest.items c.in_ok-into_owned-2.field-0 c.in-Some.child c.in_ok-push.ensures.items
      c.in-Some.ensures.steps.0 c.in_ok-into_owned-2.ensures.same ∙ c.loop-child.invariant.children;
  text = c.loop-child.invariant.text;
}

pub returns-clause-same : goal.returns-clause-same
returns-clause-same t c =
    let s = c.args.self in
    let start = passed_64 (out-MergeScope s).relative_start_ns (omega (arith, ints)) in
    let total = passed_64 (out-MergeScope s).total_duration_ns (omega (arith, ints)) in
    let per_frame = passed_64 (out-MergeScope s).duration_per_frame_ns (omega (arith, ints)) in
    let greatest = passed_64 (out-MergeScope s).max_duration_ns (omega (arith, ints)) in
    let children = none_left c.loop-child.owned.items c.loop-child.child-iterator.rest.items
    (omega (arith, c.in-None.ensures.steps.0, c.loop-child.child-iterator.rest.ok))
    ∙ c.loop-child.invariant.children in
    same_scope s _ _ _ _ _ _ _ c.loop-child.owned start total per_frame greatest refl refl
    (c.loop-child.invariant.text ∙ c.in_ok-into_owned.ensures.ok) children
