-- A scope's row is appended first, and then the rows of its children, one child after the other.
use Rattle.std.proofs.Common.{◌≡◌, ◌+◌, ◌++◌, [], ◌∷◌, ℕ, List, subst, arith, ap, length, length-append, ◌∙◌, w64}
use Rattle.std.proofs.lemmas.Int.{ints, to_z-of_z}
use Rattle.puffin_merge.specs.declared.merge.scope.MergeScope.TheViews.{out-MergeScope}
use Rattle.puffin_merge.specs.declared.merge.scope.MergeScope.{MergeScope}
use Rattle.puffin_c.specs.declared.merged.MergedList.{MergedList}
use Rattle.puffin_c.specs.Merges.{merged_row, AppendsNodes}
use Rattle.puffin_c.proofs.MergedListed.{nodes_of_all, none_appended, next_appended, all_appended, placed, scope_appended, longer}
use Rattle.puffin_c.proofs.merged.MergedList.+append.Goals as goal

pub loop-child-init : goal.loop-child-init
loop-child-init t c =
    let more = ap length c.in_ok-push.ensures.items ∙ length-append _ (_ ∷ []) in
    record { children = none_appended _; deep = omega (arith, more, c.requires) }

pub loop-child-preserved : goal.loop-child-preserved
loop-child-preserved t c =
    let more = c.in_ok-append.ensures in
    record {
      children = next_appended (c.args.depth + 1) _ c.loop-child.self c.append.new.self c.deref-child-items.result.now
          c.loop-child.child-index c.child-item.result (omega arith) c.child-item.is c.loop-child.invariant.children
          more;
      deep = omega (arith, longer _ _ _ more, c.loop-child.invariant.deep);
    }

pub returns : goal.returns
returns t c =
    let s = c.args.scope.now in
    let depth = c.args.depth in
    let before = c.args.self.now in
    let text = c.as_bytes-text.ensures.value ∙ c.as_str.ensures.value in
    let start = to_z-of_z w64 (out-MergeScope s).relative_start_ns (omega (arith, ints)) in
    let total = to_z-of_z w64 (out-MergeScope s).total_duration_ns (omega (arith, ints)) in
    let per_frame = to_z-of_z w64 (out-MergeScope s).duration_per_frame_ns (omega (arith, ints)) in
    let longest = to_z-of_z w64 (out-MergeScope s).max_duration_ns (omega (arith, ints)) in
    let size = c.len.ensures ∙ before.texts.ok.0 in
    let text_size = ap length text in
    let row : _ ≡ merged_row (length before.texts.items) (placed depth s) = λ i. record {
      start_ns = start i;
      total_ns = total i;
      per_frame_ns = per_frame i;
      max_ns = longest i;
      pieces = (out-MergeScope s).num_pieces;
      depth = depth;
      text_at = size i;
      text_size = text_size i;
      id = c.get.ensures.number i;
    } in
    let with_row : MergedList = record { rows = c.push.new.self; texts = c.extend_from_slice.new.self } in
    let children = subst
    (λ (xs : List MergeScope). AppendsNodes with_row (nodes_of_all (depth + 1) xs) c.loop-child.self)
    c.deref-child-items.ensures.value
    (all_appended (depth + 1) with_row c.loop-child.self c.deref-child-items.result.now c.loop-child.child-index
    (omega arith) c.loop-child.invariant.children) in
    scope_appended depth s before with_row c.loop-child.self _ c.in_ok-push.ensures.items
    (c.in_ok-extend_from_slice.ensures.items ∙ ap (λ (bs : List ℕ). before.texts.items ++ bs) text) row children
