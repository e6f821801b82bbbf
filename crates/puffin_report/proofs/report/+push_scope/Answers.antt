-- The parts of the line, one after the other, and then the lines of the children.
use Rattle.std.proofs.Common.{◌+◌, ◌++◌, List, ℕ, ap, ◌∙◌, arith, w64}
use Rattle.std.proofs.lemmas.Int.{ints, to_z-of_z}
use Rattle.std.specs.String.{string_bytes}
use Rattle.puffin_merge.specs.declared.merge.scope.MergeScope.TheViews.{out-MergeScope}
use Rattle.puffin_report.specs.ReportLines.{text_part, pieces_text, greatest_text, scope_line}
use Rattle.puffin_report.proofs.PrintedScopes.{node_of, children_of, lines_of_all, pushed, line_made, lines_next, lines_done, lines_alone}
use Rattle.puffin_report.proofs.report.+push_scope.Goals as goal

pub loop-child-preserved : goal.loop-child-preserved
loop-child-preserved t c =
    lines_next c.args.known.now (c.args.level + 1) (string_bytes c.push_str-2.new.self)
    (string_bytes c.loop-child.lines) (string_bytes c.push_scope.new.lines) c.deref-child-items.result.now
    c.loop-child.child-index c.child-item.result (omega arith) c.child-item.is c.loop-child.invariant
    c.in_ok-push_scope.ensures

pub returns : goal.returns
returns t c =
    let s = c.args.scope.now in
    let known = c.args.known.now in
    let level = c.args.level in
    let before = string_bytes c.args.lines.now in
    let text =
    c.in_ok-push_text.ensures
    ∙ ap (λ (bs : List ℕ). string_bytes c.push_name.new.lines ++ text_part bs) c.as_str.ensures.value in
    let start = to_z-of_z w64 (out-MergeScope s).relative_start_ns (omega (arith, ints)) in
    let total = to_z-of_z w64 (out-MergeScope s).total_duration_ns (omega (arith, ints)) in
    let per_frame = to_z-of_z w64 (out-MergeScope s).duration_per_frame_ns (omega (arith, ints)) in
    let longest = to_z-of_z w64 (out-MergeScope s).max_duration_ns (omega (arith, ints)) in
    let pieces = c.in_ok-push_str.ensures.bytes
    ∙ ap (λ (bs : List ℕ). string_bytes c.push_text.new.lines ++ bs)
    (c.as_str-2.ensures.value
    ∙ c.in_ok-pieces.ensures
    ∙ (λ i. pieces_text (out-MergeScope s).num_pieces (total i) (per_frame i))) in
    let greatest = c.in_ok-push_str-2.ensures.bytes
    ∙ ap (λ (bs : List ℕ). string_bytes c.push_str.new.self ++ bs)
    (c.as_str-3.ensures.value ∙ c.in_ok-greatest.ensures ∙ (λ i. greatest_text (longest i) (start i))) in
    let line =
    line_made known level s before (string_bytes c.push_indent.new.lines) (string_bytes c.push_name.new.lines)
    (string_bytes c.push_text.new.lines) (string_bytes c.push_str.new.self) (string_bytes c.push_str-2.new.self)
    c.in_ok-push_indent.ensures.text c.in_ok-push_name.ensures text pieces greatest in
    let children =
    lines_done known (level + 1) (string_bytes c.push_str-2.new.self) (string_bytes c.loop-child.lines)
    c.deref-child-items.result.now c.loop-child.child-index (omega arith) c.loop-child.invariant
    ∙ ap (λ xs. string_bytes c.push_str-2.new.self ++ lines_of_all known (level + 1) xs)
    c.deref-child-items.ensures.value in
    pushed before (string_bytes c.push_str-2.new.self) (string_bytes c.loop-child.lines)
    (scope_line known level (node_of s)) (lines_of_all known (level + 1) (children_of s)) line children
    ∙ ap (λ (bs : List ℕ). before ++ bs) (lines_alone known level s)
