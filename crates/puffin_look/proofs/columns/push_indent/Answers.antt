-- Two more blanks were appended.
use Rattle.std.proofs.Common.{◌++◌, List, ℕ, codes, ap, ◌∙◌, arith, append_assoc}
use Rattle.puffin_look.specs.FrameTree.{indent}
use Rattle.puffin_look.proofs.Indents.{indent_more}
use Rattle.puffin_look.proofs.columns.push_indent.Goals as goal

pub loop-preserved : goal.loop-preserved
loop-preserved c =
    let before = c.args.text.now.items in
    record {
      text = c.in_ok-extend_from_slice.ensures.items ∙ ap (λ (bs : List ℕ). bs ++ codes "  ") c.loop.invariant.text
          ∙ append_assoc before (indent c.loop.counter) (codes "  ")
          ∙ ap (λ (bs : List ℕ). before ++ bs) (indent_more c.loop.counter);
      len = omega (arith, c.in_ok-extend_from_slice.ensures.len, c.loop.invariant.len);
    }
