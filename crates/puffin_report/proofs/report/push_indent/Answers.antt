-- Each turn appends the two blanks of one more level.
use Rattle.std.proofs.Common.{◌++◌, List, ℕ, codes, ap, ◌∙◌, arith, append_assoc}
use Rattle.std.specs.String.{string_bytes}
use Rattle.puffin_report.specs.ReportLines.{indent}
use Rattle.puffin_report.proofs.PrintedScopes.{indent_more}
use Rattle.puffin_report.proofs.report.push_indent.Goals as goal

pub loop-preserved : goal.loop-preserved
loop-preserved c =
    let before = string_bytes c.args.lines.now in
    record {
      text = c.in_ok-push_str.ensures.bytes
          ∙ ap (λ (bs : List ℕ). bs ++ codes "  ") c.loop.invariant.text
          ∙ append_assoc before (indent c.loop.counter) (codes "  ")
          ∙ ap (λ (bs : List ℕ). before ++ bs) (indent_more c.loop.counter);
      len = omega (arith, c.in_ok-push_str.ensures.len, c.loop.invariant.len);
    }
