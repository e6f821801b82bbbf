-- Each turn appends the lines of one more scope.
use Rattle.std.proofs.Common.{arith}
use Rattle.std.specs.String.{string_bytes}
use Rattle.puffin_report.proofs.PrintedScopes.{lines_next}
use Rattle.puffin_report.proofs.report.report_lines.Goals as goal

pub loop-scope-preserved : goal.loop-scope-preserved
loop-scope-preserved c =
    lines_next c.args.summary.now.scopes 0 (string_bytes c.in_ok-lines.lines) (string_bytes c.loop-scope.lines)
    (string_bytes c.push_scope.new.lines) c.deref-scope-items.result.now c.loop-scope.scope-index
    c.scope-item.result (omega arith) c.scope-item.is c.loop-scope.invariant c.in_ok-push_scope.ensures
