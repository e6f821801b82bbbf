-- The first line stands, and behind it the lines of the scopes so far.
use Rattle.std.proofs.Common.{◌≡◌, ◌++◌, take}
use Rattle.std.specs.String.{string_bytes}
use Rattle.puffin_report.proofs.PrintedScopes.{lines_of_all}
use Rattle.puffin_report.proofs.report.report_lines.Given as goal

abbrev pub invariant-loop-scope : goal.invariant-loop-scope
invariant-loop-scope l =
    string_bytes l.lines
    ≡ string_bytes l.initial.lines ++ lines_of_all l.summary.scopes 0 (take l.scope-index l.scope-items)
