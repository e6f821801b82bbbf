-- The line of the scope stands, and behind it the lines of the children so far.
use Rattle.std.proofs.Common.{◌≡◌, ◌++◌, ◌+◌, take}
use Rattle.std.specs.String.{string_bytes}
use Rattle.puffin_report.proofs.PrintedScopes.{lines_of_all}
use Rattle.puffin_report.proofs.report.+push_scope.Given as goal

abbrev pub invariant-loop-child : goal.invariant-loop-child
invariant-loop-child l =
    string_bytes l.lines
    ≡ string_bytes l.initial.lines ++ lines_of_all l.known (l.level + 1) (take l.child-index l.child-items)
