-- Two blanks for each level so far.
use Rattle.std.proofs.Common.{◌≡◌, ◌++◌, ◌+◌, ◌*◌}
use Rattle.std.specs.String.{string_bytes, string_len}
use Rattle.puffin_report.specs.ReportLines.{indent}
use Rattle.puffin_report.proofs.report.push_indent.Given as goal

abbrev pub invariant-loop : goal.invariant-loop
invariant-loop l = record {
  text : string_bytes l.lines ≡ string_bytes l.fn.lines ++ indent l.counter;
  len : string_len l.lines ≡ string_len l.fn.lines + 2 * l.counter;
}
