-- Two blanks for each level so far.
use Rattle.std.proofs.Common.{◌≡◌, ◌++◌, ◌+◌, ◌*◌, length}
use Rattle.puffin_look.specs.FrameTree.{indent}
use Rattle.puffin_look.proofs.columns.push_indent.Given as goal

abbrev pub invariant-loop : goal.invariant-loop
invariant-loop l = record {
  text : l.text.items ≡ l.fn.text.items ++ indent l.counter;
  len : length l.text.items ≡ length l.fn.text.items + 2 * l.counter;
}
