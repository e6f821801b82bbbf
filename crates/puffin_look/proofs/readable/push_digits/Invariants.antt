-- The digits so far and those that are left are all digits.
use Rattle.std.proofs.Common.{◌≡◌, ◌++◌, drop}
use Rattle.puffin_look.specs.Cells.{grouped}
use Rattle.puffin_look.proofs.readable.push_digits.Given as goal

abbrev pub invariant-loop-place : goal.invariant-loop-place
invariant-loop-place l = l.text.items ++ grouped (drop l.place l.digits) ≡ l.initial.text.items ++ grouped l.digits
