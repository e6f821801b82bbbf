-- The parts so far are what the iterator gave.
use Rattle.std.proofs.Common.{◌≡◌}
use Rattle.puffin_scopes.proofs.utils.file_names.split_path.Given as goal

abbrev pub invariant-loop-part : goal.invariant-loop-part
invariant-loop-part l = l.parts.items ≡ l.yielded
