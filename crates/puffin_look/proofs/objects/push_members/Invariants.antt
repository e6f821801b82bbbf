-- The members so far and those that are left are all members.
use Rattle.std.proofs.Common.{◌≡◌, ◌++◌, drop, map}
use Rattle.std.specs.List.{flat_map}
use Rattle.puffin_look.specs.Objects.{member_tokens}
use Rattle.puffin_look.specs.inner.Rows.{cell_of}
use Rattle.puffin_look.proofs.objects.push_members.Given as goal

abbrev pub invariant-loop-cell : goal.invariant-loop-cell
invariant-loop-cell l =
    (l.writer.tokens ++ flat_map member_tokens (map cell_of (drop l.cell-index l.cells)) ≡ l.initial.writer.tokens
    ++ flat_map member_tokens (map cell_of l.cells))
    × (l.writer.before ≡ l.initial.writer.before)
