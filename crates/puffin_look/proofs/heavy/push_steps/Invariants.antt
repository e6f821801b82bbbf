-- The steps so far and those that are left are all steps.
use Rattle.std.proofs.Common.{◌++◌, ◌-◌, length, []}
use Rattle.puffin_look.specs.Forms.{joined}
use Rattle.puffin_look.specs.Heavy.{step_lines}
use Rattle.puffin_look.specs.inner.Stacks.{rows_in}
use Rattle.puffin_look.proofs.Lined.{Lists}
use Rattle.puffin_look.proofs.heavy.push_steps.Given as goal

abbrev pub invariant-loop-level : goal.invariant-loop-level
invariant-loop-level l =
    Lists l.lines (step_lines l.form (length l.rows.entries - l.level) (rows_in l.rows.entries) l.level l.front.items l.outer)
    (l.initial.lines.text.items ++ joined l.initial.lines.separator.now l.initial.lines.has_any
    (step_lines l.form (length l.rows.entries) (rows_in l.rows.entries) 0 [] l.whole))
