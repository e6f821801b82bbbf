-- The last of the map's threads is above all others, so a thread above that one is above them all.
use Rattle.std.proofs.Common.{ap, sym, ◌∙◌}
use Rattle.std.specs.Ordering.{is_lt}
use Rattle.puffin_frames.proofs.Listed.{rises_after, falls_after}
use Rattle.puffin_frames.proofs.frame_data.decode.comes_last.Goals as goal

pub returns-in-Some-clause-yes : goal.returns-in-Some-clause-yes
returns-in-Some-clause-yes c r sorted above =
    rises_after c.args.streams.now.entries c.in-Some.last.now c.in-Some.field-0-1.now c.args.thread.now r sorted
    c.in-Some.ensures.last (sym (c.is_lt.ensures ∙ ap is_lt c.cmp.ensures) ∙ above)

pub returns-in-Some-clause-no : goal.returns-in-Some-clause-no
returns-in-Some-clause-no c r rest below =
    falls_after c.args.streams.now.entries c.in-Some.last.now c.in-Some.field-0-1.now c.args.thread.now r rest
    c.in-Some.ensures.last (sym (c.is_lt.ensures ∙ ap is_lt c.cmp.ensures) ∙ below)
