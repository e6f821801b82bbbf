-- What the map has under the thread, or no totals.
use Rattle.std.proofs.Common.{Option, Some, None, ap, sym, ◌∙◌}
use Rattle.std.specs.Prelude.{unwrap_or}
use Rattle.puffin_c.specs.Threads.{no_totals}
use Rattle.puffin_c.specs.declared.threads.ThreadTotals.{ThreadTotals}
use Rattle.puffin_c.proofs.ThreadsCounted.{got}
use Rattle.puffin_c.proofs.threads.Threads.totals_under.Goals as goal

pub returns-in-Some : goal.returns-in-Some
returns-in-Some c =
    sym (ap (λ (o : Option ThreadTotals). unwrap_or o no_totals)
    (got c.args.self.now.totals.entries c.args.thread.now (Some c.in-Some.totals.now) c.in-Some.ensures.value))

pub returns-in-None : goal.returns-in-None
returns-in-None c =
    c.none.ensures ∙ sym (ap (λ (o : Option ThreadTotals). unwrap_or o no_totals)
    (got c.args.self.now.totals.entries c.args.thread.now None c.in-None.ensures.value))
