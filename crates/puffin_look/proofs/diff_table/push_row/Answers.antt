-- The line that was added is that of the row.
use Rattle.std.proofs.Common.{Some, codes, subst}
use Rattle.std.proofs.lemmas.Result.{on_ok_weaker}
use Rattle.puffin_look.specs.Objects.{row_text}
use Rattle.puffin_look.specs.inner.Lining.{Adds}
use Rattle.puffin_look.proofs.diff_table.push_row.Goals as goal

pub returns : goal.returns
returns c =
    on_ok_weaker c.add_row.result
    (subst (Adds c.args.lines.now c.add_row.new.lines)
    (λ i. row_text c.args.form (c.cells_of.ensures i) (Some (codes "name", c.deref.ensures.value i)))) c.add_row.ensures
