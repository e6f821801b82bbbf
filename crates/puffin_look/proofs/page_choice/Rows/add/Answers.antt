-- The row comes first, and stands among the slowest if it is one of them.
use Rattle.std.proofs.Common.{◌∷◌, take, ap, ◌∙◌}
use Rattle.std.proofs.lemmas.Result.{on_ok_weaker}
use Rattle.puffin_look.specs.PageChoice.{with_row}
use Rattle.puffin_look.proofs.page_choice.Rows.add.Goals as goal

pub returns-clause-row : goal.returns-clause-row
returns-clause-row c =
    let before = c.args.self.now in
    let first = c.in_ok-insert.ensures.items ∙ (λ i. c.new-row.ensures i ∷ before.recent.items) in
    on_ok_weaker c.keep.result
    (λ slow. record {
      recent = c.truncate.ensures.items ∙ ap (take before.limits.recent) first;
      slow = slow ∙ (λ i. take before.limits.slow (with_row before.slow.items (c.new-row.ensures i)));
    })
    c.keep.ensures
