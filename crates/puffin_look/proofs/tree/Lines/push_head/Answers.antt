-- The line's parts, one after the other.
use Rattle.std.proofs.Common.{List, ◌++◌, codes, refl, ap, ◌∙◌}
use Rattle.std.proofs.lemmas.Result.{on_ok_weaker}
use Rattle.puffin_look.specs.Cells.{Cell, heading}
use Rattle.puffin_look.proofs.Pushed.{pushed4, appended_if}
use Rattle.puffin_look.proofs.tree.Lines.push_head.Goals as goal

pub returns : goal.returns
returns c =
    let names = c.in_ok-push_heading.ensures
    ∙ ap (λ (cells : List Cell). c.args.self.now.text.items ++ heading cells) c.cells_of.ensures in
    on_ok_weaker c.extend_from_slice-2.result
    (λ h. record {
      text = pushed4 _ _ _ _ _ _ _ _ _ names c.in_ok-extend_from_slice.ensures.items c.in_ok-push_thread.ensures h;
      known = refl;
      range = refl;
    })
    (appended_if c.extend_from_slice-2.result c.extend_from_slice-2.new.self.items c.push_thread.new.text.items
    (codes "\n") c.extend_from_slice-2.ensures.items)
