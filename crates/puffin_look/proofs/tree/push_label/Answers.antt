-- The label's parts, one after the other.
use Rattle.std.proofs.Common.{List, ℕ, ◌++◌, codes, ap, ◌∙◌}
use Rattle.std.proofs.lemmas.Result.{on_ok_weaker}
use Rattle.puffin_look.specs.FrameTree.{text_part}
use Rattle.puffin_look.proofs.Pushed.{pushed4, appended_if}
use Rattle.puffin_look.proofs.tree.push_label.Goals as goal

pub returns-clause-text : goal.returns-clause-text
returns-clause-text c =
    let text = c.in_ok-push_text.ensures ∙ ap (λ (t : List ℕ). c.push_name.new.text.items ++ text_part t) c.text_of.ensures in
    on_ok_weaker c.extend_from_slice.result (pushed4 _ _ _ _ _ _ _ _ _ c.in_ok-push_indent.ensures.text c.in_ok-push_name.ensures text)
    (appended_if c.extend_from_slice.result c.extend_from_slice.new.self.items c.push_text.new.text.items
    (codes "\n") c.extend_from_slice.ensures.items)
