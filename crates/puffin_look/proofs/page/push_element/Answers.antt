-- The element's parts, one after the other.
use Rattle.std.proofs.Common.{codes}
use Rattle.std.proofs.lemmas.Result.{on_ok_weaker}
use Rattle.puffin_look.proofs.Pushed.{pushed5, appended_if}
use Rattle.puffin_look.proofs.page.push_element.Goals as goal

pub returns : goal.returns
returns c =
    on_ok_weaker c.extend_from_slice-4.result
    (pushed5 _ _ _ _ _ _ _ _ _ _ _ c.in_ok-extend_from_slice.ensures.items c.in_ok-extend_from_slice-2.ensures.items
    c.in_ok-extend_from_slice-3.ensures.items c.in_ok-push_embedded.ensures)
    (appended_if c.extend_from_slice-4.result c.extend_from_slice-4.new.self.items c.push_embedded.new.text.items
    (codes "</script>\n") c.extend_from_slice-4.ensures.items)
