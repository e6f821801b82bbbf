-- The frame's element, if the page has it.
use Rattle.std.proofs.Common.{List, ℕ, ◌++◌, codes, inl, inr, refl, ap, sym, ◌∙◌}
use Rattle.std.proofs.lemmas.Result.{err_from_is_err_and}
use Rattle.puffin_look.specs.OpenFrame.{open_of}
use Rattle.puffin_look.specs.Page.{element}
use Rattle.puffin_look.proofs.PagesPrinted.{frame_placed, frame_passed, frame_unread}
use Rattle.puffin_look.proofs.page.PageListing.add.Goals as goal

pub returns-in_ok-push_element-clause-ok : goal.returns-in_ok-push_element-clause-ok
returns-in_ok-push_element-clause-ok c =
    let text = c.in_ok-push_element.ensures
    ∙ ap (λ (t : List ℕ). c.args.self.now.text.items ++ element (codes "frame") t) c.deref.ensures.value in
    frame_placed c.args.self.now (open_of c.args.frame.now) _ _ (sym c.has.ensures ∙ c.if-has.true) c.in_ok-json.ensures.ok text refl

pub returns-else-has-clause-ok : goal.returns-else-has-clause-ok
returns-else-has-clause-ok c = frame_passed c.args.self.now (open_of c.args.frame.now) (sym c.has.ensures ∙ c.if-has.false)

pub returns-in_err-json-clause-err : goal.returns-in_err-json-clause-err
returns-in_err-json-clause-err c =
    let (cause, is_err, same_cause) = err_from_is_err_and c.from_residual.result c.from_residual.ensures.1 in
    rw (is_err, same_cause) (elim (c.in_err-json.ensures.err) [
      | inl memory ↦ inl memory
      | inr fault ↦ inr (frame_unread c.args.self.now (open_of c.args.frame.now) _ (sym c.has.ensures ∙ c.if-has.true) fault)
    ])
