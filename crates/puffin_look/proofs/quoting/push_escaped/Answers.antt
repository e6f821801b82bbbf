-- A writer that begins with nothing writes the string alone.
use Rattle.std.proofs.Common.{List, ℕ, ◌++◌, ap, ◌∙◌}
use Rattle.std.proofs.lemmas.Result.{on_ok_weaker}
use Rattle.puffin_look.proofs.Pushed.{appended_if}
use Rattle.puffin_look.proofs.Quotes.{quoted_behind}
use Rattle.puffin_look.proofs.quoting.push_escaped.Goals as goal

pub returns : goal.returns
returns c =
    let written = quoted_behind _ _ _ _ _ _ c.into_inner.ensures.items (c.string.ensures.room.0 ∙ c.new-writer.ensures.before
    ∙ c.new.ensures.items) c.new-writer.ensures.tokens c.in_ok-string.ensures.ok in
    on_ok_weaker c.extend_from_slice.result (λ h. h ∙ ap (λ (t : List ℕ). c.args.text.now.items ++ t) (c.deref.ensures.value ∙ written))
    (appended_if c.extend_from_slice.result c.extend_from_slice.new.self.items c.args.text.now.items c.deref.result.now
    c.extend_from_slice.ensures.items)
