-- A plain string has no escapes.
use Rattle.std.proofs.Common.{List, ℕ, ◌++◌, ap, sym, ◌∙◌}
use Rattle.std.specs.List.{list_all}
use Rattle.std.proofs.lemmas.Result.{on_ok_weaker}
use Rattle.puffin_look.specs.inner.Events.{is_plain}
use Rattle.puffin_look.proofs.Quotes.{plain_quoted}
use Rattle.puffin_look.proofs.quoting.push_quoted.Goals as goal

pub returns-then-is_plain : goal.returns-then-is_plain
returns-then-is_plain c =
    let plain = ap (list_all is_plain) (sym c.as_bytes.ensures.value) ∙ sym c.is_plain.ensures ∙ c.if-is_plain.true in
    on_ok_weaker c.push_plain.result
    (λ h. h ∙ ap (λ (t : List ℕ). c.args.text.now.items ++ t) (plain_quoted c.args.string.now plain)) c.push_plain.ensures
