-- What the search for a boundary finds is where the cut ends.
use Rattle.std.proofs.Common.{◌≡◌, ℕ, ◌-◌, ◌∙◌, ap, take, arith}
use Rattle.puffin_data.proofs.lemmas.Cuts.{cut_text-found}
use Rattle.puffin_data.proofs.data.form.Form.cut_off.Goals as goal

pub returns-clause-cut : goal.returns-clause-cut
returns-clause-cut c =
    let text = c.args.text.now in
    let found = c.floor_char_boundary-size in
    let from_start : found.result - 0 ≡ found.result = omega arith in
    c.range.ensures.value
    ∙ ap (λ (any : ℕ). take any text) from_start
    ∙ cut_text-found c.args.self text found.result c.text_limit.result c.text_limit.ensures found.ensures.bound found.ensures.boundary
    found.ensures.nearest
