-- The cut text is no longer than its form stores, nor than the text is.
use Rattle.std.proofs.Common.{◌≡◌, ◌≤◌, ◌+◌, ℕ, List, length, min, sym, subst, arith}
use Rattle.puffin_data.specs.Forest.Spelling.{head_size}
use Rattle.puffin_data.specs.Text.{cut_text}
use Rattle.puffin_data.specs.declared.data.form.Form.{Form}
use Rattle.puffin_data.specs.declared.data.form.Form.TheVariants.{Short, Long}
use Rattle.puffin_data.proofs.lemmas.Cuts.{cut_text-short, cut_text-within, most_of_one_byte}
use Rattle.puffin_data.proofs.lemmas.Lengths.{short_room, long_room}
use Rattle.puffin_data.proofs.data.form.Form.begin_limit.Goals as goal

most_short : (form : Form) (text : List ℕ) → form ≡ Short → head_size form (cut_text form text) ≤ 149
most_short form text is =
    subst (λ (any : Form). head_size any (cut_text any text) ≤ 149) (sym is)
    (omega (arith, short_room (cut_text Short text), cut_text-short Short text))

most_long : (form : Form) (text : List ℕ) → form ≡ Long → head_size form (cut_text form text) ≤ 23 + min (length text) 16383
most_long form text is =
    subst (λ (any : Form). head_size any (cut_text any text) ≤ 23 + min (length text) 16383) (sym is)
    (omega (arith, long_room (cut_text Long text), cut_text-short Long text, cut_text-within Long text))

pub returns-then-text-le-ONE_GROUP-clause-most : goal.returns-then-text-le-ONE_GROUP-clause-most
returns-then-text-le-ONE_GROUP-clause-most c =
    most_of_one_byte c.args.self c.args.text.now (omega (arith, c.if-text-le-ONE_GROUP.true))

pub returns-in-Short-clause-most : goal.returns-in-Short-clause-most
returns-in-Short-clause-most c = most_short c.args.self c.args.text.now c.in-Short.is

pub returns-in-Long-clause-most : goal.returns-in-Long-clause-most
returns-in-Long-clause-most c = omega (arith, most_long c.args.self c.args.text.now c.in-Long.is, c.min.ensures)
