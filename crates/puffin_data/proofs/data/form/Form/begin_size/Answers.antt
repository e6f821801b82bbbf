-- A short text is stored whole, and its length takes one byte in both forms.
use Rattle.std.proofs.Common.{◌≡◌, ◌≤◌, ◌+◌, ℕ, true, List, length, leb, refl, ap, arith}
use Rattle.puffin_data.specs.Forest.Spelling.{head_size}
use Rattle.puffin_data.specs.Text.{cut_text}
use Rattle.puffin_data.specs.declared.data.form.Form.{Form}
use Rattle.puffin_data.specs.declared.data.form.Form.TheVariants.{Short, Long}
use Rattle.puffin_data.proofs.lemmas.Lengths.{one_group}
use Rattle.puffin_data.proofs.data.form.Form.begin_size.Goals as goal

whole : (form : Form) (text : List ℕ) → length text ≤ 127 → cut_text form text ≡ text
whole Short text small =
    let within : leb (length text) 127 ≡ true = grind arith in
    rw within refl
whole Long text small =
    let within : leb (length text) 16383 ≡ true = grind arith in
    rw within refl

size_of_whole : (form : Form) (text : List ℕ) → length text ≤ 127 → 14 + length text + 8 ≡ head_size form text
size_of_whole form text small = omega (arith, ap (λ (any : List ℕ). length any) (one_group form (length text) small))

pub returns-then-text-le-ONE_GROUP : goal.returns-then-text-le-ONE_GROUP
returns-then-text-le-ONE_GROUP c =
    let small : length c.args.text.now ≤ 127 = omega (arith, c.if-text-le-ONE_GROUP.true) in
    rw (whole c.args.self c.args.text.now small) (size_of_whole c.args.self c.args.text.now small)
