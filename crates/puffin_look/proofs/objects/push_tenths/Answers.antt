-- The digits are a number of JSON.
use Rattle.std.proofs.Common.{◌≡◌, ◌++◌, ◌/◌, ◌≤◌, ◌^◌, ap, subst, sym, ◌∙◌, rules}
use Rattle.json.specs.Print.{IsNumber}
use Rattle.puffin_look.specs.Objects.{minus, tenths}
use Rattle.puffin_look.proofs.JsonNumbers.{tenths_number}
use Rattle.puffin_look.proofs.objects.push_tenths.Goals as goal

pub number-requires : goal.number-requires
number-requires c =
    let small : c.args.tenths / 10 ≤ 2 ^ 53 = search rules in
    let sign : c.if-is_negative.sign.now ≡ minus c.args.is_negative = search rules in
    subst IsNumber (sym (c.as_str.ensures.value ∙ c.in_ok-digits.ensures.ok ∙ ap (λ s. s ++ tenths c.args.tenths) sign))
    (tenths_number c.args.is_negative c.args.tenths small)
