-- The digits are a number of JSON.
use Rattle.std.proofs.Common.{◌/◌, ◌≤◌, ◌^◌, subst, sym, ◌∙◌, rules}
use Rattle.json.specs.Print.{IsNumber}
use Rattle.puffin_look.proofs.JsonNumbers.{hundredths_number}
use Rattle.puffin_look.proofs.objects.push_hundredths.Goals as goal

pub number-requires : goal.number-requires
number-requires c =
    let small : c.args.number / 100 ≤ 2 ^ 53 = search rules in
    subst IsNumber (sym (c.as_str.ensures.value ∙ c.in_ok-digits.ensures.ok)) (hundredths_number c.args.number small)
