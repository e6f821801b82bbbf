-- The digits are a number of JSON.
use Rattle.std.proofs.Common.{rules}
use Rattle.puffin_look.proofs.JsonNumbers.{integer_number}
use Rattle.puffin_look.proofs.objects.push_integer.Goals as goal

pub number-requires : goal.number-requires
number-requires c = search (rules, integer_number)
