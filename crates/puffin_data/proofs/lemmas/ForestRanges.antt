-- The range of a forest: its times are numbers of 64 bits, and it isn't reversed.
use Rattle.std.proofs.Common.{◌≡◌, ◌-◌, ◌<◌, ◌^◌, arith, ℤ, ◌≤ℤ◌, pos, negsuc}
use Rattle.std.specs.Int.{int_min, int_max}
use Rattle.std.proofs.lemmas.Int.{ints, clamps}
use Rattle.puffin_data.specs.declared.data.form.Form.{Form}
use Rattle.puffin_data.specs.Forest.{Forest, empty, node, IsForest}
use Rattle.puffin_data.specs.Forest.Measures.{scope_count, least_start, greatest_stop}

-- no start is above the largest number of 64 bits, with which `least_start` begins
pub least_in_range : (forest : Forest) → least_start forest ≤ℤ pos (2 ^ 63 - 1)
least_in_range empty = omega (arith, ints)
least_in_range (node span children others) = omega (arith, ints, clamps, least_in_range children, least_in_range others)

-- and no stop is below the smallest, with which `greatest_stop` begins
pub greatest_in_range : (forest : Forest) → negsuc (2 ^ 63 - 1) ≤ℤ greatest_stop forest
greatest_in_range empty = omega (arith, ints)
greatest_in_range (node span children others) = omega (arith, ints, clamps, greatest_in_range children, greatest_in_range others)

-- where there is a scope, it starts no later than it stops, and the range reaches from the least start to the greatest stop
pub ordered : (form : Form) (forest : Forest) → IsForest form forest → 0 < scope_count forest → least_start forest ≤ℤ greatest_stop forest
ordered form empty fits has_scope = absurd (omega arith)
ordered form (node span children others) (span_fits, _, _) has_scope = omega (arith, ints, clamps, span_fits.ordered)

-- of the largest number and a time, the lesser is the time
pub from_most : (time : ℤ) → time ≤ℤ pos (2 ^ 63 - 1) → int_min (pos (2 ^ 63 - 1)) time ≡ time
from_most time within = omega (arith, ints, clamps)

-- of the smallest number and a time, the greater is the time
pub from_least : (time : ℤ) → negsuc (2 ^ 63 - 1) ≤ℤ time → int_max (negsuc (2 ^ 63 - 1)) time ≡ time
from_least time within = omega (arith, ints, clamps)
