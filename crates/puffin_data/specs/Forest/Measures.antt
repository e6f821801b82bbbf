-- The measures of a forest: number of scopes, height, least start, greatest stop.
use Rattle.std.specs.Prelude.{ℕ, ◌+◌, ◌-◌, ◌^◌, max, ℤ, pos, negsuc}
use Rattle.std.specs.Int.{int_min, int_max}
use Rattle.puffin_data.specs.Forest.{Forest, empty, node}

-- the number of scopes
abbrev pub scope_count : Forest → ℕ
scope_count empty = 0
scope_count (node first children others) = 1 + scope_count children + scope_count others

-- the greatest nesting depth
abbrev pub height : Forest → ℕ
height empty = 0
height (node first children others) = max (1 + height children) (height others)

-- the least start of all scopes, or i64's greatest number if there are none
abbrev pub least_start : Forest → ℤ
least_start empty = pos (2 ^ 63 - 1)
least_start (node first children others) =
    int_min first.start (int_min (least_start children) (least_start others))

-- the greatest stop of all scopes, or i64's least number if there are none
abbrev pub greatest_stop : Forest → ℤ
greatest_stop empty = negsuc (2 ^ 63 - 1)
greatest_stop (node first children others) =
    int_max first.stop (int_max (greatest_stop children) (greatest_stop others))
