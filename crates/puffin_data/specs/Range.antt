-- Whether two times are a range: not reversed, with a duration that fits `i64`.
use Rattle.std.specs.Prelude.{◌^◌, ℤ, pos, ◌-ℤ◌, int_le, int_lt, Bool, ◌&&◌}

-- whether the range isn't reversed and its duration fits i64
abbrev pub is_valid_range_at : ℤ → ℤ → Bool
is_valid_range_at start stop = int_le start stop && int_lt (stop -ℤ start) (pos (2 ^ 63))
