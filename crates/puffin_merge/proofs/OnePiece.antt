-- One occurrence more.
use Rattle.std.specs.Prelude.{ℕ, ◌+◌, ℤ, max}
use Rattle.std.specs.Int.{int_min}
use Rattle.puffin_merge.specs.Merge.Pieces.{Merged}

-- a merged scope with one piece more
abbrev pub with_piece : Merged → ℤ → ℕ → Merged
with_piece m own_start duration = record {
  number = m.number + 1;
  total = m.total + duration;
  greatest = max m.greatest duration;
  own_start = int_min m.own_start own_start;
}

-- of one piece
abbrev pub one_piece : ℤ → ℕ → Merged
one_piece own_start duration =
    record { number = 1; total = duration; greatest = duration; own_start = own_start }
