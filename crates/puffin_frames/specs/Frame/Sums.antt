-- The sums and the joined range of several streams, and when a frame can be made from them.
use Rattle.std.specs.Prelude.{◌≡◌, ◌⊎◌, ℕ, ◌-◌, ◌<◌, ◌^◌, ℤ, pos, negsuc, ◌-ℤ◌, ◌≤ℤ◌, FitsSigned, List, length, fold}
use Rattle.std.specs.List.{sum_by}
use Rattle.std.specs.Int.{w64, int_min, int_max}
use Rattle.puffin_data.specs.declared.error.Error.{Error}
use Rattle.puffin_data.specs.declared.error.Error.TheVariants.{TooLarge, Empty, RangeTooLong, Memory}
use Rattle.puffin_data.specs.Honesty.{StreamFacts}
use Rattle.puffin_frames.specs.declared.frame_data.meta.FrameMeta.{FrameMeta}

-- the size of all streams, in bytes
abbrev pub total_bytes : List StreamFacts → ℕ
total_bytes infos = sum_by (λ info. length info.bytes) infos

-- the number of scopes in all streams
abbrev pub total_scopes : List StreamFacts → ℕ
total_scopes infos = sum_by (λ info. info.num_scopes) infos

-- the least start of all, or i64's greatest number if there is none
abbrev pub joined_start : List StreamFacts → ℤ
joined_start infos = fold (λ least info. int_min least info.range_ns.0) (pos (2 ^ 63 - 1)) infos

-- the greatest stop of all, or i64's least number if there is none
abbrev pub joined_stop : List StreamFacts → ℤ
joined_stop infos =
    fold (λ greatest info. int_max greatest info.range_ns.1) (negsuc (2 ^ 63 - 1)) infos

-- the range from the least start to the greatest stop
abbrev pub joined_range : List StreamFacts → ℤ × ℤ
joined_range infos = (joined_start infos, joined_stop infos)

-- both totals fit usize
pub record TotalsFit (infos : List StreamFacts) : Type 0 where
  pub bytes : total_bytes infos < 2 ^ 64
  pub scopes : total_scopes infos < 2 ^ 64

-- the start isn't greater than the stop
abbrev pub IsOrdered : ℤ × ℤ → Type 0
IsOrdered range = range.0 ≤ℤ range.1

-- the time from start to stop fits i64
abbrev pub DurationFits : ℤ × ℤ → Type 0
DurationFits range = FitsSigned w64 (range.1 -ℤ range.0)

-- a range that a frame can have
abbrev pub IsRange : ℤ × ℤ → Type 0
IsRange range = IsOrdered range × DurationFits range

-- a frame can be made of these infos: their totals fit, and their joined range is one that a frame can have
pub record MakeFrame (infos : List StreamFacts) : Type 0 where
  pub totals : TotalsFit infos
  pub ordered : IsOrdered (joined_range infos)
  pub duration : DurationFits (joined_range infos)

-- Why no frame can be made from these infos: the first cause that applies.
abbrev pub RefusesFrame : List StreamFacts → Error → Type 0
RefusesFrame infos cause =
    ((cause ≡ TooLarge) × ¬ TotalsFit infos)
    ⊎ ((cause ≡ Empty) × TotalsFit infos × ¬ IsOrdered (joined_range infos))
    ⊎ ((cause ≡ RangeTooLong) × TotalsFit infos × IsOrdered (joined_range infos)
    × ¬ DurationFits (joined_range infos))
    ⊎ ((cause ≡ Memory) × MakeFrame infos)

-- the meta of a frame with this index, made from these infos
abbrev pub meta_of : ℕ → List StreamFacts → FrameMeta
meta_of index infos = record {
  frame_index = index;
  range_ns = joined_range infos;
  num_bytes = total_bytes infos;
  num_scopes = total_scopes infos;
}
