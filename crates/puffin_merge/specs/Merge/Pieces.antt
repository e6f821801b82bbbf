-- The number, sum, greatest duration and least start of a path's occurrences.
use Rattle.std.specs.Prelude.{ℕ, ℤ, pos, max, List, [], ◌∷◌, length, filter, fold, sum_by}
use Rattle.std.specs.Int.{int_min}
use Rattle.puffin_merge.specs.Merge.Occurrences.{Occurrence, Path, is_path}

-- the occurrences with a path
abbrev pub pieces_at : List Occurrence → Path → List Occurrence
pieces_at all path = filter (λ occurrence. is_path occurrence.path path) all

-- the sum of the pieces' durations
abbrev pub total_of : List Occurrence → ℕ
total_of pieces = sum_by (λ piece. piece.duration) pieces

-- the duration of the longest piece, or 0 if there are no pieces
abbrev pub greatest_of : List Occurrence → ℕ
greatest_of pieces = fold (λ greatest piece. max greatest piece.duration) 0 pieces

-- the least of the pieces' own starts, or 0 if there are no pieces
abbrev pub least_start_of : List Occurrence → ℤ
least_start_of [] = pos 0
least_start_of (piece ∷ pieces) =
    fold (λ least next. int_min least next.own_start) piece.own_start pieces

-- the sums of a path: its pieces' number, total duration, greatest duration and least own start
pub record Merged : Type 0 where
  pub number : ℕ
  pub total : ℕ
  pub greatest : ℕ
  pub own_start : ℤ

-- the sums of these pieces
abbrev pub merged_of : List Occurrence → Merged
merged_of pieces = record {
  number = length pieces;
  total = total_of pieces;
  greatest = greatest_of pieces;
  own_start = least_start_of pieces;
}

-- the sums of a path
abbrev pub merged_at : List Occurrence → Path → Merged
merged_at all path = merged_of (pieces_at all path)
