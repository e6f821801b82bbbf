-- The slowest frames, of which only so many are kept.
use Rattle.std.proofs.Common.{◌≡◌, ℕ, ℤ, zero, suc, ◌+◌, ◌≤◌, Bool, true, false, List, [], ◌∷◌, length, take, map, Option, Some, None, refl, ap, sym, ◌∙◌, arith}
use Rattle.std.specs.Prelude.{fold, insert, if◌then◌else◌, unwrap_or, nat_lt, cond, not, position}
use Rattle.std.specs.List.{position_or_len}
use Rattle.std.proofs.lemmas.Bool.Decides.{nat_tests}
use Rattle.puffin_look.specs.OpenFrame.{OpenFrame}
use Rattle.puffin_look.specs.FrameLines.{frame_row}
use Rattle.puffin_look.specs.Slowest.{is_faster_by, with_row_by, with_row}
use Rattle.puffin_look.specs.declared.frames.FrameRow.{FrameRow}

module _ {X : Type 0} where
  -- rows that a later limit leaves out may be left out before
  take_twice : (n : ℕ) (xs : List X) → take n (take (suc n) xs) ≡ take n xs
  take_twice zero xs = refl
  take_twice (suc n) [] = refl
  take_twice (suc n) (x ∷ xs) = ap (λ ys. x ∷ ys) (take_twice n xs)

  take_behind : (n : ℕ) (x : X) (xs : List X) → take n (x ∷ take n xs) ≡ take n (x ∷ xs)
  take_behind zero x xs = refl
  take_behind (suc n) x xs = ap (λ ys. x ∷ ys) (take_twice n xs)

  at_most : (p : X → Bool) (xs : List X) → position_or_len p xs ≤ length xs
  at_most p [] = omega arith
  at_most p (x ∷ xs) =
      let rest = at_most p xs in elim (p x) as (λ b. cond (not b) (1 + position_or_len p xs) 0
      ≤ suc (length xs)) [ true ↦ omega arith | false ↦ omega (arith, rest) ]

-- the place that was found, or the end
or_end : (b : Bool) (n m : ℕ) → nat_lt n m ≡ b → n ≤ m → unwrap_or (cond b (Some n) None) m ≡ n
or_end true n m h most = refl
or_end false n m h most = grind (arith, nat_tests)

module _ {X : Type 0} (d : X → ℤ) where
  -- rows that aren't kept don't count later
  take_with : (n : ℕ) (xs : List X) (r : X) → take n (with_row_by d (take n xs) r) ≡ take n (with_row_by d xs r)
  take_with zero xs r = refl
  take_with (suc n) [] r = refl
  take_with (suc n) (x ∷ xs) r =
      elim (is_faster_by d r x) as (λ b. take (suc n) (if b then r ∷ (x ∷ take n xs) else x ∷ with_row_by d (take n xs) r)
      ≡ take (suc n) (if b then r ∷ (x ∷ xs) else x ∷ with_row_by d xs r)) [
        | true ↦ ap (λ ys. r ∷ ys) (take_behind n x xs)
        | false ↦ ap (λ ys. x ∷ ys) (take_with n xs r)
      ]

  -- keeping the first rows after each one keeps the first rows of all
  pub kept_by : {Y : Type 0} (f : Y → X) (n : ℕ) (ys : List Y) (xs : List X)
      → fold (λ rows y. take n (with_row_by d rows (f y))) (take n xs) ys ≡ take n (fold (with_row_by d) xs (map f ys))
  kept_by f n [] xs = refl
  kept_by f n (y ∷ ys) xs =
      ap (λ rows. fold (λ rows y. take n (with_row_by d rows (f y))) rows ys) (take_with n xs (f y))
      ∙ kept_by f n ys (with_row_by d xs (f y))

  -- ---- where a row is put

  -- in front of the first row that it is faster than
  placed : (rows : List X) (row : X) → with_row_by d rows row ≡ insert rows (position_or_len (is_faster_by d row) rows) row
  placed [] row = refl
  placed (x ∷ xs) row =
      let n = position_or_len (is_faster_by d row) xs in
      let next : suc n ≡ 1 + n = omega arith in
      elim (is_faster_by d row x) as (λ b. (if b then row ∷ (x ∷ xs) else x ∷ with_row_by d xs row)
      ≡ insert (x ∷ xs) (cond (not b) (1 + n) 0) row) [
        | true ↦ refl
        | false ↦ ap (λ ys. x ∷ ys) (placed xs row) ∙ ap (λ k. insert (x ∷ xs) k row) next
      ]

  -- as the code finds it
  pub placed_by : (rows : List X) (row : X) (o : Option ℕ) (place : ℕ) → o ≡ position (is_faster_by d row) rows
      → place ≡ unwrap_or o (length rows) → with_row_by d rows row ≡ insert rows place row
  placed_by rows row o place is at =
      let p = is_faster_by d row in
      placed rows row ∙ ap (λ (k : ℕ). insert rows k row)
      (sym (at ∙ ap (λ (q : Option ℕ). unwrap_or q (length rows)) is
      ∙ or_end _ (position_or_len p rows) (length rows) refl (at_most p rows)))

-- ---- the rows of frames

pub kept_all : (n : ℕ) (frames : List OpenFrame) (xs : List FrameRow)
    → fold (λ rows frame. take n (with_row rows (frame_row frame))) (take n xs) frames ≡ take n
    (fold with_row xs (map frame_row frames))
kept_all n frames xs = kept_by (λ (row : FrameRow). row.duration_ns) frame_row n frames xs
