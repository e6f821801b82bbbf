-- Worked values of the definitions.
use Rattle.std.proofs.Common.{◌≡◌, ℕ, ◌+◌, pos, negsuc, List, [], ◌∷◌, take, zero, suc, refl}
use Rattle.puffin_data.specs.Forest.{Forest, empty, node}
use Rattle.puffin_merge.specs.Merge.Occurrences.{Label, Occurrence, FrameScopes, occurrences}
use Rattle.puffin_merge.specs.Merge.Pieces.{merged_at}
use Rattle.puffin_merge.specs.Merge.Starts.{earliest_starts}

-- a scope without a text
no_text : (n : ℕ) → take {A = ℕ} n [] ≡ []
no_text zero = refl
no_text (suc n) = refl

abbrev scope : ℕ → ℕ → ℕ → Forest → Forest → Forest
scope id from to children others = node (record { id = id; start = pos from; stop = pos to; text = [] }) children others

abbrev label : ℕ → Label
label id = record { id = id; text = [] }

abbrev round : ℕ → Forest → Forest
round n others =
    scope 1 (n + 100) (n + 200) empty
    (scope 2 (n + 200) (n + 900) (scope 3 (n + 400) (n + 600) empty
    (scope 4 (n + 600) (n + 800) (scope 5 (n + 600) (n + 700) empty empty) empty)) others)

abbrev two_rounds : List Occurrence
two_rounds = occurrences (record { start = pos 100; forest = round 0 (round 1000 empty) } ∷ [])

first_top : merged_at two_rounds (label 1 ∷ [])
    ≡ record { number = 2; total = 200; greatest = 100; own_start = pos 100 }
first_top = simp (no_text)

second_top : merged_at two_rounds (label 2 ∷ [])
    ≡ record { number = 2; total = 1400; greatest = 700; own_start = pos 200 }
second_top = simp (no_text)

child : merged_at two_rounds (label 2 ∷ label 4 ∷ [])
    ≡ record { number = 2; total = 400; greatest = 200; own_start = pos 400 }
child = simp (no_text)

grandchild : merged_at two_rounds (label 2 ∷ label 4 ∷ label 5 ∷ [])
    ≡ record { number = 2; total = 200; greatest = 100; own_start = pos 0 }
grandchild = simp (no_text)

-- the second starts where the first ends: 100 and 200 long, then 300
top_starts : earliest_starts (pos 0) (record { own_start = pos 100; duration = 200 }
    ∷ record { own_start = pos 200; duration = 1400 } ∷ []) ≡ pos 100 ∷ pos 300 ∷ []
top_starts = refl

-- a child that starts before its parent
early : List Occurrence
early = occurrences (record { start = pos 100; forest = scope 1 100 200 (scope 2 95 150 empty empty) empty } ∷ [])

early_start : (merged_at early (label 1 ∷ label 2 ∷ [])).own_start ≡ negsuc 4
unfolding early
early_start = simp (no_text)

early_drawn : earliest_starts (pos 0) (record { own_start = negsuc 4; duration = 55 } ∷ []) ≡ pos 0 ∷ []
early_drawn = refl

-- three frames: the last has an earlier own start once its range is taken off
in_three_frames : ℕ → ℕ → ℕ → FrameScopes
in_three_frames range from to = record { start = pos range; forest = scope 1 from to empty empty }

three : merged_at
    (occurrences (in_three_frames 100 100 300 ∷ in_three_frames 1100 1100 1300 ∷ in_three_frames 2100 2100 2110 ∷ []))
    (label 1 ∷ []) ≡ record { number = 3; total = 410; greatest = 200; own_start = pos 100 }
unfolding in_three_frames
three = simp (no_text)

-- the third frame first
third_first : merged_at
    (occurrences (in_three_frames 2100 2100 2110 ∷ in_three_frames 100 100 300 ∷ in_three_frames 1100 1100 1300 ∷ []))
    (label 1 ∷ []) ≡ record { number = 3; total = 410; greatest = 200; own_start = pos 2100 }
unfolding in_three_frames
third_first = simp (no_text)
