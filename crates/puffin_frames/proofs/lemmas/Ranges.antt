-- The joined range of infos.
use Rattle.std.proofs.Common.{◌≡◌, List, [], ◌∷◌, ◌++◌, sym, ap, ◌∙◌, arith, ℤ, ◌≤ℤ◌, pos, negsuc, ◌-◌, ◌^◌}
use Rattle.std.specs.Int.{int_min, int_max}
use Rattle.std.proofs.lemmas.Int.{ints, clamps}
use Rattle.puffin_data.specs.Honesty.{StreamFacts}
use Rattle.puffin_frames.specs.Frame.Sums.{joined_start, joined_stop}
use Rattle.puffin_frames.proofs.Joining.{start_from, stop_from}

-- what is there already is joined like a start of its own
start_from-min : (a b : ℤ) (infos : List StreamFacts) → start_from (int_min a b) infos ≡ int_min b (start_from a infos)
start_from-min a b [] = omega (arith, ints, clamps)
start_from-min a b (info ∷ xs) =
    start_from-min (int_min a b) info.range_ns.0 xs
    ∙ ap (int_min info.range_ns.0) (start_from-min a b xs)
    ∙ least_swap info.range_ns.0 b (start_from a xs)
    ∙ ap (int_min b) (sym (start_from-min a info.range_ns.0 xs))
  where
    least_swap : (a b c : ℤ) → int_min a (int_min b c) ≡ int_min b (int_min a c)
    least_swap a b c = omega (arith, ints, clamps)

stop_from-max : (a b : ℤ) (infos : List StreamFacts) → stop_from (int_max a b) infos ≡ int_max b (stop_from a infos)
stop_from-max a b [] = omega (arith, ints, clamps)
stop_from-max a b (info ∷ xs) =
    stop_from-max (int_max a b) info.range_ns.1 xs
    ∙ ap (int_max info.range_ns.1) (stop_from-max a b xs)
    ∙ greatest_swap info.range_ns.1 b (stop_from a xs)
    ∙ ap (int_max b) (sym (stop_from-max a info.range_ns.1 xs))
  where
    greatest_swap : (a b c : ℤ) → int_max a (int_max b c) ≡ int_max b (int_max a c)
    greatest_swap a b c = omega (arith, ints, clamps)

-- one more info
pub least_start-one : (info : StreamFacts) (infos : List StreamFacts) →
    joined_start (info ∷ infos) ≡ int_min info.range_ns.0 (joined_start infos)
least_start-one info infos = start_from-min (pos (2 ^ 63 - 1)) info.range_ns.0 infos

pub greatest_stop-one : (info : StreamFacts) (infos : List StreamFacts) →
    joined_stop (info ∷ infos) ≡ int_max info.range_ns.1 (joined_stop infos)
greatest_stop-one info infos = stop_from-max (negsuc (2 ^ 63 - 1)) info.range_ns.1 infos

-- the start of no infos is the greatest number, and their stop the least
pub least_in_range : (infos : List StreamFacts) → joined_start infos ≤ℤ pos (2 ^ 63 - 1)
least_in_range [] = omega (arith, ints)
least_in_range (info ∷ xs) = let one = least_start-one info xs in omega (arith, ints, clamps, one, least_in_range xs)

pub greatest_in_range : (infos : List StreamFacts) → negsuc (2 ^ 63 - 1) ≤ℤ joined_stop infos
greatest_in_range [] = omega (arith, ints)
greatest_in_range (info ∷ xs) = let one = greatest_stop-one info xs in omega (arith, ints, clamps, one, greatest_in_range xs)

-- a second list
pub least_start-append : (xs ys : List StreamFacts) → joined_start (xs ++ ys) ≡ int_min (joined_start xs) (joined_start ys)
least_start-append [] ys = omega (arith, ints, clamps, least_in_range ys)
least_start-append (info ∷ xs) ys =
    least_start-one info (xs ++ ys)
    ∙ ap (int_min info.range_ns.0) (least_start-append xs ys)
    ∙ joined info.range_ns.0 (joined_start xs) (joined_start ys)
    ∙ ap (λ z. int_min z (joined_start ys)) (sym (least_start-one info xs))
  where
    joined : (a b c : ℤ) → int_min a (int_min b c) ≡ int_min (int_min a b) c
    joined a b c = omega (arith, ints, clamps)

pub greatest_stop-append : (xs ys : List StreamFacts) → joined_stop (xs ++ ys) ≡ int_max (joined_stop xs) (joined_stop ys)
greatest_stop-append [] ys = omega (arith, ints, clamps, greatest_in_range ys)
greatest_stop-append (info ∷ xs) ys =
    greatest_stop-one info (xs ++ ys)
    ∙ ap (int_max info.range_ns.1) (greatest_stop-append xs ys)
    ∙ joined info.range_ns.1 (joined_stop xs) (joined_stop ys)
    ∙ ap (λ z. int_max z (joined_stop ys)) (sym (greatest_stop-one info xs))
  where
    joined : (a b c : ℤ) → int_max a (int_max b c) ≡ int_max (int_max a b) c
    joined a b c = omega (arith, ints, clamps)
