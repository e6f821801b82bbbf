-- Steps of the listings.
use Rattle.std.proofs.Common.{◌≡◌, ℕ, suc, ◌<◌, Bool, true, false, cond, List, ◌∷◌, length, map, Option, Some, None, sym, ap, ◌∙◌, arith}
use Rattle.std.specs.Prelude.{nat_eq}
use Rattle.std.specs.List.{filter, filter_map, cons_option, list_any}
use Rattle.std.specs.Option.{option_map}
use Rattle.std.specs.Iterator.{MakesProgress, item_count}
use Rattle.puffin_view.specs.declared.profile_view.slow_rank.SlowRank.{SlowRank}
use Rattle.puffin_view.specs.View.ViewedFrames.{Frame, index_of}
use Rattle.puffin_view.specs.View.Ranking.{rank_index, has_number}
use Rattle.puffin_view.proofs.Cutting.{any_ranks}

-- an element with a value is the next one that is listed
pub given : {A B : Type 0} (h : A → Option B) (rest rest' : List A) (all : List B) (a : A) (b : B)
    → filter_map h rest ≡ all → rest ≡ a ∷ rest' → h a ≡ Some b → all ≡ b ∷ filter_map h rest'
given h rest rest' all a b e step got =
    sym e ∙ ap (filter_map h) step ∙ ap (λ o. cons_option o (filter_map h rest')) got

-- an element without a value is skipped
pub passed : {A B : Type 0} (h : A → Option B) (rest rest' : List A) (all : List B) (a : A) → filter_map h rest ≡ all
    → rest ≡ a ∷ rest' → h a ≡ None → filter_map h rest' ≡ all
passed h rest rest' all a e step got =
    ap (λ o. cons_option o (filter_map h rest')) (sym got) ∙ ap (filter_map h) (sym step) ∙ e

-- each listed one leaves fewer
pub fewer : {B : Type 0} (all rest : List B) (b : B) → all ≡ b ∷ rest → length rest < length all
fewer all rest b e = let n : length all ≡ suc (length rest) = ap length e in omega arith

-- an item lowers the number of those left
pub made : {S A B : Type 0} (left : S → List B) (s t : S) (x : A) (b : B) → left s ≡ b ∷ left t
    → MakesProgress (λ (s : S). Unit {0}) (item_count left) s (Some x) t
made left s t x b e = record { on = λ h. (tt, tt, fewer (left s) (left t) b e); keeps = tt; rests = λ h. tt }

left_more : (p : Frame → Bool) (b : Bool) (f : Frame) (fs : List Frame) → p f ≡ b
    → filter p (f ∷ fs) ≡ cond b (f ∷ filter p fs) (filter p fs)
left_more p b f fs e = ap (λ c. cond c (f ∷ filter p fs) (filter p fs)) e

-- a frame that passes the test is the next one that is listed
pub slow_given : {A : Type 0} (g : A → Frame) (p : Frame → Bool) (rest rest' : List A) (all : List Frame) (a : A)
    → filter p (map g rest) ≡ all → rest ≡ a ∷ rest' → p (g a) ≡ true → all ≡ g a ∷ filter p (map g rest')
slow_given g p rest rest' all a e step is =
    sym e ∙ ap (λ l. filter p (map g l)) step ∙ left_more p true (g a) (map g rest') is

-- a frame that fails the test is skipped
pub slow_passed : {A : Type 0} (g : A → Frame) (p : Frame → Bool) (rest rest' : List A) (all : List Frame) (a : A)
    → filter p (map g rest) ≡ all → rest ≡ a ∷ rest' → p (g a) ≡ false → filter p (map g rest') ≡ all
slow_passed g p rest rest' all a e step is =
    sym (left_more p false (g a) (map g rest') is) ∙ ap (λ l. filter p (map g l)) (sym step) ∙ e

-- the search of the ranks tells whether a frame's index is among them
pub is_slow : (slow : List SlowRank) (i : ℕ) (f g : Frame) (r b : Bool) → i ≡ index_of g → g ≡ f
    → r ≡ list_any (λ s. nat_eq s.frame_index i) slow → r ≡ b → has_number (index_of f) (map rank_index slow) ≡ b
is_slow slow i f g r b e same found known = ap (λ k. has_number k (map rank_index slow)) (sym (e ∙ ap index_of same))
    ∙ sym (any_ranks i slow) ∙ sym found ∙ known

-- a look-up that finds a frame
pub got_some : {A : Type 0} (g : A → Frame) (o : Option A) (p : Option Frame) (a : A) → option_map g o ≡ p
    → o ≡ Some a → p ≡ Some (g a)
got_some g o p a e is = sym e ∙ ap (option_map g) is

-- a look-up that finds none
pub got_none : {A : Type 0} (g : A → Frame) (o : Option A) (p : Option Frame) → option_map g o ≡ p → o ≡ None → p ≡ None
got_none g o p e is = sym e ∙ ap (option_map g) is
