-- Letting go of the frames of ranks, one after another.
use Rattle.std.proofs.Common.{◌≡◌, ℕ, zero, suc, Bool, true, false, List, [], ◌∷◌, ◌++◌, ◌-◌, length, take, drop, map, refl, sym, ap, subst, ◌∙◌, arith, append_assoc, append-nil}
use Rattle.std.proofs.Math.Seq.{drop-nil}
use Rattle.std.proofs.lemmas.List.{take_all, length-drop}
use Rattle.std.specs.Prelude.{nat_eq, min}
use Rattle.std.specs.List.{list_any}
use Rattle.std.specs.FinMap as fin
use Rattle.puffin_view.specs.declared.profile_view.slow_rank.SlowRank.{SlowRank}
use Rattle.puffin_view.specs.View.Ranking.{rank_index}
use Rattle.puffin_view.specs.inner.Held.{HeldFrames}
use Rattle.puffin_view.specs.inner.Ranks.{LetsGo}
use Rattle.puffin_view.proofs.Orders.{map-more}
use Rattle.puffin_view.proofs.Cutting.{LetsGo-kept, LetsGo-more, any_has}

-- of the ranks of a list, all before those left are gone
pub record LetsGoSome (old : HeldFrames) (recent : List ℕ) (whole : List SlowRank) (new : HeldFrames)
    (left : List SlowRank) : Type 0 where
  pub gone : List SlowRank
  pub parts : gone ++ left ≡ whole
  pub lets : LetsGo old recent (map rank_index gone) new

-- one more rank, whose frame is let go where it isn't recent
slow_step : (old mid new : HeldFrames) (recent : List ℕ) (gone : List SlowRank) (r : SlowRank) (b : Bool)
    → LetsGo old recent (map rank_index gone) mid → b ≡ list_any (λ y. nat_eq y (rank_index r)) recent
    → (b ≡ false → new ≡ fin.remove mid (rank_index r)) → (b ≡ true → new ≡ mid)
    → LetsGo old recent (map rank_index gone ++ rank_index r ∷ []) new
slow_step old mid new recent gone r true go is off on =
    let P : HeldFrames → Type 0 = λ m. LetsGo old recent (map rank_index gone ++ rank_index r ∷ []) m in
    subst P (sym (on refl)) (LetsGo-kept old mid recent (map rank_index gone) (rank_index r) go
    (sym (any_has (rank_index r) recent) ∙ sym is))
slow_step old mid new recent gone r false go is off on = LetsGo-more old mid new recent (map rank_index gone)
    (rank_index r) go (off refl) (sym (any_has (rank_index r) recent) ∙ sym is)

-- one more of the ranks that are cut off: its frame is dropped unless it is recent
pub one_more_gone : (old mid new : HeldFrames) (recent : List ℕ) (whole left rest : List SlowRank)
    (r : SlowRank) (b : Bool) → LetsGoSome old recent whole mid left → left ≡ r ∷ rest
    → b ≡ list_any (λ y. nat_eq y (rank_index r)) recent → (b ≡ false → new ≡ fin.remove mid (rank_index r))
    → (b ≡ true → new ≡ mid)
    → LetsGoSome old recent whole new rest
one_more_gone old mid new recent whole left rest r b h e is off on =
    let P : List ℕ → Type 0 = λ gone. LetsGo old recent gone new in
    record {
      gone = h.gone ++ r ∷ [];
      parts = append_assoc h.gone (r ∷ []) rest ∙ ap (λ rs. h.gone ++ rs) (sym e) ∙ h.parts;
      lets = subst P (sym (map-more rank_index h.gone r)) (slow_step old mid new recent h.gone r b h.lets is off on);
    }

none_left : (rs : List SlowRank) → length rs ≡ 0 → rs ≡ []
none_left [] e = refl
none_left (r ∷ rs) e = cc

-- all ranks that are cut off are done
pub all_gone : (old new : HeldFrames) (recent : List ℕ) (whole left those : List SlowRank)
    → LetsGoSome old recent whole new left → length left ≡ 0 → whole ≡ those
    → LetsGo old recent (map rank_index those) new
all_gone old new recent whole left those h e same =
    let P : List SlowRank → Type 0 = λ rs. LetsGo old recent (map rank_index rs) new in
    subst P (sym (append-nil h.gone) ∙ ap (λ rs. h.gone ++ rs) (sym (none_left left e)) ∙ h.parts ∙ same) h.lets

-- the part of a list from a place on
no_first : (max first : ℕ) → suc first ≡ min zero max → ⊥
no_first max first e = omega arith

no_least : (max n : ℕ) → zero ≡ min (suc max) (suc n) → ⊥
no_least max n e = omega arith

drop_least : (rs : List SlowRank) (max first : ℕ) → first ≡ min max (length rs) → drop first rs ≡ drop max rs
drop_least [] max first e = drop-nil first ∙ sym (drop-nil max)
drop_least (r ∷ rs) zero zero e = refl
drop_least (r ∷ rs) zero (suc first) e = absurd (no_first (length (r ∷ rs)) first e)
drop_least (r ∷ rs) (suc max) zero e = absurd (no_least max (length rs) e)
drop_least (r ∷ rs) (suc max) (suc first) e = drop_least rs max first (omega arith)

-- the ranks from the limit on are those that are cut off
pub from_place : (rs : List SlowRank) (len first max : ℕ) → len ≡ length rs → first ≡ min max len
    → take (len - first) (drop first rs) ≡ drop max rs
from_place rs len first max e f =
    take_all (len - first) (drop first rs) (omega (arith, length-drop first rs))
    ∙ drop_least rs max first (f ∙ ap (min max) e)
