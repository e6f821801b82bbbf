-- Frames counted one after the other.
use Rattle.std.proofs.Common.{◌≡◌, ℕ, suc, ◌+◌, cond, List, [], ◌∷◌, length, Bor, sym, ap, ◌∙◌, arith}
use Rattle.std.specs.List.{fold, sum_by}
use Rattle.std.specs.declared.sync.Arc.{Arc}
use Rattle.std.proofs.lemmas.List.Sums.{sum_by-cons}
use Rattle.puffin_frames.specs.declared.frame_data.frame.FrameData.{FrameData}
use Rattle.puffin_view.specs.declared.profile_view.stats.FrameStats.{FrameStats}
use Rattle.puffin_view.specs.View.ViewedFrames.{Frame, ram_of}
use Rattle.puffin_view.specs.View.FrameOf.{shared_frame, lent_frames}
use Rattle.puffin_view.specs.View.Stats.{cut, stats_of, with_frame}

cut-more : (a b : ℕ) → cut (cut a + b) ≡ cut (a + b)
cut-more a b = omega arith

abbrev cut_all : ℕ → ℕ → ℕ → FrameStats
cut_all a b c = record { frames = cut a; unpacked_frames = cut b; bytes_of_ram_used = cut c }

abbrev number : Frame → ℕ
number f = cond f.is_unpacked 1 0

with-more : (a b c : ℕ) (f : Frame) → with_frame (cut_all a b c) f ≡ cut_all (a + 1) (b + number f) (c + ram_of f)
with-more a b c f = λ i. record {
  frames = cut-more a 1 i;
  unpacked_frames = cut-more b (number f) i;
  bytes_of_ram_used = cut-more c (ram_of f) i;
}

abbrev pub with_lent : {A : Type 0} → FrameStats → Bor (Arc FrameData A) → FrameStats
with_lent s a = with_frame s (shared_frame a.now)

-- the fold from any numbers, each cut at the greatest `usize`
from : {A : Type 0} (a b c : ℕ) (xs : List (Bor (Arc FrameData A))) → fold with_lent (cut_all a b c) xs
    ≡ cut_all (a + length (lent_frames xs)) (b + sum_by number (lent_frames xs)) (c + sum_by ram_of (lent_frames xs))
from a b c [] = λ i.
    record { frames = cut (none a i); unpacked_frames = cut (none b i); bytes_of_ram_used = cut (none c i) } where
      none : (n : ℕ) → n ≡ n + 0
      none n = omega arith
from a b c (x ∷ xs) =
    let f : Frame = shared_frame x.now in
    let fs : List Frame = lent_frames xs in
    ap (λ s. fold with_lent s xs) (with-more a b c f) ∙ from (a + 1) (b + number f) (c + ram_of f) xs
    ∙ (λ i. record {
      frames = cut (one a (length fs) i);
      unpacked_frames = cut ((group b (number f) (sum_by number fs)
          ∙ ap (λ n. b + n) (sym (sum_by-cons number f fs))) i);
      bytes_of_ram_used =
          cut ((group c (ram_of f) (sum_by ram_of fs) ∙ ap (λ n. c + n) (sym (sum_by-cons ram_of f fs))) i);
    }) where
      one : (n m : ℕ) → (n + 1) + m ≡ n + suc m
      one n m = omega arith

      group : (n m k : ℕ) → (n + m) + k ≡ n + (m + k)
      group n m k = omega arith

-- a fold over frames makes their statistics
pub counted : {A : Type 0} (s : FrameStats) (xs : List (Bor (Arc FrameData A))) → s ≡ stats_of []
    → fold with_lent s xs ≡ stats_of (lent_frames xs)
counted s xs e =
    ap (λ t. fold with_lent t xs) e ∙ from 0 0 0 xs ∙ (λ i. cut_all (zero_more (length (lent_frames xs)) i)
    (zero_more (sum_by number (lent_frames xs)) i) (zero_more (sum_by ram_of (lent_frames xs)) i)) where
      zero_more : (n : ℕ) → 0 + n ≡ n
      zero_more n = omega arith
