-- What the listings of this crate take.
use Rattle.std.specs.Prelude.{◌≡◌, ℕ, Bool, true, false, Result, Ok, Err, List, [], ◌++◌, fold, take}
use Rattle.std.proofs.Common.{refl, sym, ap, ◌∙◌}
use Rattle.std.proofs.lemmas.List.Sums.{fold-append}
use Rattle.puffin_data.specs.declared.file_error.FileError.{FileError}
use Rattle.puffin_data.specs.declared.file_error.FileError.TheVariants as file
use Rattle.puffin_threads.specs.Thread.ThreadKey.{by_key}
use Rattle.puffin_look.specs.OpenFrame.{OpenFrame}
use Rattle.puffin_look.specs.ThreadLines.{with_frame}
use Rattle.puffin_look.specs.FrameLines.{frame_row}
use Rattle.puffin_look.specs.Slowest.{with_row}
use Rattle.puffin_look.specs.declared.slowest.Slowest.{Slowest}
use Rattle.puffin_view.specs.declared.thread_totals.AllTotals.{AllTotals}

-- ---- threads

-- the totals are those with these frames, and nothing was printed
pub record TakesTotals (old : AllTotals) (frames : List OpenFrame) (text : List ℕ)
    (new : AllTotals) : Type 0 where
  pub none : text ≡ []
  pub totals : by_key new.totals.entries ≡ fold with_frame (by_key old.totals.entries) frames

pub totals_none : (v : AllTotals) → TakesTotals v [] [] v
totals_none v = record { none = refl; totals = refl }

pub totals_more : (u v w : AllTotals) (xs ys : List OpenFrame) (s t : List ℕ) → TakesTotals u xs s v →
    TakesTotals v ys t w → TakesTotals u (xs ++ ys) (s ++ t) w
totals_more u v w xs ys s t a b = record {
  none = ap (λ (r : List ℕ). r ++ t) a.none ∙ b.none;
  totals = b.totals ∙ ap (λ m. fold with_frame m ys) a.totals
      ∙ sym (fold-append with_frame (by_key u.totals.entries) xs ys);
}

-- ---- the slowest frames

-- the rows are those with these frames, and nothing was printed
pub record TakesRows (old : Slowest) (frames : List OpenFrame) (text : List ℕ)
    (new : Slowest) : Type 0 where
  pub none : text ≡ []
  pub limit : new.limit ≡ old.limit
  pub rows : new.rows.items
      ≡ fold (λ rows frame. take old.limit (with_row rows (frame_row frame))) old.rows.items frames

pub rows_none : (v : Slowest) → TakesRows v [] [] v
rows_none v = record { none = refl; limit = refl; rows = refl }

pub rows_more : (u v w : Slowest) (xs ys : List OpenFrame) (s t : List ℕ) → TakesRows u xs s v →
    TakesRows v ys t w → TakesRows u (xs ++ ys) (s ++ t) w
rows_more u v w xs ys s t a b = record {
  none = ap (λ (r : List ℕ). r ++ t) a.none ∙ b.none;
  limit = b.limit ∙ a.limit;
  rows = b.rows
      ∙ (λ i. fold (λ rows frame. take (a.limit i) (with_row rows (frame_row frame))) (a.rows i) ys)
      ∙ sym (
      fold-append (λ rows frame. take u.limit (with_row rows (frame_row frame))) u.rows.items xs ys);
}

-- whether a call failed because the reader, the writer or memory did
abbrev pub fails_outside : {X : Type 0} → Result X FileError → Bool
fails_outside (Ok done) = false
fails_outside (Err file.Io) = true
fails_outside (Err file.Memory) = true
fails_outside (Err _) = false
