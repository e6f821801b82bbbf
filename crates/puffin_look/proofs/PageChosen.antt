-- Which frames a page has, one frame after the other.
use Rattle.std.proofs.Common.{◌≡◌, ℕ, ◌-◌, ◌^◌, ◌≤◌, false, List, [], ◌∷◌, ◌++◌, length, take, Option, Result, Ok, Err, inl, inr, refl, ap, sym, ◌∙◌}
use Rattle.std.proofs.lemmas.List.{map-append}
use Rattle.std.proofs.lemmas.List.Sums.{fold-append}
use Rattle.puffin_data.specs.declared.file_error.FileError.{FileError}
use Rattle.puffin_data.specs.declared.file_error.FileError.TheVariants as file
use Rattle.puffin_data.specs.Device.{FailsAt}
use Rattle.puffin_frames.specs.declared.frame_data.frame.FrameData.{FrameData}
use Rattle.puffin_frames.specs.Frame.Contents.{packet_fields}
use Rattle.puffin_frames.specs.Packet.Stored.{Stored}
use Rattle.puffin_frames.specs.Packet.Next.{stored_of, IsFresh}
use Rattle.puffin_view.specs.View.ViewedFrames.{fields_of}
use Rattle.puffin_view.specs.View.File.{frame_stored, file_at, FailsToRead}
use Rattle.puffin_view.specs.View.FrameFile.{frame_at, HasGiven}
use Rattle.puffin_look.specs.PageChoice.{row_of, rows_of, with_row, slowest, recent, fitting, candidates, IsPageChoice}
use Rattle.puffin_look.specs.inner.PageChoices.{AddsRow, HasRows, HasRowsOf, ReadsRows}
use Rattle.puffin_look.specs.inner.Taken.{fails_outside}
use Rattle.puffin_look.specs.declared.page_choice.PageLimits.{PageLimits}
use Rattle.puffin_look.specs.declared.page_choice.Row.{Row}
use Rattle.puffin_look.specs.declared.page_choice.Rows.{Rows}
use Rattle.puffin_view.proofs.lemmas.FrameStreams.{said_fresh}
use Rattle.puffin_look.proofs.ThreadsPrinted.{not_outside}

-- ---- one frame more

-- the rows of the frames so far and of the next one
pub rows_more : (v u : Rows) (frame : FrameData) (stored : List Stored) → IsFresh frame → HasRows v stored
    → AddsRow v u (row_of (packet_fields frame)) → u.limits ≡ v.limits → HasRows u (stored ++ stored_of frame ∷ [])
rows_more v u frame stored fresh h a limits =
    let s = stored_of frame in
    let r : Row = row_of (fields_of (frame_stored s)) in
    let row : row_of (packet_fields frame) ≡ r = ap row_of (said_fresh frame fresh) in
    let all : rows_of (stored ++ s ∷ []) ≡ rows_of stored ++ r ∷ [] = map-append (λ s. row_of (fields_of (frame_stored s))) stored
    (s ∷ []) in
    record {
      recent = a.recent ∙ (λ i. take v.limits.recent (row i ∷ h.recent i))
          ∙ sym (fold-append (λ last row. take v.limits.recent (row ∷ last)) [] (rows_of stored) (r ∷ []))
          ∙ ap (recent v.limits.recent) (sym all)
          ∙ ap (λ (l : PageLimits). recent l.recent (rows_of (stored ++ s ∷ []))) (sym limits);
      slow = a.slow ∙ (λ i. take v.limits.slow (with_row (h.slow i) (row i)))
          ∙ sym (fold-append (λ slow row. take v.limits.slow (with_row slow row)) [] (rows_of stored) (r ∷ []))
          ∙ ap (slowest v.limits.slow) (sym all)
          ∙ ap (λ (l : PageLimits). slowest l.slow (rows_of (stored ++ s ∷ []))) (sym limits);
    }

-- ---- a file

module _ (unread left : Option (List ℕ)) (v : Rows) where
  -- the file doesn't begin with its letters, so no frame was read
  pub not_begun : (e : FileError) → v.recent.items ≡ [] → v.slow.items ≡ [] → FailsToRead file_at unread left e → HasRowsOf v unread left
  not_begun e last slow fails =
      record { stored = []; begins = inl refl; end = inr (inr (e, (fails, refl))); rows = record { recent = last; slow = slow } }

  module _ (now : Option (List ℕ)) (stored : List Stored) (given : HasGiven unread now stored) (rows : HasRows v stored) where
    -- the next frame can't be read
    pub stops_at : (e : FileError) → FailsAt e now left frame_at → HasRowsOf v unread left
    stops_at e fails = record { stored = stored; begins = inr (now, given); end = inr (inl (e, (now, given, inl fails))); rows = rows }

    -- there are too many frames
    pub too_many : 2 ^ 64 - 1 ≤ length stored → HasRowsOf v unread left
    too_many full =
        record {
          stored = stored;
          begins = inr (
            now,
            given,
          );
          end = inr (inl (file.Truncated, (now, given, inr (full, refl))));
          rows = rows;
        }

-- the reader and memory didn't fail
pub read_anyway : (unread left : Option (List ℕ)) (v : Rows) (r : Result (Unit {0}) FileError) → fails_outside r ≡ false
    → ReadsRows unread left v r → HasRowsOf v unread left
read_anyway unread left v (Ok x) quiet h = h
read_anyway unread left v (Err e) quiet (inl outside) = absurd (not_outside e quiet outside)
read_anyway unread left v (Err e) quiet (inr h) = h

-- the frames that fit are chosen
pub chosen_of : (limits : PageLimits) (unread left : Option (List ℕ)) (v : Rows) (indices : List ℕ) → v.limits ≡ limits
    → HasRowsOf v unread left → indices ≡ fitting v.limits.bytes (v.slow.items ++ v.recent.items)
    → IsPageChoice limits unread left indices
chosen_of limits unread left v indices same h is = record {
  stored = h.stored;
  begins = h.begins;
  end = h.end;
  chosen = is ∙ (λ i. fitting v.limits.bytes (h.rows.slow i ++ h.rows.recent i))
      ∙ ap (λ (l : PageLimits). fitting l.bytes (candidates l (rows_of h.stored))) same;
}
