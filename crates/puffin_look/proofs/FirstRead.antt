-- Frames that are read for what they say together.
use Rattle.std.proofs.Common.{◌≡◌, ℕ, ◌-◌, ◌^◌, ◌≤◌, List, [], ◌∷◌, ◌++◌, length, Option, Result, Ok, Err, false, inl, inr, refl, sym, ◌∙◌}
use Rattle.std.proofs.lemmas.List.Sums.{fold-append}
use Rattle.puffin_data.specs.declared.file_error.FileError.{FileError}
use Rattle.puffin_data.specs.declared.file_error.FileError.TheVariants as file
use Rattle.puffin_data.specs.Device.{FailsAt}
use Rattle.puffin_frames.specs.declared.frame_data.frame.FrameData.{FrameData}
use Rattle.puffin_frames.specs.Frame.Contents.{packet_fields}
use Rattle.puffin_frames.specs.Packet.Stored.{Stored}
use Rattle.puffin_frames.specs.Packet.Next.{stored_of, IsFresh}
use Rattle.puffin_view.specs.View.File.{file_at, FailsToRead}
use Rattle.puffin_view.specs.View.FrameFile.{frame_at, HasGiven}
use Rattle.puffin_look.specs.FirstReading.{no_overview, with_fields, with_stored, overview_of, IsOverview}
use Rattle.puffin_look.specs.declared.overview.Overview.{Overview}
use Rattle.puffin_look.specs.inner.FirstReadings.{ReadsFrames}
use Rattle.puffin_look.specs.inner.Taken.{fails_outside}
use Rattle.puffin_view.proofs.lemmas.FrameStreams.{said_fresh}
use Rattle.puffin_look.proofs.ThreadsPrinted.{not_outside}

-- one frame more
pub overview_more : (old new : Overview) (frame : FrameData) (stored : List Stored) → IsFresh frame → old ≡ overview_of stored
    → new ≡ with_fields old (packet_fields frame) → new ≡ overview_of (stored ++ stored_of frame ∷ [])
overview_more old new frame stored fresh is step =
    step ∙ (λ i. with_fields (is i) (said_fresh frame fresh i)) ∙ sym (fold-append with_stored no_overview stored (stored_of frame ∷ []))

module _ (unread left : Option (List ℕ)) (o : Overview) where
  -- the file doesn't begin with its letters, so no frame was read
  pub not_begun : (e : FileError) → o ≡ no_overview → FailsToRead file_at unread left e → IsOverview unread left o
  not_begun e none fails = record { stored = []; begins = inl refl; end = inr (inr (e, (fails, refl))); sums_up = none }

  module _ (now : Option (List ℕ)) (stored : List Stored) (given : HasGiven unread now stored) (is : o ≡ overview_of stored) where
    -- the next frame can't be read
    pub stops_at : (e : FileError) → FailsAt e now left frame_at → IsOverview unread left o
    stops_at e fails = record { stored = stored; begins = inr (now, given); end = inr (inl (e, (now, given, inl fails))); sums_up = is }

    -- there are too many frames
    pub too_many : 2 ^ 64 - 1 ≤ length stored → IsOverview unread left o
    too_many full =
        record {
          stored = stored;
          begins = inr (
            now,
            given,
          );
          end = inr (inl (file.Truncated, (now, given, inr (full, refl))));
          sums_up = is;
        }

-- the reader and memory didn't fail
pub read_anyway : (unread left : Option (List ℕ)) (o : Overview) (r : Result (Unit {0}) FileError) → fails_outside r ≡ false
    → ReadsFrames unread left o r → IsOverview unread left o
read_anyway unread left o (Ok x) quiet h = h
read_anyway unread left o (Err e) quiet (inl outside) = absurd (not_outside e quiet outside)
read_anyway unread left o (Err e) quiet (inr h) = h
