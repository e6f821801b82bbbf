-- What is printed of the slowest frames.
use Rattle.std.proofs.Common.{◌≡◌, ℕ, zero, suc, List, [], ◌∷◌, take, Option, None, inl, refl, ap, subst, ◌∙◌}
use Rattle.std.specs.Prelude.{fold}
use Rattle.std.specs.Io.KnownBytes.{Appends}
use Rattle.std.proofs.KnownBytes.{Appends-trans}
use Rattle.puffin_data.specs.declared.error.Error.{Error}
use Rattle.puffin_data.specs.declared.file_error.FileError.{FileError}
use Rattle.puffin_data.specs.Device.{IsOutside, WritesBeginning}
use Rattle.puffin_look.specs.OpenFrame.{OpenFrame}
use Rattle.puffin_look.specs.Printed.{IsPrinted, IsStopped, IsCutOff, RefusesNone}
use Rattle.puffin_look.specs.FrameLines.{frame_row, frame_list}
use Rattle.puffin_look.specs.Slowest.{with_row, AreSlowestFrames, IsNoText}
use Rattle.puffin_look.specs.declared.lines.Form.{Form}
use Rattle.puffin_look.specs.inner.Taken.{TakesRows}
use Rattle.puffin_look.specs.inner.Listings.{ListsAll, StopsListing}
use Rattle.puffin_look.specs.declared.frames.FrameRow.{FrameRow}
use Rattle.puffin_look.specs.declared.slowest.Slowest.{Slowest}
use Rattle.puffin_look.proofs.Listed.{stopped}
use Rattle.puffin_look.proofs.SlowestKept.{kept_all}

abbrev pub none : Slowest → List ℕ
none v = []

abbrev pub refused : Slowest → OpenFrame → Error → Type 0
refused v frame cause = ⊥

-- no rows are the first of none
none_kept : (n : ℕ) (rows : List FrameRow) → rows ≡ [] → rows ≡ take n rows
none_kept zero [] e = refl
none_kept (suc n) [] e = refl
none_kept n (x ∷ rows) e = absurd (cc)

module _ (old new : Slowest) (unread left before mid : Option (List ℕ)) where
  -- reading the file failed, so nothing is printed
  pub slowest_stopped : (e : FileError) → StopsListing none TakesRows refused None old new unread left before mid e
      → IsStopped IsNoText RefusesNone unread left before mid e
  slowest_stopped e h =
      stopped none TakesRows None refused IsNoText RefusesNone old new unread left before mid e
      (λ frames more v taken. taken.none) (λ frames more v frame cause taken there refused. refused) h

  module _ (h : ListsAll none TakesRows None old new unread left before mid) where
    quiet : Appends before mid []
    quiet = subst (Appends before mid) h.listed.taken.none h.written

    -- there is no memory for the lines
    pub none_printed : (e : FileError) → IsOutside e → IsStopped IsNoText RefusesNone unread left before mid e
    none_printed e outside = record {
      stored = h.stored;
      begins = h.begins;
      frames = h.listed.frames;
      opens = h.listed.opens;
      text = [];
      is = refl;
      outcome = inl (outside, ([], [], refl, quiet));
    }

    module _ (form : Form) (empty : old.rows.items ≡ []) (lines : List ℕ) (is : lines ≡ frame_list form new.rows.items)
        (after : Option (List ℕ)) where
      -- the lines that are printed are those of the slowest frames
      are_lines : AreSlowestFrames form old.limit h.listed.frames lines
      are_lines =
          is ∙ ap (frame_list form)
          (h.listed.taken.rows
          ∙ ap (λ (rows : List FrameRow). fold (λ rows frame. take old.limit (with_row rows (frame_row frame))) rows
          h.listed.frames) (none_kept old.limit old.rows.items empty ∙ ap (take old.limit) empty)
          ∙ kept_all old.limit h.listed.frames [])

      -- all lines were printed
      pub slowest_printed : Appends mid after lines → IsPrinted (AreSlowestFrames form old.limit) unread left before after
      slowest_printed app = record {
        stored = h.stored;
        took = h.took;
        frames = h.listed.frames;
        opens = h.listed.opens;
        text = lines;
        is = are_lines;
        written = Appends-trans before mid after [] lines quiet app;
      }

      -- a prefix of the lines was printed
      pub slowest_cut : WritesBeginning mid after lines → IsCutOff (AreSlowestFrames form old.limit) unread left before after
      slowest_cut part = record {
        stored = h.stored;
        took = h.took;
        frames = h.listed.frames;
        opens = h.listed.opens;
        text = lines;
        is = are_lines;
        written =
            let (front, rest, is, appended) = part in
            (front, rest, is, Appends-trans before mid after [] front quiet appended);
      }
