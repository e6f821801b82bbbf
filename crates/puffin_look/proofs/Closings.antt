-- What is written of a list that has an end of its own.
--
-- Behind the text of the frames, `text old ++ more`, the end is written, `finish`: also where a fault stops the list, but not if the
-- reader, the writer or memory failed before. So what was written is all of it, or a prefix. `mid` is what the writer has before the end.
use Rattle.std.proofs.Common.{◌≡◌, ◌⊎◌, ℕ, ◌+◌, true, false, List, [], ◌++◌, Option, Result, Ok, Err, inl, inr, refl, ap, subst, sym, ◌∙◌, append_assoc, append-nil}
use Rattle.std.specs.Prelude.{OnOk, OnErr, IfErr}
use Rattle.std.specs.Io.KnownBytes.{Appends}
use Rattle.std.proofs.KnownBytes.{Appends-nil, Appends-trans}
use Rattle.puffin_data.specs.declared.error.Error.{Error}
use Rattle.puffin_data.specs.declared.file_error.FileError.{FileError}
use Rattle.puffin_data.specs.declared.file_error.FileError.TheVariants as file
use Rattle.puffin_data.specs.Device.{IsOutside, WritesBeginning}
use Rattle.puffin_view.specs.View.File.{file_at, FailsToRead}
use Rattle.puffin_look.specs.OpenFrame.{OpenFrame}
use Rattle.puffin_look.specs.Printed.{HasFaultBehind, IsPrinted, IsStopped}
use Rattle.puffin_look.specs.Wanted.{is_within, frames_within}
use Rattle.puffin_look.specs.declared.wanted.Indices.{Indices}
use Rattle.puffin_look.specs.inner.Listings.{ListsAll, StopsBehind}
use Rattle.puffin_look.specs.inner.Taken.{fails_outside}
use Rattle.puffin_look.proofs.Listed.{told_behind}
use Rattle.puffin_look.proofs.ThreadsPrinted.{outside_of, not_outside, not_io}

-- nothing was written
module _ (IsText : List OpenFrame → List ℕ → Type 0) (Refuses : List OpenFrame → OpenFrame → Error → Type 0) (nothing : List ℕ)
    (said : IsText [] nothing) (unread left before : Option (List ℕ)) (e : FileError) where
  -- since the reader or memory failed
  pub none_written : IsOutside e → IsStopped IsText Refuses unread left before before e
  none_written outside = record {
    stored = [];
    begins = inl refl;
    frames = [];
    opens = tt;
    text = nothing;
    is = said;
    outcome = inl (outside, ([], nothing, refl, Appends-nil before));
  }

  -- since the file doesn't begin with its letters
  pub no_letters : FailsToRead file_at unread left e → IsStopped IsText Refuses unread left before before e
  no_letters fails = record {
    stored = [];
    begins = inl refl;
    frames = [];
    opens = tt;
    text = nothing;
    is = said;
    outcome = inr (inr ((fails, refl), Appends-nil before));
  }

-- a prefix of a text is one of a longer text
begins_longer : (before after : Option (List ℕ)) (t more : List ℕ) → WritesBeginning before after t
    → WritesBeginning before after (t ++ more)
begins_longer before after t more (front, rest, is, written) =
    (front, rest ++ more, ap (λ (x : List ℕ). x ++ more) is ∙ append_assoc front rest more, written)

-- all of a text and a prefix of the next are a prefix of both
begins_behind : (before mid after : Option (List ℕ)) (t more : List ℕ) → Appends before mid t → WritesBeginning mid after more
    → WritesBeginning before after (t ++ more)
begins_behind before mid after t more first (front, rest, is, written) = (
  t ++ front,
  rest,
  ap (λ (x : List ℕ). t ++ x) is
      ∙ sym (append_assoc t front rest),
  Appends-trans before mid after t front first written,
)

module _ {L : Type 0} (text : L → List ℕ) (takes : L → List OpenFrame → List ℕ → L → Type 0)
    (refuses : L → OpenFrame → Error → Type 0) (indices : Option Indices)
    (IsText : List OpenFrame → List ℕ → Type 0) (Refuses : List OpenFrame → OpenFrame → Error → Type 0) (finish : List ℕ) (old new : L)
    (closed : (frames : List OpenFrame) (more : List ℕ) (v : L) → takes old (frames_within indices frames) more v
    → IsText frames ((text old ++ more) ++ finish))
    (refused : (frames : List OpenFrame) (more : List ℕ) (v : L) (frame : OpenFrame) (cause : Error)
    → takes old (frames_within indices frames) more v → is_within indices frame.meta.frame_index ≡ true
    → refuses v frame cause → Refuses frames frame cause)
    (unread left before mid after : Option (List ℕ)) where
  -- all frames were listed, and the end was written
  pub list_printed : ListsAll text takes indices old new unread left before mid → Appends mid after finish
      → IsPrinted IsText unread left before after
  list_printed h app = record {
    stored = h.stored;
    took = h.took;
    frames = h.listed.frames;
    opens = h.listed.opens;
    text = (text old ++ h.more) ++ finish;
    is = closed h.listed.frames h.more new h.listed.taken;
    written = Appends-trans before mid after (text old ++ h.more) finish h.written app;
  }

  -- the end is cut off
  all_cut : (e : FileError) → ListsAll text takes indices old new unread left before mid → e ≡ file.Io
      → WritesBeginning mid after finish → IsStopped IsText Refuses unread left before after e
  all_cut e h io part = record {
    stored = h.stored;
    begins = h.begins;
    frames = h.listed.frames;
    opens = h.listed.opens;
    text = (text old ++ h.more) ++ finish;
    is = closed h.listed.frames h.more new h.listed.taken;
    outcome = inl (inl io, begins_behind before mid after (text old ++ h.more) finish h.written part);
  }

  module _ (e : FileError) (h : StopsBehind text takes refuses indices old new unread left before mid e) where
    -- what was written before the end
    told : (IsOutside e × WritesBeginning before mid (text old ++ h.more))
        ⊎ (Appends before mid (text old ++ h.more) × HasFaultBehind Refuses unread left h.stored h.listed.frames e)
    told =
        told_behind text takes indices refuses
        (λ frames t. IsText frames (t ++ finish)) Refuses old new unread left before mid e closed refused h

    -- what was written with the end, or with a prefix of it
    stopped_by : (fault : FileError)
        → ((IsOutside fault × WritesBeginning before after ((text old ++ h.more) ++ finish))
        ⊎ (Appends before after ((text old ++ h.more) ++ finish)
        × HasFaultBehind Refuses unread left h.stored h.listed.frames fault))
        → IsStopped IsText Refuses unread left before after fault
    stopped_by fault how = record {
      stored = h.stored;
      begins = h.begins;
      frames = h.listed.frames;
      opens = h.listed.opens;
      text = (text old ++ h.more) ++ finish;
      is = closed h.listed.frames h.more h.state h.listed.taken;
      outcome = elim how [
        | inl outside ↦ inl outside
        | inr behind ↦ inr (inl behind)
      ];
    }

    -- the reader, the writer or memory failed, and no end was written
    pub list_open : mid ≡ after → fails_outside {X = Unit {0}} (Err e) ≡ true → IsStopped IsText Refuses unread left before after e
    list_open still loud = stopped_by e (elim told [
      | inl (outside, part) ↦ inl (
        outside,
        subst (λ (d : Option (List ℕ)). WritesBeginning before d ((text old ++ h.more) ++ finish)) still
            (begins_longer before mid (text old ++ h.more) finish part),
      )
      | inr (written, fault) ↦ inl (
        outside_of e loud,
        subst (λ (d : Option (List ℕ)). WritesBeginning before d ((text old ++ h.more) ++ finish)) still
            (begins_longer before mid (text old ++ h.more) finish
            (text old ++ h.more, [], sym (append-nil (text old ++ h.more)), written)),
      )
    ])

    module _ (quiet : fails_outside {X = Unit {0}} (Err e) ≡ false) where
      -- all frames before the fault were written
      behind_frames : Appends before mid (text old ++ h.more) × HasFaultBehind Refuses unread left h.stored h.listed.frames e
      behind_frames = elim told [
        | inl (outside, part) ↦ absurd (not_outside e quiet outside)
        | inr behind ↦ behind
      ]

      -- the fault is behind the frames, and the end was written
      pub list_closed : Appends mid after finish → IsStopped IsText Refuses unread left before after e
      list_closed app =
          let (written, has_fault) = behind_frames in
          stopped_by e (inr (Appends-trans before mid after (text old ++ h.more) finish written app, has_fault))

      -- and the end was cut off
      pub fault_cut : (fault : FileError) → fault ≡ file.Io → WritesBeginning mid after finish
          → IsStopped IsText Refuses unread left before after fault
      fault_cut fault io part =
          let (written, has_fault) = behind_frames in
          stopped_by fault (inl (inl io, begins_behind before mid after (text old ++ h.more) finish written part))

  -- what a listing of frames ends with
  abbrev pub Ends : Result (Unit {0}) FileError → Type 0
  Ends r =
      OnOk r (ListsAll text takes indices old new unread left before mid) × IfErr r
      (StopsBehind text takes refuses indices old new unread left before mid)

  -- no end was written
  pub told_open : (r : Result (Unit {0}) FileError) → mid ≡ after → fails_outside r ≡ true → Ends r
      → IfErr r (IsStopped IsText Refuses unread left before after)
  told_open (Ok x) still loud ending = tt
  told_open (Err e) still loud (lists, stops) = list_open e stops still loud

  -- the end was written behind the frames before a fault
  pub told_closed : (r : Result (Unit {0}) FileError) → fails_outside r ≡ false → Ends r → Appends mid after finish
      → IfErr r (IsStopped IsText Refuses unread left before after)
  told_closed (Ok x) quiet ending app = tt
  told_closed (Err e) quiet (lists, stops) app = list_closed e stops quiet app

  -- or behind all frames
  pub told_printed : (r : Result (Unit {0}) FileError) → Ends r → Appends mid after finish
      → OnOk r (IsPrinted IsText unread left before after)
  told_printed (Ok x) (lists, stops) app = list_printed lists app
  told_printed (Err e) ending app = tt

  -- writing the end failed
  pub end_cut : (r : Result (Unit {0}) FileError) (fault : FileError) → fails_outside r ≡ false → Ends r → fault ≡ file.Io
      → WritesBeginning mid after finish → IsStopped IsText Refuses unread left before after fault
  end_cut (Ok x) fault quiet (lists, stops) io part = all_cut fault lists io part
  end_cut (Err e) fault quiet (lists, stops) io part = fault_cut e stops quiet fault io part

-- what a write that failed leaves
pub cut_told : {T W : Type 0} (X Q : FileError → Type 0) (r : Result T FileError) → ((e : FileError) → e ≡ file.Io → W → Q e)
    → OnErr r W → IfErr r (λ e. (e ≡ file.Io) × X e) → IfErr r Q
cut_told X Q (Ok x) step part io = tt
cut_told X Q (Err e) step part (is_io, why) = step e is_io part

-- The write of the end failed, and no read or write did before it.
pub end_failed : {Read Nothing : Type 0} (r : Result (Unit {0}) FileError) (before mid after : ℕ) → fails_outside r ≡ false
    → ((r ≡ Err file.Io → ⊥) → mid ≡ before) → (after ≡ mid + 1) ⊎ Nothing → Read ⊎ ((after ≡ before + 1) ⊎ Nothing)
end_failed r before mid after quiet drained (inl failed) =
    inr (inl (failed ∙ ap (λ (n : ℕ). n + 1) (drained (not_io r quiet))))
end_failed r before mid after quiet drained (inr nothing) = inr (inr nothing)
