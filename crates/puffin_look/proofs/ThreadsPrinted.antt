-- What the listing of threads leaves, and what is printed of it.
--
-- A listing of threads prints nothing itself: it counts the totals of the frames. `AreRead` says that they are the totals of some first
-- frames, `Finished` why there are no more frames. Their lines are printed behind all frames, or behind those before a fault (`told`), if
-- neither the reader nor memory failed.
use Rattle.std.proofs.Common.{◌≡◌, ℕ, List, [], ◌∷◌, ◌++◌, Option, None, Result, Ok, Err, ◌⊎◌, inl, inr, refl, ap, subst, sym, ◌∙◌, append-nil, true, false, true≢false}
use Rattle.std.specs.Prelude.{fold, OnOk, IfErr}
use Rattle.std.specs.FinMap as tree
use Rattle.std.specs.Io.KnownBytes.{Appends}
use Rattle.std.proofs.KnownBytes.{Appends-trans}
use Rattle.puffin_data.specs.declared.error.Error.{Error}
use Rattle.puffin_data.specs.declared.file_error.FileError.{FileError}
use Rattle.puffin_data.specs.declared.file_error.FileError.TheVariants as file
use Rattle.puffin_data.specs.Device.{IsOutside, WritesBeginning}
use Rattle.puffin_frames.specs.Packet.Stored.{Stored}
use Rattle.puffin_threads.specs.Thread.ThreadKey.{by_key}
use Rattle.puffin_view.specs.View.File.{file_at, TookFrames}
use Rattle.puffin_look.specs.OpenFrame.{OpenFrame, AreOpened}
use Rattle.puffin_look.specs.Printed.{Begins, HasFaultBehind, StopsBeforeFrames, IsRefused, IsPrinted, IsStopped, RefusesNone}
use Rattle.puffin_look.specs.ThreadLines.{totals_of, thread_list, IsThreadList}
use Rattle.puffin_look.specs.declared.lines.Form.{Form}
use Rattle.puffin_look.specs.inner.Taken.{TakesTotals, fails_outside}
use Rattle.puffin_look.specs.inner.Listings.{ListsAll, StopsBehind, StopsListing}
use Rattle.puffin_view.specs.declared.thread_totals.AllTotals.{AllTotals}
use Rattle.puffin_view.specs.ThreadTotals.{Totals}

abbrev pub none : AllTotals → List ℕ
none v = []

abbrev pub refused : AllTotals → OpenFrame → Error → Type 0
refused v frame cause = ⊥

-- a prefix of nothing is nothing
nothing_joined : (xs ys : List ℕ) → xs ++ ys ≡ [] → xs ≡ []
nothing_joined [] ys e = refl
nothing_joined (x ∷ xs) ys e = absurd (cc)

module _ (old new : AllTotals) (unread left before mid : Option (List ℕ)) where
  -- the totals are those of the frames that were read, and nothing was written
  pub record AreRead : Type 0 where
    pub stored : List Stored
    pub begins : Begins unread stored
    pub frames : List OpenFrame
    pub opens : AreOpened stored frames
    pub totals : by_key new.totals.entries ≡ totals_of frames
    pub written : Appends before mid []

  -- why these were the last frames that were read
  abbrev pub Finished : Result (Unit {0}) FileError → List Stored → List OpenFrame → Type 0
  Finished (Ok x) stored frames = TookFrames file_at unread left stored
  Finished (Err e) stored frames = IsOutside e ⊎ HasFaultBehind RefusesNone unread left stored frames e

  module _ (empty : by_key old.totals.entries ≡ tree.empty) where
    -- the totals are those of these frames
    totals_read : (frames : List OpenFrame) (more : List ℕ) → TakesTotals old frames more new → by_key new.totals.entries ≡ totals_of frames
    totals_read frames more t = t.totals ∙ ap (λ (m : Totals). fold Rattle.puffin_look.specs.ThreadLines.with_frame m frames) empty

    -- all frames were read
    pub all_read : ListsAll none TakesTotals None old new unread left before mid → (r : AreRead) × TookFrames file_at unread left r.stored
    all_read h = (
      record {
        stored = h.stored;
        begins = h.begins;
        frames = h.listed.frames;
        opens = h.listed.opens;
        totals = totals_read h.listed.frames h.more h.listed.taken;
        written = subst (Appends before mid) (h.listed.taken.none) h.written;
      },
      h.took,
    )

    -- the totals of the last state
    moved : (state : AllTotals) (frames : List OpenFrame) (more : List ℕ) → state ≡ new → TakesTotals old frames more state
        → TakesTotals old frames more new
    moved state frames more same t = subst (TakesTotals old frames more) same t

    module _ (e : FileError) (h : StopsBehind none TakesTotals refused None old new unread left before mid e) where
      quiet : h.more ≡ []
      quiet = h.listed.taken.none

      -- a prefix of no text was written
      unwritten : WritesBeginning before mid h.more → Appends before mid []
      unwritten (front, rest, is, written) = subst (Appends before mid) (nothing_joined front rest (sym is ∙ quiet)) written

      abbrev read_of : h.state ≡ new → Appends before mid [] → AreRead
      read_of same written = record {
        stored = h.stored;
        begins = h.begins;
        frames = h.listed.frames;
        opens = h.listed.opens;
        totals = totals_read h.listed.frames h.more (moved h.state h.listed.frames h.more same h.listed.taken);
        written = written;
      }

      -- some first frames were read, if memory didn't run out
      pub some_behind : (e ≡ file.Memory → ⊥) → (r : AreRead) × Finished (Err e) r.stored r.frames
      some_behind not_memory = elim (h.outcome) [
        | inl (outside, part, last_state) ↦ elim last_state [
          | inl memory ↦ absurd (not_memory memory)
          | inr same ↦ (read_of same (unwritten part), inl outside)
        ]
        | inr (inl (written, same, next)) ↦ (read_of same (subst (Appends before mid) quiet written), inr (inl next))
        | inr (inr (written, next, given, fails)) ↦ elim fails [
          | inl memory ↦ absurd (not_memory memory)
          | inr (inl (packed, same)) ↦ (
            read_of (sym same) (subst (Appends before mid) quiet written),
            inr (inr (
              next,
              given,
              subst (λ (r : Result OpenFrame FileError). IsRefused RefusesNone h.listed.frames r e)
                  (sym packed) refl,
            )),
          )
          | inr (inr (frame, cause, opens, is, there, refuses)) ↦ absurd refuses
        ]
      ]

      -- nothing was written
      none_behind : Appends before mid []
      none_behind = elim (h.outcome) [
        | inl (outside, part, last_state) ↦ unwritten part
        | inr (inl (written, same, next)) ↦ subst (Appends before mid) quiet written
        | inr (inr (written, next, given, fails)) ↦ subst (Appends before mid) quiet written
      ]

    module _ (e : FileError) where
      -- some first frames were read, or the file doesn't begin with its letters
      pub some_read : StopsListing none TakesTotals refused None old new unread left before mid e → (e ≡ file.Memory → ⊥)
          → (r : AreRead) × (Finished (Err e) r.stored r.frames ⊎ StopsBeforeFrames unread left r.stored e)
      some_read (inl h) not_memory = let (read, finished) = some_behind e h not_memory in (read, inl finished)
      some_read (inr h) not_memory = (
        record {
          stored = [];
          begins = inl refl;
          frames = [];
          opens = tt;
          totals = ap (λ (v : AllTotals). by_key v.totals.entries) h.same ∙ empty;
          written = h.written;
        },
        inr (h.fails, refl),
      )

      -- nothing was written
      pub none_written : StopsListing none TakesTotals refused None old new unread left before mid e → Appends before mid []
      none_written (inl h) = none_behind e h
      none_written (inr h) = h.written

  -- ---- with the lines of these totals

  module _ (r : AreRead) (form : Form) (after : Option (List ℕ)) where
    -- the lines of these totals are those of the frames
    pub lines_read : (lines : List ℕ) → lines ≡ thread_list form (tree.entries (by_key new.totals.entries))
        → lines ≡ thread_list form (tree.entries (totals_of r.frames))
    lines_read lines is = is ∙ ap (λ (m : Totals). thread_list form (tree.entries m)) r.totals

    -- all lines of all frames were printed
    pub printed : (lines : List ℕ) → lines ≡ thread_list form (tree.entries (totals_of r.frames))
        → TookFrames file_at unread left r.stored → Appends mid after lines
        → IsPrinted (IsThreadList form) unread left before after
    printed lines is took app = record {
      stored = r.stored;
      took = took;
      frames = r.frames;
      opens = r.opens;
      text = lines;
      is = is;
      written = Appends-trans before mid after [] lines r.written app;
    }

    -- all lines of the frames before a fault were printed
    pub told : (e : FileError) (lines : List ℕ) → lines ≡ thread_list form (tree.entries (totals_of r.frames))
        → Finished (Err e) r.stored r.frames → Appends mid after lines
        → IsStopped (IsThreadList form) RefusesNone unread left before after e
    told e lines is finished app =
        let written : Appends before after lines = Appends-trans before mid after [] lines r.written app in
        record {
          stored = r.stored;
          begins = r.begins;
          frames = r.frames;
          opens = r.opens;
          text = lines;
          is = is;
          outcome = elim finished [
            | inl outside ↦ inl (outside, (lines, [], sym (append-nil lines), written))
            | inr fault ↦ inr (inl (written, fault))
          ];
        }

    -- a prefix of the lines was printed
    pub told_cut : (e : FileError) → IsOutside e
        → WritesBeginning mid after (thread_list form (tree.entries (totals_of r.frames)))
        → IsStopped (IsThreadList form) RefusesNone unread left before after e
    told_cut e outside part = record {
      stored = r.stored;
      begins = r.begins;
      frames = r.frames;
      opens = r.opens;
      text = thread_list form (tree.entries (totals_of r.frames));
      is = refl;
      outcome =
          let (front, rest, is, written) = part in
          inl (outside, (front, rest, is, Appends-trans before mid after [] front r.written written));
    }

  -- nothing is told where the reader or memory failed
  pub told_nothing : (form : Form) (e : FileError) → IsOutside e → Appends before mid []
      → IsStopped (IsThreadList form) RefusesNone unread left before mid e
  told_nothing form e outside unchanged = record {
    stored = [];
    begins = inl refl;
    frames = [];
    opens = tt;
    text = thread_list form (tree.entries (totals_of []));
    is = refl;
    outcome = inl (outside, ([], thread_list form (tree.entries (totals_of [])), refl, unchanged));
  }

-- ---- `fails_outside` as a statement: `Io` and `Memory`, and no other error

pub outside_of : (e : FileError) → fails_outside {X = Unit {0}} (Err e) ≡ true → IsOutside e
outside_of file.Io h = inl refl
outside_of file.Memory h = inr refl
outside_of e h = absurd (cc)

not_memory : (e : FileError) → fails_outside {X = Unit {0}} (Err e) ≡ false → e ≡ file.Memory → ⊥
not_memory e h is = true≢false (sym (ap (λ (x : FileError). fails_outside {X = Unit {0}} (Err x)) is) ∙ h)

pub not_io : (r : Result (Unit {0}) FileError) → fails_outside r ≡ false → r ≡ Err file.Io → ⊥
not_io r h is = true≢false (sym (ap fails_outside is) ∙ h)

pub not_outside : (e : FileError) → fails_outside {X = Unit {0}} (Err e) ≡ false → IsOutside e → ⊥
not_outside e h (inl io) = not_io (Err e) h (ap Err io)
not_outside e h (inr memory) = not_memory e h memory

module _ (old new : AllTotals) (unread left before mid : Option (List ℕ)) (empty : by_key old.totals.entries ≡ tree.empty) where
  -- what a listing of threads ends with
  pub Ends : Result (Unit {0}) FileError → Type 0
  Ends r =
      OnOk r (ListsAll none TakesTotals None old new unread left before mid) × IfErr r
      (StopsListing none TakesTotals refused None old new unread left before mid)

  pub ends : (r : Result (Unit {0}) FileError) → OnOk r (ListsAll none TakesTotals None old new unread left before mid)
      → IfErr r (StopsListing none TakesTotals refused None old new unread left before mid) → Ends r
  unfolding Ends
  ends r ok err = (ok, err)

  -- nothing was written
  pub silent : (r : Result (Unit {0}) FileError) → Ends r → Appends before mid []
  unfolding Ends
  silent (Ok x) (lists, stops) = let (read, took) = all_read old new unread left before mid empty lists in read.written
  silent (Err e) (lists, stops) = none_written old new unread left before mid empty e stops

  -- the reader or memory failed, so no lines are printed
  pub told_outside : (form : Form) (r : Result (Unit {0}) FileError) → fails_outside r ≡ true → Ends r
      → IfErr r (IsStopped (IsThreadList form) RefusesNone unread left before mid)
  unfolding Ends
  told_outside form (Ok x) loud s = tt
  told_outside form (Err e) loud (lists, stops) =
      told_nothing old new unread left before mid form e (outside_of e loud)
      (none_written old new unread left before mid empty e stops)

  -- the totals are those of some first frames
  pub read_anyway : (r : Result (Unit {0}) FileError) → fails_outside r ≡ false → Ends r → AreRead old new unread left before mid
  unfolding Ends
  read_anyway (Ok x) quiet (lists, stops) = let (read, took) = all_read old new unread left before mid empty lists in read
  read_anyway (Err e) quiet (lists, stops) =
      let (read, finished) = some_read old new unread left before mid empty e stops (not_memory e quiet) in read

  -- the frames are those before the end or the first fault
  pub read_to_end : (r : Result (Unit {0}) FileError) → fails_outside r ≡ false → Ends r
      → (q : AreRead old new unread left before mid)
      × (TookFrames file_at unread left q.stored
      ⊎ ((e : FileError) × (HasFaultBehind RefusesNone unread left q.stored q.frames e
      ⊎ StopsBeforeFrames unread left q.stored e)))
  unfolding Ends
  read_to_end (Ok x) quiet (lists, stops) =
      let (read, took) = all_read old new unread left before mid empty lists in (read, inl took)
  read_to_end (Err e) quiet (lists, stops) =
      let (read, finished) = some_read old new unread left before mid empty e stops (not_memory e quiet) in (
        read,
        elim finished [
          | inl (inl outside) ↦ absurd (not_outside e quiet outside)
          | inl (inr fault) ↦ inr (e, inl fault)
          | inr letters ↦ inr (e, inr letters)
        ],
      )

  module _ (form : Form) (after : Option (List ℕ)) (lines : List ℕ)
      (is : lines ≡ thread_list form (tree.entries (by_key new.totals.entries))) where
    -- all lines were printed, of all frames
    pub all_printed : (r : Result (Unit {0}) FileError) → Ends r → Appends mid after lines
        → OnOk r (IsPrinted (IsThreadList form) unread left before after)
    unfolding Ends
    all_printed (Ok x) (lists, stops) app =
        let (read, took) = all_read old new unread left before mid empty lists in
        printed old new unread left before mid read form after lines
        (lines_read old new unread left before mid read form after lines is) took app
    all_printed (Err e) s app = tt

    -- or of those before the fault
    pub all_told : (r : Result (Unit {0}) FileError) → fails_outside r ≡ false
        → IfErr r (StopsBehind none TakesTotals refused None old new unread left before mid) → Appends mid after lines
        → IfErr r (IsStopped (IsThreadList form) RefusesNone unread left before after)
    all_told (Ok x) quiet stops app = tt
    all_told (Err e) quiet stops app =
        let (read, finished) = some_behind old new unread left before mid empty e stops (not_memory e quiet) in
        told old new unread left before mid read form after e lines
        (lines_read old new unread left before mid read form after lines is) finished app

    -- a prefix of the lines was printed
    pub cut_told : (r : Result (Unit {0}) FileError) (e : FileError) → fails_outside r ≡ false → Ends r → e ≡ file.Io
        → WritesBeginning mid after lines → IsStopped (IsThreadList form) RefusesNone unread left before after e
    cut_told r e quiet ending io part =
        let read = read_anyway r quiet ending in
        told_cut old new unread left before mid read form after e (inl io)
        (subst (WritesBeginning mid after) (lines_read old new unread left before mid read form after lines is) part)
