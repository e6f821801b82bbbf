-- Frames that were listed, one after the other.
--
-- `IsListing` holds between two frames: these were given and taken, and all of their text was written. `listing_begun` and `goes_on`
-- keep it; each other lemma on listings says where and why one stops. `stopped` forgets the listing: it says what was printed.
use Rattle.std.proofs.Common.{◌≡◌, ℕ, ◌-◌, ◌^◌, ◌≤◌, true, false, List, [], ◌∷◌, ◌++◌, length, Option, Some, None, ◌⊎◌, Result, Ok, Err, inl, inr, refl, sym, ap, subst, ◌∙◌, append_assoc, true≢false}
use Rattle.std.specs.Prelude.{IfErr, Bool, if◌then◌else◌}
use Rattle.std.specs.Io.KnownBytes.{Appends}
use Rattle.std.proofs.KnownBytes.{Appends-nil, Appends-trans}
use Rattle.std.proofs.lemmas.List.{append-nil}
use Rattle.std.proofs.lemmas.List.Elements.{filter-append}
use Rattle.puffin_data.specs.declared.error.Error.{Error}
use Rattle.puffin_data.specs.declared.file_error.FileError.{FileError}
use Rattle.puffin_data.specs.declared.file_error.FileError.TheVariants as file
use Rattle.puffin_data.specs.Device.{FailsAt, IsOutside, WritesBeginning}
use Rattle.puffin_frames.specs.declared.frame_data.frame.FrameData.{FrameData}
use Rattle.puffin_frames.specs.declared.frame_data.meta.FrameMeta.{FrameMeta}
use Rattle.puffin_frames.specs.declared.frame_data.unpacked.UnpackedFrameData.{UnpackedFrameData}
use Rattle.puffin_frames.specs.Frame.Contents.{packet_fields, streams_held, streams_in_fields}
use Rattle.puffin_frames.specs.Packet.Stored.{PacketFields, Stored}
use Rattle.puffin_frames.specs.Packet.Next.{stored_of, IsFresh}
use Rattle.puffin_view.specs.View.File.{file_at, FailsToRead}
use Rattle.puffin_view.specs.View.FrameFile.{frame_at, HasGiven}
use Rattle.puffin_view.proofs.lemmas.FrameStreams.{said_fresh}
use Rattle.puffin_look.specs.OpenFrame.{OpenFrame, open_of, opened, opened_with, opened_fields, AreOpened}
use Rattle.puffin_look.specs.Wanted.{is_within, frames_within}
use Rattle.puffin_look.specs.declared.wanted.Indices.{Indices}
use Rattle.puffin_look.specs.Printed.{IsRefused, HasFaultBehind, IsStopped}
use Rattle.puffin_look.specs.inner.Listings.{AddsFrame, FailsToAdd, HasListed, StopsBehind, StopsListing}

-- what an error shows, weakened
pub if_err_so : {T E : Type 0} {P Q : E → Type 0} (r : Result T E) → ((e : E) → P e → Q e) → IfErr r P → IfErr r Q
if_err_so (Ok x) step h = tt
if_err_so (Err e) step h = step e h

-- ---- a frame that was read

-- a frame with these fields is opened as the one that it was unpacked to
pub opened_so : (fields : PacketFields) (frame : UnpackedFrameData) → streams_in_fields fields ≡ Ok (streams_held frame)
    → frame.meta ≡ fields.meta → opened_fields fields ≡ Ok (open_of frame)
opened_so fields frame unpacked same =
    ap (opened_with fields) unpacked
    ∙ ap (λ (meta : FrameMeta). Ok (record { meta = meta; streams = streams_held frame })) (sym same)

-- a frame that was just read is opened as it is stored
pub opened_fresh : (frame : FrameData) → IsFresh frame → opened_fields (packet_fields frame) ≡ opened (stored_of frame)
opened_fresh frame fresh = ap opened_fields (said_fresh frame fresh)

-- ---- one frame more

-- its frame is opened as this one
opened_more : (stored : List Stored) (frames : List OpenFrame) (next : Stored) (frame : OpenFrame) → AreOpened stored frames
    → opened next ≡ Ok frame → AreOpened (stored ++ next ∷ []) (frames ++ frame ∷ [])
opened_more [] [] next frame are_open is = (is, tt)
opened_more [] (first ∷ frames) next frame are_open is = absurd are_open
opened_more (first ∷ stored) [] next frame are_open is = absurd are_open
opened_more (first ∷ stored) (f ∷ frames) next frame (first_is, others) is = (first_is, opened_more stored frames next frame others is)

-- ---- the frames with some indices

-- none of no frames
pub none_within : (i : Option Indices) → [] ≡ frames_within i []
none_within None = refl
none_within (Some i) = refl

-- those of some frames and of others
within_more : (i : Option Indices) (xs ys : List OpenFrame) → frames_within i (xs ++ ys) ≡ frames_within i xs ++ frames_within i ys
within_more None xs ys = refl
within_more (Some i) xs ys = filter-append (λ f. is_within (Some i) f.meta.frame_index) xs ys

-- one that has another index
pub none_left_in : (i : Option Indices) (f : OpenFrame) → is_within i f.meta.frame_index ≡ false → [] ≡ frames_within i (f ∷ [])
none_left_in None f other = absurd (true≢false other)
none_left_in (Some i) f other = sym (ap (λ (b : Bool). if b then f ∷ [] else []) other)

-- one that has one of them
pub one_left_in : (i : Option Indices) (f : OpenFrame) → is_within i f.meta.frame_index ≡ true → f ∷ [] ≡ frames_within i (f ∷ [])
one_left_in None f there = refl
one_left_in (Some i) f there = sym (ap (λ (b : Bool). if b then f ∷ [] else []) there)

-- ---- what is written

-- the next text was written behind what was pending and the text so far
pub written_more : (before mid after : Option (List ℕ)) (pending text next : List ℕ) → Appends before mid (pending ++ text)
    → Appends mid after next → Appends before after (pending ++ (text ++ next))
written_more before mid after pending text next first second =
    subst (Appends before after) (append_assoc pending text next) (Appends-trans before mid after (pending ++ text) next first second)

-- a prefix of the next text was written behind them
pub begun_more : (before mid after : Option (List ℕ)) (pending text next : List ℕ) → Appends before mid (pending ++ text)
    → WritesBeginning mid after next → WritesBeginning before after (pending ++ (text ++ next))
begun_more before mid after pending text next first (front, rest, is, written) = (
  (pending ++ text) ++ front,
  rest,
  sym (append_assoc pending text next) ∙ ap (λ (r : List ℕ). (pending ++ text) ++ r) is
      ∙ sym (append_assoc (pending ++ text) front rest),
  Appends-trans before mid after (pending ++ text) front first written,
)

module _ {L : Type 0} (text : L → List ℕ) (takes : L → List OpenFrame → List ℕ → L → Type 0) (indices : Option Indices) where
  -- the frames so far were listed, and all of their text was written
  pub record IsListing (old now : L) (unread left before after : Option (List ℕ)) (stored : List Stored) (more : List ℕ) : Type 0 where
    pub given : HasGiven unread left stored
    pub listed : HasListed takes indices old now stored more
    pub none_left : text now ≡ []
    pub written : Appends before after (text old ++ more)

  module _ (joined : (u v w : L) (xs ys : List OpenFrame) (s t : List ℕ) → takes u xs s v → takes v ys t w
      → takes u (xs ++ ys) (s ++ t) w) where
    -- one frame more was listed
    pub listed_more : (old now new : L) (stored : List Stored) (s : Stored) (more : List ℕ)
        → HasListed takes indices old now stored more → (added : AddsFrame text takes indices now new (opened s))
        → HasListed takes indices old new (stored ++ s ∷ []) (more ++ added.more)
    listed_more old now new stored s more listed added = record {
      frames = listed.frames ++ added.frame ∷ [];
      opens = opened_more stored listed.frames s added.frame listed.opens added.opens;
      taken = subst (λ (frames : List OpenFrame). takes old frames (more ++ added.more) new)
          (sym (within_more indices listed.frames (added.frame ∷ []))) (joined old now new (frames_within indices listed.frames)
          (frames_within indices (added.frame ∷ [])) more added.more listed.taken added.taken);
    }

    -- nothing more was listed, by a step that changed what is pending alone
    pub listed_same : (old now new : L) (stored : List Stored) (more : List ℕ) → HasListed takes indices old now stored more
        → takes now [] [] new → HasListed takes indices old new stored more
    listed_same old now new stored more listed same = record {
      frames = listed.frames;
      opens = listed.opens;
      taken = subst (λ (t : List ℕ). takes old (frames_within indices listed.frames) t new) (append-nil more)
          (subst (λ (frames : List OpenFrame). takes old frames (more ++ []) new) (append-nil (frames_within indices listed.frames))
          (joined old now new (frames_within indices listed.frames) [] more [] listed.taken same));
    }

    -- nothing was listed yet, and what was pending was written
    pub listing_begun : (v new : L) (unread left before after : Option (List ℕ)) (pending : List ℕ) → HasGiven unread left []
        → pending ≡ text v → Appends before after pending → text new ≡ [] → takes v [] [] new
        → IsListing v new unread left before after [] []
    listing_begun v new unread left before after pending given is written empty same = record {
      given = given;
      listed = record { frames = []; opens = tt; taken = subst (λ (xs : List OpenFrame). takes v xs [] new) (none_within indices) same };
      none_left = empty;
      written = subst (Appends before after) (is ∙ sym (append-nil (text v))) written;
    }

    -- the next frame was added, and its text written
    pub goes_on : (old now added new : L) (unread at left before mid after : Option (List ℕ)) (stored : List Stored) (s : Stored)
        (more pending : List ℕ) → IsListing old now unread at before mid stored more
        → HasGiven unread left (stored ++ s ∷ []) → (adds : AddsFrame text takes indices now added (opened s)) → pending ≡ text added
        → Appends mid after pending → text new ≡ [] → takes added [] [] new
        → IsListing old new unread left before after (stored ++ s ∷ []) (more ++ adds.more)
    goes_on old now added new unread at left before mid after stored s more pending so_far given adds is written empty same = record {
      given = given;
      listed =
          listed_same old added new (stored ++ s ∷ []) (more ++ adds.more)
          (listed_more old now added stored s more so_far.listed adds) same;
      none_left = empty;
      written = written_more before mid after (text old) more adds.more so_far.written
          (subst (Appends mid after) (is ∙ adds.pending ∙ ap (λ (t : List ℕ). t ++ adds.more) so_far.none_left) written);
    }

    module _ (refuses : L → OpenFrame → Error → Type 0) where
      -- the next frame was added, and a prefix of its text written
      pub frame_cut : (old now new : L) (unread at left before mid after : Option (List ℕ)) (stored : List Stored) (s : Stored)
          (more pending : List ℕ) (fault : FileError) → IsListing old now unread at before mid stored more
          → HasGiven unread left (stored ++ s ∷ []) → AddsFrame text takes indices now new (opened s) → pending ≡ text new
          → fault ≡ file.Io → WritesBeginning mid after pending
          → StopsBehind text takes refuses indices old new unread left before after fault
      frame_cut old now new unread at left before mid after stored s more pending fault so_far given adds is io part = record {
        stored = stored ++ s ∷ [];
        begins = inr (left, given);
        more = more ++ adds.more;
        state = new;
        listed = listed_more old now new stored s more so_far.listed adds;
        outcome = inl (
          inl io,
          begun_more before mid after (text old) more adds.more so_far.written
              (subst (WritesBeginning mid after) (is ∙ adds.pending ∙ ap (λ (t : List ℕ). t ++ adds.more) so_far.none_left) part),
          inr refl,
        );
      }

  module _ (refuses : L → OpenFrame → Error → Type 0) where
    -- the file doesn't begin with its letters
    pub not_a_file : (v : L) (unread left before : Option (List ℕ)) (fault : FileError) → takes v [] [] v
        → FailsToRead file_at unread left fault → StopsListing text takes refuses indices v v unread left before before fault
    not_a_file v unread left before fault none fails =
        inr (record { same = refl; none = none; fails = fails; written = Appends-nil before })

    -- a prefix of what was pending was written
    pub head_cut : (v : L) (unread left before after : Option (List ℕ)) (pending : List ℕ) (fault : FileError) → takes v [] [] v
        → pending ≡ text v → fault ≡ file.Io → WritesBeginning before after pending
        → StopsBehind text takes refuses indices v v unread left before after fault
    head_cut v unread left before after pending fault none is io part = record {
      stored = [];
      begins = inl refl;
      more = [];
      state = v;
      listed = record { frames = []; opens = tt; taken = subst (λ (xs : List OpenFrame). takes v xs [] v) (none_within indices) none };
      outcome = inl (inl io, subst (WritesBeginning before after) (is ∙ sym (append-nil (text v))) part, inr refl);
    }

    -- the next frame can't be added
    pub not_added : (old now new : L) (unread at left before after : Option (List ℕ)) (stored : List Stored) (s : Stored)
        (more : List ℕ) (fault : FileError) → IsListing old now unread at before after stored more
        → HasGiven unread left (stored ++ s ∷ []) → FailsToAdd refuses indices now new (opened s) fault
        → StopsBehind text takes refuses indices old new unread left before after fault
    not_added old now new unread at left before after stored s more fault so_far given fails = record {
      stored = stored;
      begins = inr (at, so_far.given);
      more = more;
      state = now;
      listed = so_far.listed;
      outcome = inr (inr (so_far.written, s, given, fails));
    }

    -- the next frame can't be read
    pub not_read : (old now : L) (unread at left before after : Option (List ℕ)) (stored : List Stored) (more : List ℕ)
        (fault : FileError) → IsListing old now unread at before after stored more → FailsAt fault at left frame_at
        → StopsBehind text takes refuses indices old now unread left before after fault
    not_read old now unread at left before after stored more fault so_far fails = record {
      stored = stored;
      begins = inr (at, so_far.given);
      more = more;
      state = now;
      listed = so_far.listed;
      outcome = inr (inl (so_far.written, refl, (at, so_far.given, inl fails)));
    }

    -- there are too many frames
    pub too_many : (old now : L) (unread left before after : Option (List ℕ)) (stored : List Stored) (more : List ℕ)
        → IsListing old now unread left before after stored more → 2 ^ 64 - 1 ≤ length stored
        → StopsBehind text takes refuses indices old now unread left before after file.Truncated
    too_many old now unread left before after stored more so_far full = record {
      stored = stored;
      begins = inr (left, so_far.given);
      more = more;
      state = now;
      listed = so_far.listed;
      outcome = inr (inl (so_far.written, refl, (left, so_far.given, inr (full, refl))));
    }

    -- ---- what is printed

    module _ (IsText : List OpenFrame → List ℕ → Type 0) (Refuses : List OpenFrame → OpenFrame → Error → Type 0) (old new : L)
        (unread left before after : Option (List ℕ)) (fault : FileError)
        (is_text : (frames : List OpenFrame) (more : List ℕ) (v : L) → takes old (frames_within indices frames) more v
        → IsText frames (text old ++ more))
        (is_refused : (frames : List OpenFrame) (more : List ℕ) (v : L) (frame : OpenFrame) (cause : Error)
        → takes old (frames_within indices frames) more v → is_within indices frame.meta.frame_index ≡ true
        → refuses v frame cause → Refuses frames frame cause) where
      -- all of a text is a prefix of it
      whole_begun : (t : List ℕ) → Appends before after t → WritesBeginning before after t
      whole_begun t h = (t, [], sym (append-nil t), h)

      -- the reader, the writer or memory failed, or the fault is behind the frames that were listed
      pub told_behind : (h : StopsBehind text takes refuses indices old new unread left before after fault)
          → (IsOutside fault × WritesBeginning before after (text old ++ h.more))
          ⊎ (Appends before after (text old ++ h.more) × HasFaultBehind Refuses unread left h.stored h.listed.frames fault)
      told_behind h = elim (h.outcome) [
        | inl (outside, part, last_state) ↦ inl (outside, part)
        | inr (inl (written, same, next)) ↦ inr (written, inl next)
        | inr (inr (written, next, given, fails)) ↦ elim fails [
          | inl memory ↦ inl (inr memory, whole_begun _ written)
          | inr (inl (packed, same)) ↦ inr (
            written,
            inr (
              next,
              given,
              subst (λ (r : Result OpenFrame FileError). IsRefused Refuses h.listed.frames r fault)
                  (sym packed) refl,
            ),
          )
          | inr (inr (frame, cause, opens, is, there, refused)) ↦ inr (
            written,
            inr (
              next,
              given,
              subst (λ (r : Result OpenFrame FileError). IsRefused Refuses h.listed.frames r fault) (sym opens)
                  (cause, is, is_refused h.listed.frames h.more h.state frame cause h.listed.taken there refused),
            ),
          )
        ]
      ]

      -- printing failed: behind the letters of the file, or because of them
      pub stopped : StopsListing text takes refuses indices old new unread left before after fault
          → IsStopped IsText Refuses unread left before after fault
      stopped (inl h) = record {
        stored = h.stored;
        begins = h.begins;
        frames = h.listed.frames;
        opens = h.listed.opens;
        text = text old ++ h.more;
        is = is_text h.listed.frames h.more h.state h.listed.taken;
        outcome = elim (told_behind h) [
          | inl outside ↦ inl outside
          | inr behind ↦ inr (inl behind)
        ];
      }
      stopped (inr h) = record {
        stored = [];
        begins = inl refl;
        frames = [];
        opens = tt;
        text = text old ++ [];
        is = is_text [] [] old (subst (λ (xs : List OpenFrame). takes old xs [] old) (none_within indices) h.none);
        outcome = inr (inr ((h.fails, refl), h.written));
      }
