-- What is read of the file of a view, why it can't be written or read, and the promise from its parts.
use Rattle.std.proofs.Common.{◌≡◌, ◌⊎◌, inl, inr, ℕ, zero, suc, ◌-◌, ◌^◌, ◌<◌, ◌≤◌, List, [], ◌∷◌, ◌++◌, length, map, take, drop, Option, None, Some, Ok, true, false, refl, sym, ap, subst, ◌∙◌, arith, length-append}
use Rattle.std.specs.Prelude.{Bool, cond}
use Rattle.std.specs.List.{AllByRecursion, Any, list_any, flat_map}
use Rattle.puffin_data.specs.declared.data.form.Form.{Form}
use Rattle.puffin_data.specs.declared.error.Error.TheVariants.{MissingId}
use Rattle.puffin_data.specs.declared.file_error.FileError.{FileError}
use Rattle.puffin_data.specs.declared.file_error.FileError.TheVariants as file
use Rattle.puffin_data.specs.Device.{IsOutside}
use Rattle.puffin_frames.specs.Packet.Stored.{PacketFields, Stored, packed}
use Rattle.puffin_frames.specs.Packet.Grammar.{IsPacked, packet, packet_head}
use Rattle.puffin_frames.specs.Packet.Writing.{HasLongPart}
use Rattle.puffin_threads.specs.Details.{Details}
use Rattle.puffin_threads.specs.Details.Collection.{no_details, with_all_details}
use Rattle.puffin_view.specs.declared.profile_view.frame_view.FrameView.{FrameView}
use Rattle.puffin_view.specs.View.{View, Took, empty_view, after_all, last_index}
use Rattle.puffin_view.specs.View.Known.{view_of, collection_of, lacks_ids}
use Rattle.puffin_view.specs.View.Ranking.{last_of}
use Rattle.puffin_view.specs.View.ViewedFrames.{fields_of, slowest, rising_end, is_rising}
use Rattle.puffin_view.specs.View.File.{magic, file_of, fields_held, fields_in, frame_stored, details_stored, read_view, file_at, TookFrames, FailsToRead, ReadsView}
use Rattle.puffin_report.specs.Summary.{NoneLacksIds}
use Rattle.puffin_session.specs.declared.command.Command.{Command}
use Rattle.puffin_session.specs.declared.command.Reply.{Reply}
use Rattle.puffin_session.specs.Session.{SessionState, new_session}
use Rattle.puffin_replay.specs.Program.EmittedFrames.{frames_emitted, Takes, TookAlso, ListsIds}
use Rattle.puffin_replay.specs.Promise.{EmitsDue, emitted_fields, kept_frames, IsReadOf, KeepsRun, KeepsPromise, IsFileFault, IsUnread, IsUnreadAnew}
use Rattle.puffin_replay.specs.inner.InMemory.{IsFileOf, IsReadFault}
use Rattle.puffin_replay.proofs.KeptFrames.{same_limits, kept_by}

-- ---- how many frames a file has

packet-some : (c : PacketFields) → 1 ≤ length (packet c)
unfolding packet_head
packet-some c = omega arith

-- each frame's packet has a byte at least, so there are fewer frames than bytes
fewer_frames : (cs : List PacketFields) → length cs ≤ length (flat_map packet cs)
fewer_frames [] = omega arith
fewer_frames (c ∷ cs) =
    let more = length-append (packet c) (flat_map packet cs) in
    let one = packet-some c in
    let others = fewer_frames cs in
    omega arith

few_frames : (bytes : List ℕ) (cs : List PacketFields) → bytes ≡ file_of cs → length bytes < 2 ^ 64 → length cs < 2 ^ 64 - 1
few_frames bytes cs is short =
    let size = ap length is in
    let parts = length-append magic (flat_map packet cs) in
    let fewer = fewer_frames cs in
    omega arith

-- ---- what is read

said_again : (cs : List PacketFields) → map fields_of (map frame_stored (map packed cs)) ≡ cs
said_again [] = refl
said_again (c ∷ cs) = ap (λ (ds : List PacketFields). c ∷ ds) (said_again cs)

-- the details that a frame lists
abbrev own_details : PacketFields → List Details
own_details c = c.details

told_again : (cs : List PacketFields) → flat_map details_stored (map packed cs) ≡ flat_map own_details cs
told_again [] = refl
told_again (c ∷ cs) = ap (λ (ds : List Details). c.details ++ ds) (told_again cs)

-- ---- a view that took frames of which none is missing took them along rising indices

end_fits : (b : Bool) (c : PacketFields) (cs : List PacketFields) → length (rising_end cs) ≤ length cs
    → length (cond b (c ∷ cs) (rising_end cs)) ≤ length (c ∷ cs)
end_fits true c cs h = omega arith
end_fits false c cs h = omega (arith, h)

end_is_shorter : (cs : List PacketFields) → length (rising_end cs) ≤ length cs
end_is_shorter [] = omega arith
end_is_shorter (c ∷ cs) = end_fits (is_rising (c ∷ cs)) c cs (end_is_shorter cs)

last_of_all : (n : ℕ) (cs : List PacketFields) → length cs ≤ n → last_of n cs ≡ cs
last_of_all n cs h = let none : length cs - n ≡ 0 = omega arith in ap (λ (k : ℕ). drop k cs) none

all_rising : (n : ℕ) (cs : List PacketFields) → length cs ≤ n → last_of n (rising_end cs) ≡ cs → rising_end cs ≡ cs
all_rising n cs few last = let shorter = end_is_shorter cs in sym (last_of_all n (rising_end cs) (omega arith)) ∙ last

-- ---- what the laws of views say of a file that was written whole

-- the frames that are read are those that were written
abbrev pub FramesAgain : Type 0
FramesAgain =
    (cs : List PacketFields) (new : Option (List ℕ)) (frames : List Stored) → AllByRecursion IsPacked cs
    → length cs < 2 ^ 64 - 1 → TookFrames file_at (Some (file_of cs)) new frames → frames ≡ map packed cs

-- the view that is read has the frames of the one that was written
abbrev pub ViewAgain : Type 0
ViewAgain =
    (v : View) (new : Option (List ℕ)) (view : FrameView) → AllByRecursion IsPacked (fields_in v)
    → length (fields_in v) < 2 ^ 64 - 1 → ReadsView file_at (Some (file_of (fields_in v))) new (Ok view)
    → map fields_of (view_of view).recent ≡ fields_in v

-- reading fails from outside, or because details have no id
abbrev pub FaultAgain : Type 0
FaultAgain =
    (cs : List PacketFields) (new : Option (List ℕ)) (e : FileError) → AllByRecursion IsPacked cs
    → length cs < 2 ^ 64 - 1 → FailsToRead file_at (Some (file_of cs)) new e → ¬ IsOutside e
    → (e ≡ file.Refused MissingId) × (list_any lacks_ids cs ≡ true)

-- a view that took what was read of these frames, and has them all, has just them
module _ (cs : List PacketFields) (frames : List Stored) (read : FrameView) (few : length cs < 2 ^ 64 - 1)
    (stored : frames ≡ map packed cs) (recent : map fields_of (view_of read).recent ≡ cs) where
  said_of : map fields_of (map frame_stored frames) ≡ cs
  said_of = ap (λ (fs : List Stored). map fields_of (map frame_stored fs)) stored ∙ said_again cs

  taken_of : view_of read ≡ after_all read_view (map frame_stored frames)
      → view_of read ≡ after_all read_view (map frame_stored (map packed cs))
  taken_of taken = taken ∙ ap (λ (fs : List Stored). after_all read_view (map frame_stored fs)) stored

  pub is_read_of : Took (map fields_of (map frame_stored frames)) (view_of read)
      → view_of read ≡ after_all read_view (map frame_stored frames)
      → collection_of read ≡ with_all_details no_details (flat_map details_stored frames) → IsReadOf cs read
  is_read_of took taken details =
      let limits = same_limits read_view (map frame_stored (map packed cs)) in
      let all = taken_of taken in
      let most : (view_of read).max_recent ≡ 2 ^ 64 - 1 = ap (λ (v : View). v.max_recent) all ∙ limits.0 in
      let slowest_most : (view_of read).max_slow ≡ 256 = ap (λ (v : View). v.max_slow) all ∙ limits.1 in
      let last : last_of (2 ^ 64 - 1) (rising_end cs) ≡ cs =
      ap (λ (n : ℕ). last_of n (rising_end cs)) (sym most)
      ∙ ap (λ (ds : List PacketFields). last_of (view_of read).max_recent (rising_end ds)) (sym said_of)
      ∙ sym took.holds.recent
      ∙ recent in
      let rises : rising_end cs ≡ cs = all_rising (2 ^ 64 - 1) cs (omega (arith, few)) last in
      record {
        recent = recent;
        slow = took.holds.slow
            ∙ ap (λ (ds : List PacketFields). slowest (view_of read).max_slow (rising_end ds)) said_of
            ∙ ap (slowest (view_of read).max_slow) rises
            ∙ ap (λ (k : ℕ). slowest k cs) slowest_most;
        last = took.last ∙ ap last_index said_of;
        max_recent = most;
        max_slow = slowest_most;
        packs = ap (λ (v : View). v.packs) all ∙ limits.2;
        frames = all;
        known = details ∙ ap (λ (ds : List Details). with_all_details no_details ds) (ap (flat_map details_stored) stored ∙ told_again cs);
      }

-- the file of a view is read back
pub read_again : FramesAgain → ViewAgain → (v : View) (bytes : List ℕ) (new : Option (List ℕ)) (view : FrameView)
    → IsFileOf bytes v → length bytes < 2 ^ 64 → ReadsView file_at (Some bytes) new (Ok view)
    → IsReadOf (fields_in v) view
read_again frames_again view_again v bytes new view of short reads =
    let cs = fields_in v in
    let few = few_frames bytes cs of.file short in
    let read : ReadsView file_at (Some (file_of cs)) new (Ok view) =
    subst (λ (bs : List ℕ). ReadsView file_at (Some bs) new (Ok view)) of.file reads in
    is_read_of cs read.0 view few (frames_again cs new read.0 of.packed few read.1)
    (view_again v new view of.packed few read) read.2.took read.2.frames read.2.details

-- ---- why a file in memory isn't read

-- a fault that isn't outside is refused by the law
inside : (cs : List PacketFields) (e given : FileError) → (e ≡ file.Io → given ≡ file.Memory)
    → (¬ e ≡ file.Io → given ≡ e) → (¬ IsOutside e → (e ≡ file.Refused MissingId) × (list_any lacks_ids cs ≡ true))
    → IsReadFault cs given
inside cs file.Io given at_io other law = inl (at_io refl)
inside cs file.Memory given at_io other law = inl (other (λ io. cc))
inside cs e given at_io other law =
    let refused = law (λ o. elim o [ inl io ↦ cc | inr memory ↦ cc ]) in inr (other (λ io. cc) ∙ refused.0, refused.1)

-- why the file of a view isn't read back
pub read_fault : FaultAgain → (v : View) (bytes : List ℕ) (new : Option (List ℕ)) (e given : FileError)
    → (e ≡ file.Io → given ≡ file.Memory) → (¬ e ≡ file.Io → given ≡ e) → IsFileOf bytes v → length bytes < 2 ^ 64
    → FailsToRead file_at (Some bytes) new e
    → IsReadFault (fields_in v) given
read_fault fault_again v bytes new e given at_io other of short fails =
    let few = few_frames bytes (fields_in v) of.file short in
    inside (fields_in v) e given at_io other
    (λ outside. fault_again (fields_in v) new e of.packed few
    (subst (λ (bs : List ℕ). FailsToRead file_at (Some bs) new e) of.file fails) outside)

-- the file of these frames can't be read back, or a part of a frame is too long to be written
abbrev MayBeLong : List PacketFields → FileError → Type 0
MayBeLong cs given = IsReadFault cs given ⊎ ((given ≡ file.PartTooLong) × Any HasLongPart cs)

-- why the file of a view isn't written into memory
pub write_fault : (cs : List PacketFields) (fault given : FileError)
    → (fault ≡ file.PartTooLong) ⊎ (fault ≡ file.Memory) ⊎ (fault ≡ file.Io)
    → (fault ≡ file.PartTooLong → Any HasLongPart cs) → (fault ≡ file.Io → given ≡ file.Memory)
    → (¬ fault ≡ file.Io → given ≡ fault) → MayBeLong cs given
write_fault cs fault given (inl part) long at_io other = inr (other (λ io. cc) ∙ part, long part)
write_fault cs fault given (inr (inl memory)) long at_io other = inl (inl (other (λ io. cc) ∙ memory))
write_fault cs fault given (inr (inr io)) long at_io other = inl (inl (at_io io))

-- where a frame that a view has lacks ids, one that it held before did
lacked : (p : List PacketFields) (q : List PacketFields) → (NoneLacksIds p → NoneLacksIds q)
    → list_any lacks_ids q ≡ true → list_any lacks_ids p ≡ true
lacked p q ids lacks = at (list_any lacks_ids p) refl where
  at : (b : Bool) → list_any lacks_ids p ≡ b → b ≡ true
  at true e = refl
  at false e = let none : list_any lacks_ids q ≡ false = ids e in absurd (cc)

-- why neither is done, if the view's frames have ids as far as those that it held before do
pub file_fault : (old new : FrameView) (fault : FileError) → ListsIds (view_of old) (view_of new)
    → MayBeLong (fields_in (view_of new)) fault → IsFileFault old new fault
file_fault old new fault ids (inl (inl memory)) = inl memory
file_fault old new fault ids (inl (inr (missing, lacks))) =
    inr (inr (missing, lacked (fields_held (view_of old)) (fields_in (view_of new)) ids lacks))
file_fault old new fault ids (inr long) = inr (inl long)

-- ---- the promise of a new session and a new view

abbrev no_frames : List PacketFields
no_frames = []

drop_none : (n : ℕ) → drop n no_frames ≡ []
drop_none zero = refl
drop_none (suc n) = refl

take_none : (n : ℕ) → take n no_frames ≡ []
take_none zero = refl
take_none (suc n) = refl

none_took : (v : View) → v.recent ≡ [] → v.slow ≡ [] → v.last ≡ None → Took [] v
none_took v recent slow last = record {
  holds = record {
    recent = ap (map fields_of) recent ∙ sym (drop_none (0 - v.max_recent));
    slow = ap (map fields_of) slow ∙ sym (take_none v.max_slow);
  };
  last = last;
}

module _ (threads : List (List ℕ × Form)) (commands : List Command) (max_recent max_slow : ℕ) (packs : Bool)
    (old new : FrameView)
    (limited : view_of old ≡ record empty_view { max_recent = max_recent; max_slow = max_slow; packs = packs }) where
  recent_limit : (view_of old).max_recent ≡ max_recent
  recent_limit = ap (λ (v : View). v.max_recent) limited

  slow_limit : (view_of old).max_slow ≡ max_slow
  slow_limit = ap (λ (v : View). v.max_slow) limited

  none_before : Took [] (view_of old)
  none_before =
      none_took (view_of old) (ap (λ (v : View). v.recent) limited) (ap (λ (v : View). v.slow) limited)
      (ap (λ (v : View). v.last) limited)

  held_before : NoneLacksIds (fields_held (view_of old))
  held_before = subst (λ (v : View). NoneLacksIds (fields_held v)) (sym limited) refl

  module _ (end : SessionState) where
    abbrev Emits : List Reply → Type 0
    Emits replies = EmitsDue (new_session threads) end commands replies

    -- the view has the frames that the limits keep of those emitted
    view_kept : (replies : List Reply) → Emits replies → Takes (frames_emitted replies) old new
        → TookAlso (frames_emitted replies) (view_of old) (view_of new)
        → fields_in (view_of new) ≡ kept_frames max_recent max_slow (emitted_fields replies)
    view_kept replies emits takes took =
        kept_by (view_of old) (frames_emitted replies) (view_of new) max_recent max_slow (emitted_fields replies)
        recent_limit slow_limit takes.taken emits.rising (took [] none_before)

    -- the promise for any session and view, of new ones
    pub promised : (replies : List Reply) (read : FrameView)
        → KeepsRun (new_session threads) end commands old new replies read
        → KeepsPromise threads commands max_recent max_slow replies read
    promised replies read keeps = record {
      end = end;
      emits = keeps.emits;
      again = subst (λ (cs : List PacketFields). IsReadOf cs read) (view_kept replies keeps.emits keeps.taken keeps.took) keeps.again;
    }

    -- the same of a refusal
    pub refused : (fault : FileError) (told : Option (List Reply))
        → IsUnread (new_session threads) end commands old new fault told
        → IsUnreadAnew threads commands max_recent max_slow fault told
    refused fault told (inl (memory, none, start, takes)) = inl (memory, inl none)
    refused fault told (inr (inl (replies, said, emits, takes, memory))) = inl (memory, inr (replies, said, end, emits))
    refused fault told (inr (inr (replies, said, emits, takes, took, cause))) = by_cause cause
      where
        by_cause : IsFileFault old new fault → IsUnreadAnew threads commands max_recent max_slow fault told
        by_cause (inl memory) = inl (memory, inr (replies, said, end, emits))
        by_cause (inr (inl (part, long))) =
            inr (part, replies, said, end, emits, subst (Any HasLongPart) (view_kept replies emits takes took) long)
        by_cause (inr (inr (missing, lacks))) =
            let none : list_any lacks_ids (fields_held (view_of old)) ≡ false = held_before in absurd (cc)
