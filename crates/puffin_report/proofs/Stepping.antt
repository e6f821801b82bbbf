-- Summing up goes on with one more frame, and ends with the summary of all that were read or the first cause.
use Rattle.std.proofs.Common.{◌≡◌, ℕ, ◌-◌, ◌^◌, ◌<◌, ◌≤◌, Bool, true, false, cond, List, [], ◌∷◌, ◌++◌, length, map, Option, Some, Result, Ok, Err, ◌⊎◌, inl, inr, refl, sym, ap, subst, ◌∙◌, append_assoc, arith}
use Rattle.std.specs.Prelude.{IfOk, IfErr, option_map, nat_lt, ◌≢◌}
use Rattle.std.specs.Option.{option_map_or}
use Rattle.std.specs.List.{flat_map}
use Rattle.std.proofs.lemmas.List.{map-append, append-nil, flat_map_more, length-map}
use Rattle.std.proofs.lemmas.List.Sums.{fold-append}
use Rattle.puffin_data.specs.Cause.{file_error_of}
use Rattle.puffin_data.specs.declared.error.Error.{Error}
use Rattle.puffin_data.specs.declared.error.Error.TheVariants.{Memory}
use Rattle.puffin_data.specs.declared.file_error.FileError.{FileError}
use Rattle.puffin_data.specs.declared.file_error.FileError.TheVariants as file
use Rattle.puffin_threads.specs.Thread.ThreadKey.{ThreadKey}
use Rattle.puffin_threads.specs.Details.Collection.{Collection, no_details, with_details, with_all_details}
use Rattle.puffin_frames.specs.declared.frame_data.frame.FrameData.{FrameData}
use Rattle.puffin_frames.specs.declared.frame_data.unpacked.UnpackedFrameData.{UnpackedFrameData}
use Rattle.puffin_frames.specs.Frame.Contents.{packet_fields, frame_meta, frame_details}
use Rattle.puffin_frames.specs.Packet.Stored.{PacketFields, Stored}
use Rattle.puffin_view.specs.View.{after_all, last_index, rises_behind}
use Rattle.puffin_view.specs.View.ViewedFrames.{Frame, fields_of, frame_index, rising_end, is_rising}
use Rattle.puffin_view.specs.View.Ranking.{last_from, last_in}
use Rattle.puffin_view.specs.View.FrameOf.{frame_of, details_of_frame}
use Rattle.puffin_view.specs.View.File.{frame_stored, details_stored, fields_in, read_view, file_at, TookFrames, FailsToRead}
use Rattle.puffin_merge.specs.declared.merge.merger.Merger.{Merger}
use Rattle.puffin_merge.specs.Merge.FrameBytes.{FrameBytes}
use Rattle.puffin_merge.specs.Merge.Refusals.{IsRefusalAfter, IsMergeRefusal, AreMerged}
use Rattle.puffin_merge.specs.Merge.Scopes.{frame_bytes, forest_in}
use Rattle.puffin_merge.specs.Merge.Merger.{HasAdded, CanAdd, merged_info, tries_for}
use Rattle.puffin_report.specs.Summary.{bytes_in, followed_by, all_bytes_in, fields_read, IsSummary, IsHindered, FailsToSumUp}
use Rattle.puffin_report.specs.declared.summing.Progress.{Progress}
use Rattle.puffin_report.specs.declared.summing.Progress.TheVariants as progress
use Rattle.puffin_report.specs.inner.Summing.{said_by, kept_of, AreAdded, AreRefused, IsProgress, CanGoOn, IsKeptWith, HasSummed}
use Rattle.puffin_report.specs.declared.summing.Summing.{Summing}
use Rattle.puffin_report.specs.declared.summary.Summary.{Summary}
use Rattle.puffin_report.proofs.Summaries.{size_of_all, never_io, is_memory}

-- ---- results

pub if_ok_so : {T E : Type 0} {P Q : T → Type 0} (r : Result T E) → ((x : T) → P x → Q x) → IfOk r P → IfOk r Q
if_ok_so (Ok x) step h = step x h
if_ok_so (Err e) step h = tt

pub if_err_so : {T E : Type 0} {P Q : E → Type 0} (r : Result T E) → ((e : E) → P e → Q e) → IfErr r P → IfErr r Q
if_err_so (Ok x) step h = tt
if_err_so (Err e) step h = step e h

pub not_memory : {P : Type 0} (e : FileError) → e ≢ file.Memory → (e ≡ file.Memory) ⊎ P → P
not_memory e differs (inl memory) = absurd (differs memory)
not_memory e differs (inr p) = p

pub refused_of : (cause : Error) → cause ≢ Memory → file_error_of cause ≡ file.Refused cause
refused_of Memory differs = absurd (differs refl)
refused_of cause differs = refl

-- ---- one frame more

abbrev then_one : Result (List FrameBytes) FileError → Result FrameBytes FileError → Result (List FrameBytes) FileError
then_one (Err e) b = Err e
then_one (Ok bs) (Err e) = Err e
then_one (Ok bs) (Ok b) = Ok (bs ++ b ∷ [])

first_one : (b : Result FrameBytes FileError) → followed_by b (Ok []) ≡ then_one (Ok []) b
first_one (Err e) = refl
first_one (Ok b) = refl

one_behind : (x : Result FrameBytes FileError) (ys : Result (List FrameBytes) FileError)
    (z : Result FrameBytes FileError) → followed_by x (then_one ys z) ≡ then_one (followed_by x ys) z
one_behind (Err e) ys z = refl
one_behind (Ok x) (Err e) z = refl
one_behind (Ok x) (Ok ys) (Err e) = refl
one_behind (Ok x) (Ok ys) (Ok z) = refl

all_more : (info : ThreadKey) (kept : List PacketFields) (c : PacketFields)
    → all_bytes_in info (kept ++ c ∷ []) ≡ then_one (all_bytes_in info kept) (bytes_in info c)
all_more info [] c = first_one (bytes_in info c)
all_more info (d ∷ ds) c =
    ap (followed_by (bytes_in info d)) (all_more info ds c)
    ∙ one_behind (bytes_in info d) (all_bytes_in info ds) (bytes_in info c)

all_with : (info : ThreadKey) (kept : List PacketFields) (c : PacketFields) (streams : List FrameBytes)
    (b : Result FrameBytes FileError) → all_bytes_in info kept ≡ Ok streams → bytes_in info c ≡ b
    → all_bytes_in info (kept ++ c ∷ []) ≡ then_one (Ok streams) b
all_with info kept c streams b is read =
    all_more info kept c
    ∙ ap (λ (r : Result (List FrameBytes) FileError). then_one r (bytes_in info c)) is
    ∙ ap (then_one (Ok streams)) read

pub fault_stays : (info : ThreadKey) (kept : List PacketFields) (c : PacketFields) (e : FileError)
    → all_bytes_in info kept ≡ Err e → all_bytes_in info (kept ++ c ∷ []) ≡ Err e
fault_stays info kept c e is = all_more info kept c ∙ ap (λ (r : Result (List FrameBytes) FileError). then_one r (bytes_in info c)) is

pub fault_comes : (info : ThreadKey) (kept : List PacketFields) (p : Progress) (c : PacketFields) (e : FileError)
    → ((fault : FileError) → p ≡ progress.NotUnpacked fault → ⊥) → IsProgress info kept p → bytes_in info c ≡ Err e
    → all_bytes_in info (kept ++ c ∷ []) ≡ Err e
fault_comes info kept (progress.Merged m) c e so h read = all_with info kept c h.streams (Err e) h.unpacked read
fault_comes info kept (progress.Refused cause) c e so h read = all_with info kept c h.streams (Err e) h.unpacked read
fault_comes info kept (progress.NotUnpacked fault) c e so h read = absurd (so fault refl)

pub can_add : (p : Progress) (m : Merger) → p ≡ progress.Merged m → CanGoOn p → CanAdd m
can_add p m is h =
    let so_far : AreAdded h.info h.kept m = subst (IsProgress h.info h.kept) is h.so_far in (
      (so_far.streams, so_far.added),
      omega (arith, h.fewer, so_far.added.number, size_of_all h.info h.kept so_far.streams so_far.unpacked),
    )

pub one_added : (info : ThreadKey) (kept : List PacketFields) (m new : Merger) (c : PacketFields)
    (u : UnpackedFrameData) → AreAdded info kept m → bytes_in info c ≡ Ok (frame_bytes info u) → new.info ≡ m.info
    → ((added : List FrameBytes) → HasAdded added m → HasAdded (added ++ (frame_bytes (merged_info m) u ∷ [])) new)
    → AreAdded info (kept ++ c ∷ []) new
one_added info kept m new c u h read same more = record {
  streams = h.streams ++ frame_bytes info u ∷ [];
  unpacked = all_with info kept c h.streams (Ok (frame_bytes info u)) h.unpacked read;
  added = subst (λ (i : ThreadKey). HasAdded (h.streams ++ (frame_bytes i u ∷ [])) new) h.thread (more h.streams h.added);
  thread = rw same h.thread;
}

pub one_refused : (info : ThreadKey) (kept : List PacketFields) (m : Merger) (c : PacketFields)
    (u : UnpackedFrameData) (cause : Error) → AreAdded info kept m → bytes_in info c ≡ Ok (frame_bytes info u)
    → (cause ≡ Memory → ⊥)
    →
    ((added later : List FrameBytes) → HasAdded added m
    → (cause ≡ Memory) ⊎ IsMergeRefusal (added ++ (frame_bytes (merged_info m) u ∷ later)) cause)
    → AreRefused info (kept ++ c ∷ []) cause
one_refused info kept m c u cause h read differs refused =
    let b = frame_bytes info u in
    record {
      streams = h.streams ++ b ∷ [];
      unpacked = all_with info kept c h.streams (Ok b) h.unpacked read;
      not_memory = differs;
      refused = λ later. elim (refused h.streams later h.added) [
        | inl memory ↦ absurd (differs memory)
        | inr r ↦
            subst (λ (bs : List FrameBytes). IsMergeRefusal bs cause) (sym (append_assoc h.streams (b ∷ []) later))
            (subst (λ (i : ThreadKey). IsMergeRefusal (h.streams ++ (frame_bytes i u ∷ later)) cause) h.thread r)
      ];
    }

still_refused : (info : ThreadKey) (kept : List PacketFields) (c : PacketFields) (u : UnpackedFrameData)
    (cause : Error) → AreRefused info kept cause → bytes_in info c ≡ Ok (frame_bytes info u)
    → AreRefused info (kept ++ c ∷ []) cause
still_refused info kept c u cause h read =
    let b = frame_bytes info u in
    record {
      streams = h.streams ++ b ∷ [];
      unpacked = all_with info kept c h.streams (Ok b) h.unpacked read;
      not_memory = h.not_memory;
      refused = λ later.
          subst (λ (bs : List FrameBytes). IsMergeRefusal bs cause) (sym (append_assoc h.streams (b ∷ []) later))
          (h.refused (b ∷ later));
    }

pub stays_at_fault : (info : ThreadKey) (kept : List PacketFields) (p : Progress) (c : PacketFields)
    (u : UnpackedFrameData) → ((m : Merger) → p ≡ progress.Merged m → ⊥) → IsProgress info kept p
    → bytes_in info c ≡ Ok (frame_bytes info u) → IsProgress info (kept ++ c ∷ []) p
stays_at_fault info kept (progress.Merged m) c u so h read = absurd (so m refl)
stays_at_fault info kept (progress.Refused cause) c u so h read = still_refused info kept c u cause h read
stays_at_fault info kept (progress.NotUnpacked fault) c u so h read = fault_stays info kept c fault h

-- ---- which frames are kept

pub fewer_kept : (cs : List PacketFields) → length (rising_end cs) ≤ length cs
fewer_kept [] = omega arith
fewer_kept (c ∷ cs) = by (is_rising (c ∷ cs)) (fewer_kept cs) where
  by : (b : Bool) → length (rising_end cs) ≤ length cs → length (cond b (c ∷ cs) (rising_end cs)) ≤ length (c ∷ cs)
  by true h = omega arith
  by false h = omega (arith, h)

pub rises_so : (last : Option ℕ) (index : ℕ) (cs : List PacketFields) (c : PacketFields) (r b : Bool)
    → last ≡ last_index cs → index ≡ frame_index c → r ≡ option_map_or (λ i. nat_lt i index) last true → r ≡ b
    → rises_behind (last_index cs) c ≡ b
rises_so last index cs c r b at_last at_index test is =
    let same : option_map_or (λ i. nat_lt i index) last true ≡ rises_behind (last_index cs) c =
    λ j. option_map_or (λ i. nat_lt i (at_index j)) (at_last j) true in
    sym same ∙ sym test ∙ is

pub all_kept : (info : ThreadKey) (cs : List PacketFields) (c : PacketFields) (p : Progress)
    → IsProgress info (rising_end cs) p → rising_end (cs ++ c ∷ []) ≡ rising_end cs ++ c ∷ [] → IsKeptWith info cs c p
all_kept info cs c p h kept = record { before = rising_end cs; fewer = fewer_kept cs; progress = h; kept = kept }

pub none_added : (info : ThreadKey) (m : Merger) → HasAdded [] m → merged_info m ≡ info → AreAdded info [] m
none_added info m h same = record { streams = []; unpacked = refl; added = h; thread = same }

pub can_go_on : (info : ThreadKey) (stored : List Stored) (c : PacketFields) (p : Progress)
    → length stored < 2 ^ 64 - 1 → IsKeptWith info (said_by stored) c p → CanGoOn p
can_go_on info stored c p few kept = record {
  info = info;
  kept = kept.before;
  so_far = kept.progress;
  fewer = omega (
    arith,
    few,
    kept.fewer,
    length-map (map frame_stored stored) fields_of,
    length-map stored frame_stored,
  );
}

-- ---- a frame is taken

last_one : (xs : List PacketFields) (c : PacketFields) → last_in (xs ++ c ∷ []) ≡ Some c
last_one [] c = refl
last_one (x ∷ xs) c = ap (λ (d : PacketFields). Some d) (last_behind x xs c) where
  last_behind : (x : PacketFields) (xs : List PacketFields) (c : PacketFields) → last_from x (xs ++ c ∷ []) ≡ c
  last_behind x [] c = refl
  last_behind x (y ∷ ys) c = last_behind y ys c

said_with : (stored : List Stored) (s : Stored) (frame : FrameData) → frame_of frame ≡ frame_stored s
    → said_by (stored ++ s ∷ []) ≡ said_by stored ++ packet_fields frame ∷ []
said_with stored s frame is =
    ap (map fields_of) (map-append frame_stored stored (s ∷ [])) ∙ map-append fields_of (map frame_stored stored) (frame_stored s ∷ [])
    ∙ ap (λ (f : Frame). said_by stored ++ fields_of f ∷ []) (sym is)

pub one_taken : (info : ThreadKey) (stored : List Stored) (s : Stored) (old new : Summing) (frame : FrameData)
    → frame_of frame ≡ frame_stored s → HasSummed info stored old → new.thread ≡ old.thread
    → new.last_index ≡ Some (frame_meta frame).frame_index → new.scopes ≡ with_all_details old.scopes (frame_details frame)
    → (p : Progress) → (kept : IsKeptWith info (said_by stored) (packet_fields frame) p)
    → IsProgress info (kept.before ++ packet_fields frame ∷ []) new.progress
    → HasSummed info (stored ++ s ∷ []) new
one_taken info stored s old new frame is h thread last learnt p kept progress =
    let said = said_with stored s frame is in
    record {
      thread = rw thread h.thread;
      last = last ∙ sym (ap last_index said ∙ ap (option_map frame_index) (last_one (said_by stored) (packet_fields frame)));
      scopes = learnt ∙ (ap (λ (c : Collection). with_all_details c (frame_details frame)) h.scopes
          ∙ (ap (λ (f : Frame). with_all_details (with_all_details no_details (flat_map details_stored stored)) (details_of_frame f)) is
          ∙
          (sym (fold-append with_details no_details (flat_map details_stored stored) (details_stored s))
          ∙ ap (with_all_details no_details) (flat_map_more details_stored [] stored s))));
      progress = subst (λ (cs : List PacketFields). IsProgress info cs new.progress) (sym (ap rising_end said ∙ kept.kept)) progress;
    }

-- ---- the end

pub kept_is_read : (stored : List Stored)
    → ((fs : List Frame) → length fs < 2 ^ 64 - 1 → fields_in (after_all read_view fs) ≡ rising_end (map fields_of fs))
    → length stored < 2 ^ 64 - 1 → fields_read stored ≡ kept_of stored
kept_is_read stored keeps few = keeps (map frame_stored stored) (omega (arith, few, length-map stored frame_stored))

module _ (info : ThreadKey) (stored : List Stored) (s : Summing) (h : HasSummed info stored s)
    (read : fields_read stored ≡ kept_of stored) where
  pub summed : (m : Merger) (summary : Summary) → s.progress ≡ progress.Merged m
      → ((added : List FrameBytes) → HasAdded added m → summary.frames ≡ length added)
      → ((added : List FrameBytes) → HasAdded added m → AreMerged added (forest_in summary.merged.items))
      → summary.scopes ≡ s.scopes → IsSummary info stored summary
  summed m summary is number merged scopes =
      let all : AreAdded info (kept_of stored) m = subst (IsProgress info (kept_of stored)) is h.progress in
      record {
        frames = number all.streams all.added
            ∙ size_of_all info (kept_of stored) all.streams all.unpacked
            ∙ ap length (sym read);
        streams = all.streams;
        unpacked = ap (all_bytes_in info) read ∙ all.unpacked;
        merged = merged all.streams all.added;
        scopes = scopes ∙ h.scopes;
      }

  hindered_by : (streams : List FrameBytes) (cause : Error) → all_bytes_in info (kept_of stored) ≡ Ok streams
      → (cause ≡ Memory → ⊥) → IsMergeRefusal streams cause
      → IsHindered info (fields_read stored) (file.Refused cause)
  hindered_by streams cause unpacked differs refused = inr (streams, cause, ap (all_bytes_in info) read ∙ unpacked, refl, differs, refused)

  pub refused_at_end : (m : Merger) (cause : Error) (fault : FileError) → s.progress ≡ progress.Merged m
      → ((added : List FrameBytes) → (k : HasAdded added m)
      → (cause ≡ Memory) ⊎ IsRefusalAfter added (tries_for k) cause)
      → (cause ≡ Memory → fault ≡ file.Memory) → (cause ≢ Memory → fault ≡ file.Refused cause)
      → (fault ≡ file.Memory) ⊎ IsHindered info (fields_read stored) fault
  refused_at_end m cause fault is refused memory other =
      let all : AreAdded info (kept_of stored) m = subst (IsProgress info (kept_of stored)) is h.progress in
      elim (is_memory cause) [
        | inl want ↦ inl (memory want)
        | inr differs ↦ inr (elim (refused all.streams all.added) [
          | inl want ↦ absurd (differs want)
          | inr r ↦
              subst (IsHindered info (fields_read stored)) (sym (other differs))
              (hindered_by all.streams cause all.unpacked differs (tries_for all.added, r))
        ])
      ]

  pub refused_before : (cause : Error) → s.progress ≡ progress.Refused cause → IsHindered info (fields_read stored) (file.Refused cause)
  refused_before cause is =
      let all : AreRefused info (kept_of stored) cause = subst (IsProgress info (kept_of stored)) is h.progress in
      hindered_by all.streams cause all.unpacked all.not_memory
      (subst (λ (bs : List FrameBytes). IsMergeRefusal bs cause) (append-nil all.streams) (all.refused []))

  pub not_unpacked_before : (fault : FileError) → s.progress ≡ progress.NotUnpacked fault → IsHindered info (fields_read stored) fault
  not_unpacked_before fault is =
      let unpacked : all_bytes_in info (kept_of stored) ≡ Err fault = subst (IsProgress info (kept_of stored)) is h.progress in
      inl (ap (all_bytes_in info) read ∙ unpacked)

pub no_io_before : (info : ThreadKey) (stored : List Stored) (s : Summing) (fault : FileError)
    → HasSummed info stored s → s.progress ≡ progress.NotUnpacked fault → fault ≢ file.Io
no_io_before info stored s fault h is =
    let a : all_bytes_in info (kept_of stored) ≡ Err fault = subst (IsProgress info (kept_of stored)) is h.progress in
    never_io info (kept_of stored) fault a

-- ---- a file is summed up

pub room_left : (stored : List Stored) (k : ℕ) → length stored ≡ k → k < 2 ^ 64 - 1 → length stored < 2 ^ 64 - 1
room_left stored k is lt = omega (arith, is, lt)

pub none_left : (stored : List Stored) (k : ℕ) → length stored ≡ k → 2 ^ 64 - 1 ≤ k → k ≤ 2 ^ 64 - 1 → length stored ≡ 2 ^ 64 - 1
none_left stored k is ge le = omega (arith, is, ge, le)

pub ends_so : (info : ThreadKey) (old new : Option (List ℕ)) (stored : List Stored) (fault : FileError)
    → TookFrames file_at old new stored → (fault ≡ file.Memory) ⊎ IsHindered info (fields_read stored) fault
    → FailsToSumUp info old new fault
ends_so info old new stored fault took (inl memory) = inl (subst (FailsToRead file_at old new) (sym memory) tt)
ends_so info old new stored fault took (inr hindered) = inr (stored, took, hindered)
