-- Files of frames, read packet after packet.
use Rattle.std.proofs.Common.{◌≡◌, ℕ, suc, ◌+◌, ◌-◌, ◌^◌, ◌<◌, ◌≤◌, Bool, true, false, cond, ltb, List, [], ◌∷◌, ◌++◌, length, take, drop, Option, Some, None, Result, Ok, Err, ◌⊎◌, inl, inr, refl, sym, ap, subst, ◌∙◌, append_assoc, arith}
use Rattle.std.specs.Prelude.{is_some, IfOk, IfErr, IfSome, IfNone, if◌then◌else◌}
use Rattle.std.proofs.lemmas.Bool.{le-ltb}
use Rattle.std.specs.Io.KnownBytes.{Consumes, IsAtEnd}
use Rattle.std.proofs.KnownBytes.{Consumes-trans}
use Rattle.std.proofs.lemmas.List.{append-nil}
use Rattle.puffin_data.specs.declared.error.Error.TheVariants.{MissingId}
use Rattle.puffin_data.specs.declared.file_error.FileError.{FileError}
use Rattle.puffin_data.specs.declared.file_error.FileError.TheVariants as file
use Rattle.puffin_data.specs.Device.{FromDevice, FailsAt}
use Rattle.puffin_data.proofs.lemmas.Devices.{stops}
use Rattle.puffin_data.specs.Part.{◌>>=◌}
use Rattle.puffin_frames.specs.Packet.Stored.{Stored, packed, legacy}
use Rattle.puffin_frames.specs.Packet.Letters.{is_packet}
use Rattle.puffin_frames.specs.Packet.Versions.{as_stored, stored_after}
use Rattle.puffin_frames.specs.Packet.Front.{is_end, next_at, AtEnd}
use Rattle.puffin_frames.specs.Packet.Next.{stored_of}
use Rattle.puffin_frames.specs.declared.frame_data.frame.FrameData.{FrameData}
use Rattle.puffin_view.specs.View.ViewedFrames.{fields_of}
use Rattle.puffin_view.specs.View.Known.{lacks_ids}
use Rattle.puffin_view.specs.View.File.{magic, frame_stored, with_ids, frames_from, frames_at, most_packets, begins_file, file_at, FramesReading, TookFrames, TookFault, FailsToRead}
use Rattle.puffin_view.specs.View.FrameFile.{frame_with_ids, frame_at, GivesNext, AreGiven, HasGiven}

-- ---- frames before others

abbrev Answer : Type 0
Answer = Result (List Stored × List ℕ) FileError

abbrev pub behind : List Stored → Answer → Answer
behind frames read = read >>= λ o. Ok (frames ++ o.0, o.1)

behind_none : (read : Answer) → read ≡ behind [] read
behind_none (Ok o) = refl
behind_none (Err e) = refl

-- ---- frames that were given

-- whether a reading gives a frame, or a fault
abbrev gave : Result (Option Stored × List ℕ) FileError → Bool
gave (Ok o) = is_some o.0
gave (Err e) = true

both : true ≡ false → ⊥
both e = cc

abbrev then_frame : List ℕ → Result Stored FileError → Result (Option Stored × List ℕ) FileError
then_frame after r = r >>= λ f. Ok (Some f, after)

abbrev then_others : Answer → Result Stored FileError → Answer
then_others others r = r >>= λ f. others >>= λ o. Ok (f ∷ o.0, o.1)

abbrev frame_in : Result (Option Stored × List ℕ) FileError → Option Stored
frame_in (Ok o) = o.0
frame_in (Err e) = None

abbrev rest_in : Result (Option Stored × List ℕ) FileError → List ℕ
rest_in (Ok o) = o.1
rest_in (Err e) = []

same_frame : (f s : Stored) → ◌≡◌ {A = Option Stored} (Some f) (Some s) → f ≡ s
same_frame f s e = cc

-- what reading all frames makes of a next one with ids, and of a fault
one_by : (others : List ℕ → Answer) (r : Result Stored FileError) (s : Stored) (after rest : List ℕ)
    → then_frame after r ≡ Ok (Some s, rest) → then_others (others after) r ≡ then_others (others rest) (Ok s)
one_by others (Err e) s after rest is = absurd cc
one_by others (Ok f) s after rest is = rw (same_frame f s (ap frame_in is), ap rest_in is) refl

frames_by : (next : Result (Option Stored × List ℕ) FileError) (read : List ℕ → Answer) (s : Stored) (rest : List ℕ)
    → (next >>= λ x. frame_with_ids x.0 x.1) ≡ Ok (Some s, rest)
    → (next >>= λ x. frames_from read x.0 x.1) ≡ then_others (read rest) (Ok s)
frames_by (Err e) read s rest is = absurd cc
frames_by (Ok (None, after)) read s rest is = absurd (both (ap gave (sym is)))
frames_by (Ok (Some t, after)) read s rest is = one_by read (with_ids t) s after rest is

abbrev fault_in : Result (Option Stored × List ℕ) FileError → FileError
fault_in (Ok o) = file.Io
fault_in (Err e) = e

fault_by : (others : Answer) (r : Result Stored FileError) (after : List ℕ) (e : FileError)
    → then_frame after r ≡ Err e → then_others others r ≡ Err e
fault_by others (Err f) after e is = ap Err (ap fault_in is)
fault_by others (Ok f) after e is = absurd cc

frames_fail : (next : Result (Option Stored × List ℕ) FileError) (read : List ℕ → Answer) (e : FileError)
    → (next >>= λ x. frame_with_ids x.0 x.1) ≡ Err e → (next >>= λ x. frames_from read x.0 x.1) ≡ Err e
frames_fail (Err f) read e is = ap Err (ap fault_in is)
frames_fail (Ok (None, after)) read e is = absurd cc
frames_fail (Ok (Some t, after)) read e is = fault_by (read after) (with_ids t) after e is

-- frames that were given are read first, and then what follows
pub goes_on : (bytes : List ℕ) (frames : List Stored) → AreGiven bytes frames → (n : ℕ) (rest : List ℕ)
    → frames_at (n + length frames) (bytes ++ rest) ≡ behind frames (frames_at n rest)
goes_on bytes [] none n rest =
    let same : n + 0 ≡ n = omega arith in
    ap (λ (t : List ℕ). frames_at (n + 0) (t ++ rest)) none
    ∙ (ap (λ (k : ℕ). frames_at k rest) same ∙ behind_none (frames_at n rest))
goes_on bytes (s ∷ frames) h n rest =
    let one : n + suc (length frames) ≡ suc (n + length frames) = omega arith in
    let whole : bytes ++ rest ≡ h.0 ++ (h.1 ++ rest) = ap (λ (t : List ℕ). t ++ rest) h.2 ∙ append_assoc h.0 h.1 rest in
    ap (λ (m : ℕ). frames_at m (bytes ++ rest)) one
    ∙ (ap (frames_at (suc (n + length frames))) whole
    ∙ (frames_by (next_at (h.0 ++ (h.1 ++ rest))) (frames_at (n + length frames)) s (h.1 ++ rest) (h.3 (h.1 ++ rest))
    ∙ (ap (λ (r : Answer). r >>= λ o. Ok (s ∷ o.0, o.1)) (goes_on h.1 frames h.4 n rest)
    ∙ before_others s frames (frames_at n rest))))
  where
    before_others : (s : Stored) (frames : List Stored) (read : Answer)
        → (behind frames read >>= λ o. Ok (s ∷ o.0, o.1)) ≡ behind (s ∷ frames) read
    before_others s frames (Ok o) = refl
    before_others s frames (Err e) = refl

-- one more
one_more : (bytes : List ℕ) (frames : List Stored) (t : List ℕ) (s : Stored) → AreGiven bytes frames
    → ((rest : List ℕ) → frame_at (t ++ rest) ≡ Ok (Some s, rest)) → AreGiven (bytes ++ t) (frames ++ s ∷ [])
one_more bytes [] t s none is = (t, [], ap (λ (b : List ℕ). b ++ t) none ∙ sym (append-nil t), is, refl)
one_more bytes (f ∷ frames) t s h is =
    (h.0, h.1 ++ t, ap (λ (b : List ℕ). b ++ t) h.2 ∙ append_assoc h.0 h.1 t, h.3, one_more h.1 frames t s h.4 is)

-- one frame more was given
pub gives_one : (old mid new : Option (List ℕ)) (frames : List Stored) (s : Stored) (t : List ℕ)
    → HasGiven old mid frames → Consumes mid new t → ((rest : List ℕ) → frame_at (t ++ rest) ≡ Ok (Some s, rest))
    → HasGiven old new (frames ++ s ∷ [])
gives_one old mid new frames s t h c is = record {
  bytes = h.bytes ++ t;
  consumed = Consumes-trans old mid new (magic ++ h.bytes) t h.consumed c;
  given = one_more h.bytes frames t s h.given is;
}

-- a file of fewer frames than so many
abbrev pub file_below : ℕ → FramesReading
file_below n bytes = if begins_file bytes then frames_at n (drop 4 bytes) else Err file.NoMagic

-- the reading behind frames, where a packet can still be read
step : (old new : Option (List ℕ)) (frames : List Stored) (h : HasGiven old new frames) (n : ℕ) (t rest : List ℕ)
    → frames_at (suc n + length frames) ((h.bytes ++ t) ++ rest)
    ≡ behind frames (next_at (t ++ rest) >>= λ next. frames_from (frames_at n) next.0 next.1)
step old new frames h n t rest = ap (frames_at (suc n + length frames)) (append_assoc h.bytes t rest)
    ∙ goes_on h.bytes frames h.given (suc n) (t ++ rest)

-- ---- the end

ends_so : (frames : List Stored) (n : ℕ) (bytes rest : List ℕ) → next_at bytes ≡ Ok (None, rest)
    → behind frames (next_at bytes >>= λ next. frames_from (frames_at n) next.0 next.1) ≡ Ok (frames, rest)
ends_so frames n bytes rest is = rw is (ap (λ (l : List Stored). Ok (l, rest)) (append-nil frames))

none_from : {A : Type 0} (form : A → Stored) (read : Result (A × List ℕ) FileError) (rest : List ℕ)
    → as_stored form read ≡ Ok (None, rest) → ⊥
none_from form (Ok p) rest e = both (ap gave e)
none_from form (Err f) rest e = both (ap gave e)

-- a reading that gives no frame stands at the end
either_way : (p : Bool) (x y : Result (Option Stored × List ℕ) FileError) (after : List ℕ)
    → (x ≡ Ok (None, after) → ⊥) → (y ≡ Ok (None, after) → ⊥) → cond p x y ≡ Ok (None, after) → ⊥
either_way true x y after f g e = f e
either_way false x y after f g e = g e

frame_after : (header bytes after : List ℕ) → stored_after header bytes ≡ Ok (None, after) → ⊥
frame_after header bytes after e =
    either_way (is_packet header) _ _ after (none_from packed _ after) (none_from legacy _ after) e

at_end_by : (b : Bool) (bytes after : List ℕ)
    → cond b (Ok (None, drop 4 bytes)) (stored_after (take 4 bytes) (drop 4 bytes)) ≡ Ok (None, after) → b ≡ true
at_end_by true bytes after e = refl
at_end_by false bytes after e = absurd (frame_after (take 4 bytes) (drop 4 bytes) after e)

-- what is read as the end is an end
pub is_at_end : (bytes after : List ℕ) → next_at bytes ≡ Ok (None, after) → is_end bytes ≡ true
unfolding next_at
is_at_end bytes after e = at_end_by (is_end bytes) bytes after e

-- four bytes that are the end are it whatever follows
four_end : (a b d f : ℕ) (rest : List ℕ) → is_end (a ∷ b ∷ d ∷ f ∷ []) ≡ true → is_end (a ∷ b ∷ d ∷ f ∷ rest) ≡ true
four_end a b d f rest h =
    let long : ltb (length (a ∷ b ∷ d ∷ f ∷ rest)) 4 ≡ false = le-ltb _ _ (omega arith) in
    rw long h

-- four zeros are the end, whatever follows
pub end_stays : (taken rest : List ℕ) → length taken ≡ 4 → is_end taken ≡ true
    → next_at (taken ++ rest) ≡ Ok (None, rest)
unfolding next_at
end_stays [] rest e h = absurd (omega arith)
end_stays (a ∷ []) rest e h = absurd (omega arith)
end_stays (a ∷ b ∷ []) rest e h = absurd (omega arith)
end_stays (a ∷ b ∷ d ∷ []) rest e h = absurd (omega arith)
end_stays (a ∷ b ∷ d ∷ f ∷ []) rest e h = rw (four_end a b d f rest h) refl
end_stays (a ∷ b ∷ d ∷ f ∷ g ∷ more) rest e h = absurd (omega arith)

stays_or_ends : (old mid new : Option (List ℕ)) (frames : List Stored) (n : ℕ) (h : HasGiven old mid frames)
    (t : List ℕ) → next_at t ≡ Ok (None, []) → (length t ≡ 4) ⊎ IsAtEnd new
    → ((rest : List ℕ) → frames_at (suc n + length frames) ((h.bytes ++ t) ++ rest) ≡ Ok (frames, rest)) ⊎ IsAtEnd new
stays_or_ends old mid new frames n h t is (inl four) =
    inl (λ rest. step old mid frames h n t rest
    ∙ ends_so frames n (t ++ rest) rest (end_stays t rest four (is_at_end t [] is)))
stays_or_ends old mid new frames n h t is (inr end) = inr end

took_by : (old mid new : Option (List ℕ)) (frames : List Stored) (n : ℕ) → HasGiven old mid frames → AtEnd mid new
    → TookFrames (file_below (suc n + length frames)) old new frames
took_by old mid new frames n h e = record {
  taken = magic ++ (h.bytes ++ e.taken);
  consumed = Consumes-trans old mid new (magic ++ h.bytes) e.taken h.consumed e.consumed;
  given = ap (frames_at (suc n + length frames)) (sym (append-nil (h.bytes ++ e.taken))) ∙ (step old mid frames h n
      e.taken [] ∙ ends_so frames n (e.taken ++ []) [] (ap next_at (append-nil e.taken) ∙ e.none));
  last = stays_or_ends old mid new frames n h e.taken e.none e.last;
}

-- so many packets can still be read
room : (k : ℕ) → k < most_packets → suc (most_packets - suc k) + k ≡ most_packets
room k lt = omega arith

-- at the end the frames given are those of the file
pub takes_all : (old mid new : Option (List ℕ)) (frames : List Stored) → length frames < most_packets
    → HasGiven old mid frames → AtEnd mid new → TookFrames file_at old new frames
takes_all old mid new frames lt h e =
    subst (λ (n : ℕ). TookFrames (file_below n) old new frames) (room (length frames) lt)
    (took_by old mid new frames (most_packets - suc (length frames)) h e)

-- ---- faults

fault_so : (frames : List Stored) (n : ℕ) (bytes : List ℕ) (e : FileError) → frame_at bytes ≡ Err e
    → behind frames (next_at bytes >>= λ next. frames_from (frames_at n) next.0 next.1) ≡ Err e
fault_so frames n bytes e is = rw (frames_fail (next_at bytes) (frames_at n) e is) refl

fault_at_end : (old mid new : Option (List ℕ)) (frames : List Stored) (n : ℕ) (h : HasGiven old mid frames)
    (e : FileError) (t : List ℕ) → Consumes mid new t → frame_at t ≡ Err e → IsAtEnd new
    → TookFault (file_below (suc n + length frames)) old new e
fault_at_end old mid new frames n h e t c is end = record {
  taken = magic ++ (h.bytes ++ t);
  consumed = Consumes-trans old mid new (magic ++ h.bytes) t h.consumed c;
  fails = ap (frames_at (suc n + length frames)) (sym (append-nil (h.bytes ++ t)))
      ∙ (step old mid frames h n t [] ∙ fault_so frames n (t ++ []) e (ap frame_at (append-nil t) ∙ is));
  last = inr end;
}

fault_stays : (old mid new : Option (List ℕ)) (frames : List Stored) (n : ℕ) (h : HasGiven old mid frames)
    (e : FileError) (t : List ℕ) → Consumes mid new t
    → ((rest : List ℕ) → frames_at (suc n + length frames) ((h.bytes ++ t) ++ rest) ≡ Err e)
    → TookFault (file_below (suc n + length frames)) old new e
fault_stays old mid new frames n h e t c is = record {
  taken = magic ++ (h.bytes ++ t);
  consumed = Consumes-trans old mid new (magic ++ h.bytes) t h.consumed c;
  fails = ap (frames_at (suc n + length frames)) (sym (append-nil (h.bytes ++ t))) ∙ is [];
  last = inl is;
}

fault_follows : (old mid new : Option (List ℕ)) (frames : List Stored) (n : ℕ) (h : HasGiven old mid frames)
    (e : FileError) (t : List ℕ) → Consumes mid new t → ((rest : List ℕ) → frame_at (t ++ rest) ≡ Err e)
    → TookFault (file_below (suc n + length frames)) old new e
fault_follows old mid new frames n h e t c is =
    fault_stays old mid new frames n h e t c
    (λ rest. step old mid frames h n t rest ∙ fault_so frames n (t ++ rest) e (is rest))

fails_by : (old mid new : Option (List ℕ)) (frames : List Stored) (n : ℕ) (h : HasGiven old mid frames)
    (e : FileError) → FailsAt e mid new frame_at → FailsToRead (file_below (suc n + length frames)) old new e
fails_by old mid new frames n h file.Io f = tt
fails_by old mid new frames n h file.Memory f = tt
fails_by old mid new frames n h file.Truncated f = fault_at_end old mid new frames n h file.Truncated f.0 f.1 f.3 f.2
fails_by old mid new frames n h e f = fault_follows old mid new frames n h e f.0 f.1 f.2

-- the next frame's fault is that of the file
pub fails_next : (old mid new : Option (List ℕ)) (frames : List Stored) (e : FileError) → length frames < most_packets
    → HasGiven old mid frames → FailsAt e mid new frame_at → FailsToRead file_at old new e
fails_next old mid new frames e lt h f =
    subst (λ (n : ℕ). FailsToRead (file_below n) old new e) (room (length frames) lt)
    (fails_by old mid new frames (most_packets - suc (length frames)) h e f)

-- too many packets
spent_by : (old new : Option (List ℕ)) (frames : List Stored) (h : HasGiven old new frames)
    → TookFault (file_below (0 + length frames)) old new file.Truncated
spent_by old new frames h = record {
  taken = magic ++ h.bytes;
  consumed = h.consumed;
  fails = ap (frames_at (0 + length frames)) (sym (append-nil h.bytes)) ∙ goes_on h.bytes frames h.given 0 [];
  last = inl (λ rest. goes_on h.bytes frames h.given 0 rest);
}

-- a file of too many frames is `Truncated`
pub spent : (old new : Option (List ℕ)) (frames : List Stored) → length frames ≡ most_packets
    → HasGiven old new frames → FailsToRead file_at old new file.Truncated
spent old new frames e h =
    let all : 0 + length frames ≡ most_packets = omega (arith, e) in
    subst (λ (n : ℕ). TookFault (file_below n) old new file.Truncated) all (spent_by old new frames h)

-- the greatest number of packets
pub most_is : most_packets ≡ 2 ^ 64 - 1
unfolding most_packets
most_is = refl

-- fewer than the greatest number
pub room_left : (n : ℕ) → n < 2 ^ 64 - 1 → n < most_packets
room_left n lt = subst (λ (m : ℕ). n < m) (sym most_is) lt

-- the loop has counted to the greatest number
pub none_left : (n k : ℕ) → n ≡ k → 2 ^ 64 - 1 ≤ k → k ≤ 2 ^ 64 - 1 → n ≡ most_packets
none_left n k e low high = subst (λ (m : ℕ). n ≡ m) (sym most_is) (omega (arith, e, low, high))

-- `2 ^ 64 - 1` is the greatest number of packets
pub most_frames : (n : ℕ) → n ≡ 2 ^ 64 - 1 → n ≡ most_packets
most_frames n e = subst (λ (m : ℕ). n ≡ m) (sym most_is) e

-- ---- one call

-- a frame that was read, by its ids
with_its_ids : (s : Stored) (bytes rest : List ℕ) → next_at bytes ≡ Ok (Some s, rest)
    → lacks_ids (fields_of (frame_stored s)) ≡ false → frame_at bytes ≡ Ok (Some s, rest)
with_its_ids s bytes rest is ids = rw (is, ids) refl

without_ids : (s : Stored) (bytes rest : List ℕ) → next_at bytes ≡ Ok (Some s, rest)
    → lacks_ids (fields_of (frame_stored s)) ≡ true → frame_at bytes ≡ Err (file.Refused MissingId)
without_ids s bytes rest is lacks = rw (is, lacks) refl

-- a frame whose details have ids is given
pub checked : (old new : Option (List ℕ)) (frame : FrameData)
    → FromDevice {X = FrameData} (λ f. Some (stored_of f)) old new (Ok frame) next_at
    → lacks_ids (fields_of (frame_stored (stored_of frame))) ≡ false → GivesNext old new (Ok (Some frame))
checked old new frame h ids = (h.0, h.1, λ rest. with_its_ids (stored_of frame) (h.0 ++ rest) rest (h.2 rest) ids, h.3)

-- a frame whose details lack ids is a fault
pub refused : (old new : Option (List ℕ)) (frame : FrameData)
    → FromDevice {X = FrameData} (λ f. Some (stored_of f)) old new (Ok frame) next_at
    → lacks_ids (fields_of (frame_stored (stored_of frame))) ≡ true → GivesNext old new (Err (file.Refused MissingId))
refused old new frame h lacks = (h.0, h.1, λ rest. without_ids (stored_of frame) (h.0 ++ rest) rest (h.2 rest) lacks)

-- a fault of the packet is one of the frame
pub failed : (old new : Option (List ℕ)) (e : FileError) → FailsAt e old new next_at → GivesNext old new (Err e)
failed old new e h = stops e old new next_at frame_with_ids h

-- ---- a call after others

-- a call that gave a frame gave one more of the file
pub given_more : (mid new : Option (List ℕ)) (r : Result (Option FrameData) FileError) → GivesNext mid new r
    → IfOk r (λ next. IfSome next (λ frame. (old : Option (List ℕ)) (frames : List Stored) → HasGiven old mid frames
    → HasGiven old new (frames ++ stored_of frame ∷ [])))
given_more mid new (Err e) h = tt
given_more mid new (Ok None) h = tt
given_more mid new (Ok (Some frame)) h = λ old frames g. gives_one old mid new frames (stored_of frame) h.0 g h.1 h.2

-- a call that gave the end gave all frames of the file
pub all_given : (mid new : Option (List ℕ)) (r : Result (Option FrameData) FileError) → GivesNext mid new r
    → IfOk r (λ next. IfNone next ((old : Option (List ℕ)) (frames : List Stored) → HasGiven old mid frames
    → length frames < 2 ^ 64 - 1 → TookFrames file_at old new frames))
all_given mid new (Err e) h = tt
all_given mid new (Ok None) h = λ old frames g lt. takes_all old mid new frames (room_left (length frames) lt) g h
all_given mid new (Ok (Some frame)) h = tt

-- a call that failed has the fault of the file
pub fault_given : (mid new : Option (List ℕ)) (r : Result (Option FrameData) FileError) → GivesNext mid new r
    → IfErr r (λ e. (old : Option (List ℕ)) (frames : List Stored) → HasGiven old mid frames
    → length frames < 2 ^ 64 - 1 → FailsToRead file_at old new e)
fault_given mid new (Err e) h = λ old frames g lt. fails_next old mid new frames e (room_left (length frames) lt) g h
fault_given mid new (Ok next) h = tt
