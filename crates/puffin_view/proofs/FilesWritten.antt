-- Files of frames, written packet after packet, and read again.
use Rattle.std.proofs.Common.{◌≡◌, ℕ, suc, ◌+◌, ◌-◌, ◌^◌, ◌<◌, Bool, true, false, cond, ◌||◌, List, [], ◌∷◌, ◌++◌, length, drop, map, Option, None, Some, Result, Ok, Err, ◌⊎◌, inl, inr, refl, sym, ap, subst, ◌∙◌, append_assoc, arith}
use Rattle.std.specs.Prelude.{IfErr, OnOk}
use Rattle.std.specs.List.{flat_map, AllByRecursion, Any, list_any}
use Rattle.std.specs.Io.KnownBytes.{Appends}
use Rattle.std.proofs.KnownBytes.{Appends-trans}
use Rattle.std.proofs.lemmas.List.{append-nil, append_cancel_left, flat_map_more}
use Rattle.std.proofs.lemmas.Grind.{flat_map-append}
use Rattle.puffin_data.specs.declared.file_error.FileError.{FileError}
use Rattle.puffin_data.specs.declared.file_error.FileError.TheVariants as file
use Rattle.puffin_data.specs.Part.{◌>>=◌}
use Rattle.puffin_data.specs.Value.Layout.{NoneBeginsAnother}
use Rattle.puffin_data.specs.Device.{TookNothing, WritesBeginning, is_io}
use Rattle.puffin_data.specs.Cause.{file_error_of}
use Rattle.puffin_data.specs.declared.error.Error.{Error}
use Rattle.puffin_data.specs.declared.error.Error.TheVariants.{Memory, MissingId}
use Rattle.puffin_frames.specs.Packet.Stored.{PacketFields, Stored, packed}
use Rattle.puffin_frames.specs.Packet.Front.{next_at, is_end}
use Rattle.puffin_frames.specs.Packet.Grammar.{packet_head, packet, IsPacked}
use Rattle.puffin_threads.specs.Details.Collection.{Collection}
use Rattle.puffin_frames.specs.Packet.Writing.{HasLongPart, details_or}
use Rattle.puffin_view.specs.View.ViewedFrames.{Frame, fields_of}
use Rattle.puffin_view.specs.View.Known.{lacks_ids}
use Rattle.puffin_view.specs.View.File.{magic, file_of, first_with, without_details, WritesFile, with_ids, frames_from, frames_at, most_packets, file_at}
use Rattle.puffin_view.specs.View.FrameFile.{HoldsFile, HoldsBegun, HoldsSoFar, written_after}

-- ---- a file grows

-- a file with one packet more
pub file_more : (done : List PacketFields) (c : PacketFields) → file_of done ++ packet c ≡ file_of (done ++ c ∷ [])
file_more done c = flat_map_more packet magic done c

file_with : (done left : List PacketFields) → file_of (done ++ left) ≡ file_of done ++ flat_map packet left
file_with done left = ap (λ (t : List ℕ). magic ++ t) (flat_map-append packet done left)
    ∙ sym (append_assoc magic (flat_map packet done) (flat_map packet left))

-- all packets fit, with one more
pub all_more : (done : List PacketFields) (c : PacketFields) → AllByRecursion IsPacked done → IsPacked c
    → AllByRecursion IsPacked (done ++ c ∷ [])
all_more [] c h p = (p, tt)
all_more (d ∷ done) c (first, others) p = (first, all_more done c others p)

-- the frames that are left begin with one
pub one_left : (done : List PacketFields) (o : Option Collection) (c : PacketFields) (f : Frame)
    (now next : List Frame) (cs : List PacketFields) → cs ≡ done ++ first_with o (map fields_of now) → now ≡ f ∷ next
    → c ≡ fields_of f
    → cs ≡ done ++ record c { details = details_or c.details o } ∷ map fields_of next
one_left done o c f now next cs is left same =
    is ∙ (ap (λ (fs : List Frame). done ++ first_with o (map fields_of fs)) left ∙ ap
    (λ (d : PacketFields). done ++ record d { details = details_or d.details o } ∷ map fields_of next) (sym same))

-- without other details the first frame's own stay
pub first_as_it_is : (cs : List PacketFields) → first_with None cs ≡ cs
first_as_it_is [] = refl
first_as_it_is (c ∷ cs) = refl

-- other details of the first frame change nothing else
pub others_stay : (scopes : Option Collection) (cs : List PacketFields)
    → map without_details (first_with scopes cs) ≡ map without_details cs
others_stay scopes [] = refl
others_stay scopes (c ∷ cs) = refl

-- a prefix of the letters is one of the file
pub magic_begins : (old new : Option (List ℕ)) (cs : List PacketFields) → WritesBeginning old new magic
    → WritesBeginning old new (file_of cs)
magic_begins old new cs h = (
  h.0,
  h.1 ++ flat_map packet cs,
  ap (λ (t : List ℕ). t ++ flat_map packet cs) h.2
      ∙ append_assoc h.0 h.1 (flat_map packet cs),
  h.3,
)

-- of a packet, a beginning was written
begun_in : (old mid new : Option (List ℕ)) (done : List PacketFields) (c : PacketFields) (left : List PacketFields)
    → Appends old mid (file_of done) → WritesBeginning mid new (packet c)
    → WritesBeginning old new (file_of (done ++ c ∷ left))
begun_in old mid new done c left first h =
    let rest = flat_map packet left in (
      file_of done ++ h.0,
      h.1 ++ rest,
      file_with done (c ∷ left)
          ∙ (ap (λ (t : List ℕ). file_of done ++ (t ++ rest)) h.2 ∙ (ap (λ (t : List ℕ). file_of done ++ t)
          (append_assoc h.0 h.1 rest) ∙ sym (append_assoc (file_of done) h.0 (h.1 ++ rest)))),
      Appends-trans old mid new (file_of done) h.0 first h.3,
    )

-- of a packet, nothing was written
begun_before : (old new : Option (List ℕ)) (done left : List PacketFields) → Appends old new (file_of done)
    → WritesBeginning old new (file_of (done ++ left))
begun_before old new done left first = (file_of done, flat_map packet left, file_with done left, first)

abbrev Cause : FileError → Type 0
Cause e = (e ≡ file.PartTooLong) ⊎ (e ≡ file.Memory) ⊎ (e ≡ file.Io)

not_io_long : file.PartTooLong ≡ file.Io → ⊥
not_io_long e = cc

not_io_memory : file.Memory ≡ file.Io → ⊥
not_io_memory e = cc

-- nothing at all, of one more
pub nothing_begun : (old mid new : Option (List ℕ)) (cs : List PacketFields) (c : PacketFields) → HoldsFile old mid cs
    → new ≡ mid → HoldsBegun old new cs c
nothing_begun old mid new cs c h same = (
  [],
  packet c,
  refl,
  subst (λ (bytes : List ℕ). Appends old new bytes)
      (sym (append-nil (file_of cs))) (subst (λ (m : Option (List ℕ)). Appends old m (file_of cs)) (sym same) h),
)

-- a prefix of one packet more, after the file so far, is a prefix of the whole file
pub begun : (old mid new : Option (List ℕ)) (done : List PacketFields) (c : PacketFields)
    (left cs : List PacketFields) (e : FileError) → cs ≡ done ++ c ∷ left → Appends old mid (file_of done)
    → (e ≡ file.Io → WritesBeginning mid new (packet c)) → ((e ≡ file.Io → ⊥) → new ≡ mid) → Cause e
    → WritesBeginning old new (file_of cs)
begun old mid new done c left cs e is first io other (inl long) =
    subst (λ (ds : List PacketFields). WritesBeginning old new (file_of ds)) (sym is)
    (begun_before old new done (c ∷ left) (subst (λ (d : Option (List ℕ)). Appends old d (file_of done))
    (sym (other (λ at. not_io_long (sym long ∙ at)))) first))
begun old mid new done c left cs e is first io other (inr (inl memory)) =
    subst (λ (ds : List PacketFields). WritesBeginning old new (file_of ds)) (sym is)
    (begun_before old new done (c ∷ left) (subst (λ (d : Option (List ℕ)). Appends old d (file_of done))
    (sym (other (λ at. not_io_memory (sym memory ∙ at)))) first))
begun old mid new done c left cs e is first io other (inr (inr at)) =
    subst (λ (ds : List PacketFields). WritesBeginning old new (file_of ds)) (sym is)
    (begun_in old mid new done c left first (io at))

-- a file that was refused with this fault
pub refuses_file : {D : Type 0} (contents : D → Option (List ℕ)) (failures : D → ℕ) (takes : D → List ℕ → ℕ → D
    → Type 0) (old new : D) (cs : List PacketFields) (r : Result (Unit {0}) FileError) (e : FileError) → r ≡ Err e
    → WritesBeginning (contents old) (contents new) (file_of cs)
    → (e ≡ file.Io → (failures new ≡ failures old + 1) ⊎ TookNothing takes new)
    → (e ≡ file.PartTooLong → Any HasLongPart cs) → Cause e
    → WritesFile contents failures takes old new cs r
refuses_file contents failures takes old new cs r e is begun io long cause =
    subst (WritesFile contents failures takes old new cs) (sym is)
    (record { ok = tt; packed = tt; begun = begun; io = io; too_long = long; cause = cause; none_failed = tt })

-- `Io` is not `PartTooLong`
pub io_is_not_long : (e : FileError) → e ≡ file.Io → e ≡ file.PartTooLong → ⊥
io_is_not_long e at long = not_io_long (sym long ∙ at)

-- behind a file, a prefix of one more packet
more_begun : (old mid new : Option (List ℕ)) (cs : List PacketFields) (c : PacketFields) (e : FileError)
    → HoldsFile old mid cs → (e ≡ file.Io → WritesBeginning mid new (packet c)) → ((e ≡ file.Io → ⊥) → new ≡ mid)
    → Cause e → HoldsBegun old new cs c
more_begun old mid new cs c e h io other (inl long) =
    nothing_begun old mid new cs c h (other (λ at. not_io_long (sym long ∙ at)))
more_begun old mid new cs c e h io other (inr (inl memory)) =
    nothing_begun old mid new cs c h (other (λ at. not_io_memory (sym memory ∙ at)))
more_begun old mid new cs c e h io other (inr (inr at)) =
    let w = io at in (w.0, w.1, w.2, Appends-trans old mid new (file_of cs) w.0 h w.3)

abbrev failed : FileError → Bool
failed e = is_io {X = Unit {0}} (Err e)

-- details are refused as a fault of the file only where some have no id
pub refused_ids : {L : Type 0} (e : Error) → file_error_of e ≡ file.Refused MissingId → (e ≡ MissingId) ⊎ (e ≡ Memory)
    → (e ≡ MissingId → L) → L
refused_ids e is (inl missing) f = f missing
refused_ids e is (inr memory) f = absurd (not_refused (sym (ap file_error_of memory) ∙ is))
  where
    not_refused : file.Memory ≡ file.Refused MissingId → ⊥
    not_refused h = cc

-- a call that didn't touch the device, whose fault isn't `Io`, leaves what it held
kept : {D : Type 0} (contents : D → Option (List ℕ)) (before after : D) (c : PacketFields) (was is : Bool)
    (e fault : FileError) → was ≡ false → is ≡ failed e → e ≡ fault → failed fault ≡ false → after ≡ before
    → (old : Option (List ℕ)) (cs : List PacketFields) → HoldsSoFar was old (contents before) cs
    → HoldsSoFar is old (contents after) cs
kept contents before after c was is e fault sound now this not same old cs h =
    subst (λ (b : Bool). HoldsSoFar b old (contents after) cs) (sym (now ∙ (ap failed this ∙ not)))
    (subst (λ (m : Option (List ℕ)). HoldsFile old m cs) (sym (ap contents same))
    (subst (λ (b : Bool). HoldsSoFar b old (contents before) cs) sound h))

-- a write that failed has written a prefix of the packet
pub packet_begun : {D : Type 0}
    (contents : D → Option (List ℕ)) (before after : D) (c : PacketFields) (r : Result (Unit {0}) FileError)
    → IfErr r (λ e. e ≡ file.Io → WritesBeginning (contents before) (contents after) (packet c))
    → IfErr r (λ e. (e ≡ file.Io → ⊥) → after ≡ before) → IfErr r Cause → IfErr r (λ e. (old : Option (List ℕ))
    (cs : List PacketFields) → HoldsFile old (contents before) cs → HoldsBegun old (contents after) cs c)
packet_begun contents before after c (Ok x) io other cause = tt
packet_begun contents before after c (Err e) io other cause =
    λ old cs h. more_begun old (contents before) (contents after) cs c e h io (λ no. ap contents (other no)) cause

-- what the device holds after a call: one frame more, or a prefix of it behind which nothing comes, or what it held
pub packet_so_far : {D : Type 0} (contents : D → Option (List ℕ)) (before after : D) (c : PacketFields)
    (was is : Bool) (r : Result (Unit {0}) FileError) → was ≡ false → is ≡ is_io r
    → OnOk r (Appends (contents before) (contents after) (packet c))
    → IfErr r (λ e. e ≡ file.Io → WritesBeginning (contents before) (contents after) (packet c))
    → IfErr r (λ e. (e ≡ file.Io → ⊥) → after ≡ before)
    → IfErr r Cause → (old : Option (List ℕ)) (cs : List PacketFields) → HoldsSoFar was old (contents before) cs
    → HoldsSoFar is old (contents after) (written_after r cs c)
packet_so_far contents before after c was is (Ok x) sound now ok io other cause old cs h =
    subst (λ (b : Bool). HoldsSoFar b old (contents after) (cs ++ c ∷ [])) (sym now)
    (subst (λ (bytes : List ℕ). Appends old (contents after) bytes)
    (file_more cs c) (Appends-trans old (contents before) (contents after) (file_of cs) (packet c)
    (subst (λ (b : Bool). HoldsSoFar b old (contents before) cs) sound h) ok))
packet_so_far contents before after c was is (Err e) sound now ok io other (inl long) old cs h =
    kept contents before after c was is e file.PartTooLong sound now long refl
    (other (λ at. not_io_long (sym long ∙ at))) old cs h
packet_so_far contents before after c was is (Err e) sound now ok io other (inr (inl memory)) old cs h =
    kept contents before after c was is e file.Memory sound now memory refl
    (other (λ at. not_io_memory (sym memory ∙ at))) old cs h
packet_so_far contents before after c was is (Err e) sound now ok io other (inr (inr at)) old cs h =
    let w = io at in
    let first = subst (λ (b : Bool). HoldsSoFar b old (contents before) cs) sound h in
    subst (λ (b : Bool). HoldsSoFar b old (contents after) cs) (sym (now ∙ ap failed at))
    (c, (w.0, w.1, w.2, Appends-trans old (contents before) (contents after) (file_of cs) w.0 first w.3))

-- a frame among others
pub any_of : (done : List PacketFields) (c : PacketFields) (left cs : List PacketFields) → cs ≡ done ++ c ∷ left
    → HasLongPart c → Any HasLongPart cs
any_of done c left cs is long = subst (λ (ds : List PacketFields). Any HasLongPart ds) (sym is) (among done c left long)
  where
    among : (done : List PacketFields) (c : PacketFields) (left : List PacketFields) → HasLongPart c
        → Any HasLongPart (done ++ c ∷ left)
    among [] c left long = (0, c, omega arith, refl, long)
    among (d ∷ done) c left long = let h = among done c left long in (suc h.0, h.1, omega (arith, h.2), h.3, h.4)

-- ---- and is read again

abbrev pub Again : Type 0
Again = (p : PacketFields) (rest : List ℕ) → IsPacked p → next_at (packet p ++ rest) ≡ Ok (Some (packed p), rest)

abbrev pub Answer : Type 0
Answer = Result (List Stored × List ℕ) FileError

abbrev pub unless_missing : Bool → List Stored → List ℕ → Answer
unless_missing b frames rest = cond b (Err (file.Refused MissingId)) (Ok (frames, rest))

-- a list of read frames with one more in front, where some may lack ids
pub one_before : (b d : Bool) (s : Stored) (frames : List Stored) (rest : List ℕ)
    → (cond b (Err (file.Refused MissingId)) (Ok s) >>= λ first. unless_missing d frames rest >>= λ o. Ok
    (first ∷ o.0, o.1)) ≡ unless_missing (b || d) (s ∷ frames) rest
one_before true d s frames rest = refl
one_before false true s frames rest = refl
one_before false false s frames rest = refl

end_again : (end : List ℕ) → is_end end ≡ true → next_at end ≡ Ok (None, drop 4 end)
unfolding next_at
end_again end stops = rw stops refl

-- written packets are read as their frames, one after the other, up to the end
packets_again : (k : ℕ) (cs : List PacketFields) (end : List ℕ) → Again → AllByRecursion IsPacked cs → is_end end ≡ true
    → frames_at (suc k + length cs) (flat_map packet cs ++ end)
    ≡ unless_missing (list_any lacks_ids cs) (map packed cs) (drop 4 end)
packets_again k [] end again all stops =
    let one : suc k + 0 ≡ suc k = omega arith in
    ap (λ (n : ℕ). frames_at n end) one ∙ rw (end_again end stops) refl
packets_again k (c ∷ cs) end again all stops =
    let one : suc k + suc (length cs) ≡ suc (suc k + length cs) = omega arith in
    let bytes = flat_map packet cs ++ end in
    let n = suc k + length cs in
    ap (λ (m : ℕ). frames_at m ((packet c ++ flat_map packet cs) ++ end)) one
    ∙ (ap (frames_at (suc n)) (append_assoc (packet c) (flat_map packet cs) end)
    ∙ (ap (λ (r : Result (Option Stored × List ℕ) FileError). r >>= λ next. frames_from (frames_at n) next.0 next.1)
    (again c bytes all.0)
    ∙ (ap (λ (r : Answer). with_ids (packed c) >>= λ first. r >>= λ o. Ok (first ∷ o.0, o.1))
    (packets_again k cs end again all.1 stops)
    ∙ one_before (lacks_ids c) (list_any lacks_ids cs) (packed c) (map packed cs) (drop 4 end))))

-- counting down from the limit
pub room : (n : ℕ) → n < 2 ^ 64 - 1 → suc (most_packets - suc n) + n ≡ most_packets
unfolding most_packets
room n lt = omega arith

-- a written file is read as its frames, or refused if some of their details lack ids
pub file_again : (cs : List PacketFields) (end : List ℕ) → Again
    → AllByRecursion IsPacked cs → length cs < 2 ^ 64 - 1 → is_end end ≡ true
    → file_at (file_of cs ++ end) ≡ unless_missing (list_any lacks_ids cs) (map packed cs) (drop 4 end)
file_again cs end again all few stops =
    ap (λ (n : ℕ). frames_at n (flat_map packet cs ++ end)) (sym (room (length cs) few))
    ∙ packets_again (most_packets - suc (length cs)) cs end again all stops

-- ---- one list of frames

some_bytes : (d : PacketFields) (x : List ℕ) → [] ≡ packet d ++ x → ⊥
unfolding packet_head
some_bytes d x e = absurd (omega (arith, ap length e))

packets_apart : (cs ds : List PacketFields) → NoneBeginsAnother IsPacked packet → AllByRecursion IsPacked cs
    → AllByRecursion IsPacked ds → flat_map packet cs ≡ flat_map packet ds → cs ≡ ds
packets_apart [] [] alone p q e = refl
packets_apart [] (d ∷ ds) alone p q e = absurd (some_bytes d (flat_map packet ds) e)
packets_apart (c ∷ cs) [] alone p q e = absurd (some_bytes c (flat_map packet cs) (sym e))
packets_apart (c ∷ cs) (d ∷ ds) alone p q e =
    let h = alone c d (flat_map packet cs) (flat_map packet ds) p.0 q.0 e in
    ap (λ (x : PacketFields). x ∷ cs) h.0
    ∙ ap (λ (xs : List PacketFields). d ∷ xs) (packets_apart cs ds alone p.1 q.1 h.1)

-- different frames make different files
pub files_apart : (cs ds : List PacketFields) → NoneBeginsAnother IsPacked packet → AllByRecursion IsPacked cs
    → AllByRecursion IsPacked ds → file_of cs ≡ file_of ds → cs ≡ ds
files_apart cs ds alone p q e =
    packets_apart cs ds alone p q (append_cancel_left magic (flat_map packet cs) (flat_map packet ds) e)
