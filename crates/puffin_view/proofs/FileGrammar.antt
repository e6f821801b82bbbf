-- Files of frames are read as their format has them, and nothing else is read.
use Rattle.std.proofs.Common.{◌≡◌, ℕ, zero, suc, ◌+◌, ◌*◌, ◌-◌, ◌^◌, ◌<◌, Bool, true, false, cond, ltb, eqb, ◌&&◌, List, [], ◌∷◌, ◌++◌, length, drop, Option, Some, None, Result, Ok, Err, inl, inr, refl, sym, ap, subst, ◌∙◌, append_assoc, arith}
use Rattle.std.specs.Prelude.{◌↔◌}
use Rattle.std.specs.List.{list_any}
use Rattle.std.proofs.lemmas.Bool.{le-ltb, eqb-true}
use Rattle.puffin_data.specs.declared.error.Error.TheVariants.{MissingId}
use Rattle.puffin_data.specs.declared.file_error.FileError.{FileError}
use Rattle.puffin_data.specs.declared.file_error.FileError.TheVariants as file
use Rattle.puffin_data.specs.Part.{◌>>=◌}
use Rattle.puffin_data.specs.Value.Layout.{IsBytes}
use Rattle.puffin_data.proofs.lemmas.Numbers.{IsBytes-drop}
use Rattle.puffin_data.proofs.lemmas.Readers.{IsBytes-after}
use Rattle.puffin_frames.specs.Packet.Stored.{Stored}
use Rattle.puffin_frames.specs.Packet.Front.{is_end, next_at}
use Rattle.puffin_frames.specs.Packet.Grammar.{Stores}
use Rattle.puffin_view.specs.View.ViewedFrames.{fields_of}
use Rattle.puffin_view.specs.View.Known.{lacks_ids}
use Rattle.puffin_view.specs.View.File.{magic, frame_stored, with_ids, frames_from, frames_at, most_packets, begins_file, file_at}
use Rattle.puffin_view.specs.View.Grammar.{ArePackets, IsEnd, IsFile, fields_stored}
use Rattle.puffin_view.proofs.lemmas.FilesRead.{is_at_end, most_is}
use Rattle.puffin_view.proofs.FilesWritten.{Answer, unless_missing, one_before, room}

abbrev pub PacketsRead : Type 0
PacketsRead = (bytes rest : List ℕ) (s : Stored) → IsBytes bytes
    → (next_at bytes ≡ Ok (Some s, rest)) ↔ ((front : List ℕ) × Stores front s × (bytes ≡ front ++ rest))

bind_ok : {A B : Type 0} (r : Result A FileError) (f : A → Result B FileError) (y : B) → (r >>= f) ≡ Ok y
    → (x : A) × (r ≡ Ok x) × (f x ≡ Ok y)
bind_ok (Ok x) f y e = (x, refl, e)
bind_ok (Err x) f y e = absurd cc

same_ok : {A : Type 0} (x y : A) → ◌≡◌ {A = Result A FileError} (Ok x) (Ok y) → x ≡ y
same_ok x y e = cc

first_so : (a b : Bool) → (a && b) ≡ true → a ≡ true
first_so true b e = refl
first_so false b e = e

second_so : (a b : Bool) → (a && b) ≡ true → b ≡ true
second_so true b e = e
second_so false b e = absurd cc

-- ---- the end

short_dropped : (xs : List ℕ) → length xs < 4 → drop 4 (xs ++ []) ≡ []
short_dropped [] h = refl
short_dropped (a ∷ []) h = refl
short_dropped (a ∷ b ∷ []) h = refl
short_dropped (a ∷ b ∷ d ∷ []) h = refl
short_dropped (a ∷ b ∷ d ∷ f ∷ xs) h = absurd (omega (arith, h))

short_ends : (xs : List ℕ) → length xs < 4 → is_end (xs ++ []) ≡ true
short_ends [] h = refl
short_ends (a ∷ []) h = refl
short_ends (a ∷ b ∷ []) h = refl
short_ends (a ∷ b ∷ d ∷ []) h = refl
short_ends (a ∷ b ∷ d ∷ f ∷ xs) h = absurd (omega (arith, h))

zeros_end : (after : List ℕ) → is_end (0 ∷ 0 ∷ 0 ∷ 0 ∷ after) ≡ true
zeros_end after =
    let long : ltb (length (0 ∷ 0 ∷ 0 ∷ 0 ∷ after)) 4 ≡ false = le-ltb _ _ (omega arith) in
    rw long refl

ends : (end after : List ℕ) → IsEnd end after → (is_end (end ++ after) ≡ true) × (drop 4 (end ++ after) ≡ after)
ends end after (inl zeros) = rw zeros (zeros_end after, refl)
ends end after (inr short) = rw short.1 (short_ends end short.0, short_dropped end short.0)

-- an end is read as the end
pub end_read : (end after : List ℕ) → IsEnd end after → next_at (end ++ after) ≡ Ok (None, after)
unfolding next_at
end_read end after h = let e = ends end after h in rw e.0 (ap (λ (t : List ℕ). Ok (None, t)) e.1)

Ending : List ℕ → List ℕ → Type 0
Ending bytes after = (end : List ℕ) × IsEnd end after × (bytes ≡ end ++ after)

all_zeros : (a b d f : ℕ) → a + 256 * (b + 256 * (d + 256 * (f + 256 * 0))) ≡ 0 → (a ≡ 0) × (b ≡ 0) × (d ≡ 0) × (f ≡ 0)
all_zeros a b d f h = (omega (arith, h), omega (arith, h), omega (arith, h), omega (arith, h))

zeros_found : (a b d f : ℕ) (xs : List ℕ) → is_end (a ∷ b ∷ d ∷ f ∷ xs) ≡ true → Ending (a ∷ b ∷ d ∷ f ∷ xs) xs
unfolding Ending
zeros_found a b d f xs h =
    let long : ltb (length (a ∷ b ∷ d ∷ f ∷ xs)) 4 ≡ false = le-ltb _ _ (omega arith) in
    let zero_number : eqb (a + 256 * (b + 256 * (d + 256 * (f + 256 * 0)))) 0 ≡ true = rw long at h in
    let z = all_zeros a b d f (eqb-true _ _ zero_number) in
    (0 ∷ 0 ∷ 0 ∷ 0 ∷ [], inl refl, rw (z.0, z.1, z.2, z.3) refl)

end_found : (bytes : List ℕ) → is_end bytes ≡ true → Ending bytes (drop 4 bytes)
unfolding Ending
end_found [] h = ([], inr (omega arith, refl), refl)
end_found (a ∷ []) h = (a ∷ [], inr (omega arith, refl), refl)
end_found (a ∷ b ∷ []) h = (a ∷ b ∷ [], inr (omega arith, refl), refl)
end_found (a ∷ b ∷ d ∷ []) h = (a ∷ b ∷ d ∷ [], inr (omega arith, refl), refl)
end_found (a ∷ b ∷ d ∷ f ∷ xs) h = zeros_found a b d f xs h

-- ---- from the format to the reading

-- packets in the format are read as their frames, one after the other, up to the end
packets_read : (read : PacketsRead) (k : ℕ) (frames : List Stored) (packets rest after : List ℕ)
    → IsBytes (packets ++ rest) → next_at rest ≡ Ok (None, after) → ArePackets packets frames
    → frames_at (suc k + length frames) (packets ++ rest)
    ≡ unless_missing (list_any lacks_ids (fields_stored frames)) frames after
packets_read read k [] packets rest after is stops none =
    let one : suc k + 0 ≡ suc k = omega arith in
    ap (λ (n : ℕ). frames_at n (packets ++ rest)) one
    ∙ (ap (λ (t : List ℕ). frames_at (suc k) (t ++ rest)) none ∙ rw stops refl)
packets_read read k (s ∷ frames) packets rest after is stops h =
    let one : suc k + suc (length frames) ≡ suc (suc k + length frames) = omega arith in
    let n = suc k + length frames in
    let whole : packets ++ rest ≡ h.0 ++ (h.1 ++ rest) =
    ap (λ (t : List ℕ). t ++ rest) h.4 ∙ append_assoc h.0 h.1 rest in
    let next : next_at (packets ++ rest) ≡ Ok (Some s, h.1 ++ rest) =
    (read (packets ++ rest) (h.1 ++ rest) s is).1 (h.0, h.2, whole) in
    let others = packets_read read k frames h.1 rest after
    (IsBytes-after (packets ++ rest) h.0 (h.1 ++ rest) whole is) stops h.3 in
    ap (λ (m : ℕ). frames_at m (packets ++ rest)) one
    ∙ (ap (λ (r : Result (Option Stored × List ℕ) FileError). r >>= λ next. frames_from (frames_at n) next.0 next.1)
    next
    ∙ (ap (λ (r : Answer). with_ids s >>= λ first. r >>= λ o. Ok (first ∷ o.0, o.1)) others
    ∙ one_before (lacks_ids (fields_of (frame_stored s))) (list_any lacks_ids (fields_stored frames)) s frames after))

-- a file in the format is read as its frames
pub file_read : (read : PacketsRead) (bytes : List ℕ) (frames : List Stored) (after : List ℕ) → IsBytes bytes
    → IsFile bytes frames after → length frames < 2 ^ 64 - 1
    → file_at bytes ≡ unless_missing (list_any lacks_ids (fields_stored frames)) frames after
file_read read bytes frames after is h few =
    let rest = h.end ++ after in
    let behind = IsBytes-after bytes magic (h.packets ++ rest) h.in_order is in
    ap file_at h.in_order
    ∙ (ap (λ (n : ℕ). frames_at n (h.packets ++ rest)) (sym (room (length frames) few))
    ∙ packets_read read (most_packets - suc (length frames)) frames h.packets rest after behind
    (end_read h.end after h.ends) h.stored)

-- ---- from the reading to the format

-- so many packets at most, and the end
record Found (n : ℕ) (bytes : List ℕ) (frames : List Stored) (after : List ℕ) : Type 0 where
  packets : List ℕ
  end : List ℕ
  in_order : bytes ≡ packets ++ (end ++ after)
  stored : ArePackets packets frames
  ends : IsEnd end after
  few : length frames < n
  ids : list_any lacks_ids (fields_stored frames) ≡ false

none_found : (n : ℕ) (bytes after : List ℕ) → next_at bytes ≡ Ok (None, after) → Found (suc n) bytes [] after
unfolding next_at Ending
none_found n bytes after e =
    let stops = is_at_end bytes after e in
    let same : drop 4 bytes ≡ after =
    ap (λ (q : Option Stored × List ℕ). q.1) (same_ok (None, drop 4 bytes) (None, after) (rw stops at e)) in
    let found = subst (λ (t : List ℕ). Ending bytes t) same (end_found bytes stops) in
    record {
      packets = [];
      end = found.0;
      in_order = found.2;
      stored = refl;
      ends = found.1;
      few = omega arith;
      ids = refl;
    }

one_found : (n : ℕ) (bytes rest : List ℕ) (s : Stored) (frames : List Stored) (after front : List ℕ) → Stores front s
    → bytes ≡ front ++ rest → lacks_ids (fields_of (frame_stored s)) ≡ false
    → Found n rest frames after → Found (suc n) bytes (s ∷ frames) after
one_found n bytes rest s frames after front stores text ids f = record {
  packets = front ++ f.packets;
  end = f.end;
  in_order = text ∙ (ap (λ (t : List ℕ). front ++ t) f.in_order ∙ sym (append_assoc front f.packets (f.end ++ after)));
  stored = (front, f.packets, stores, f.stored, refl);
  ends = f.ends;
  few = omega (arith, f.few);
  ids = rw (ids, f.ids) refl;
}

ids_told : (b : Bool) (s t : Stored) → cond b (Err (file.Refused MissingId)) (Ok s) ≡ Ok t → (b ≡ false) × (s ≡ t)
ids_told true s t e = absurd cc
ids_told false s t e = (refl, same_ok s t e)

same_found : (n : ℕ) (bytes : List ℕ) (a b : List Stored × List ℕ) → ◌≡◌ {A = Answer} (Ok a) (Ok b)
    → Found n bytes a.0 a.1 → Found n bytes b.0 b.1
same_found n bytes a b e found = subst (λ (o : List Stored × List ℕ). Found n bytes o.0 o.1) (same_ok a b e) found

abbrev FindsFrames : ℕ → Type 0
FindsFrames n = (bytes : List ℕ) (frames : List Stored) (after : List ℕ) → IsBytes bytes
    → frames_at n bytes ≡ Ok (frames, after) → Found n bytes frames after

-- one frame more that is read is one packet more in the format
more_found : (read : PacketsRead) (n : ℕ) → FindsFrames n
    → (bytes : List ℕ) (next : Option Stored) (rest : List ℕ) (frames : List Stored) (after : List ℕ) → IsBytes bytes
    → next_at bytes ≡ Ok (next, rest)
    → frames_from (frames_at n) next rest ≡ Ok (frames, after) → Found (suc n) bytes frames after
more_found read n find bytes None rest frames after is next e =
    same_found (suc n) bytes ([], rest) (frames, after) e (none_found n bytes rest next)
more_found read n find bytes (Some s) rest frames after is next e =
    let a = bind_ok (with_ids s) (λ first. frames_at n rest >>= λ o. Ok (first ∷ o.0, o.1)) (frames, after) e in
    let b = bind_ok (frames_at n rest) (λ o. Ok (a.0 ∷ o.0, o.1)) (frames, after) a.2 in
    let ids = ids_told (lacks_ids (fields_of (frame_stored s))) s a.0 a.1 in
    let front = (read bytes rest s is).0 next in
    let others = find rest b.0.0 b.0.1 (IsBytes-after bytes front.0 rest front.2 is) b.1 in
    let one = one_found n bytes rest s b.0.0 b.0.1 front.0 front.1 front.2 ids.0 others in
    same_found (suc n) bytes (a.0 ∷ b.0.0, b.0.1) (frames, after) b.2
    (subst (λ (t : Stored). Found (suc n) bytes (t ∷ b.0.0) b.0.1) ids.1 one)

frames_found : (read : PacketsRead) (n : ℕ) → FindsFrames n
frames_found read zero bytes frames after is e = absurd cc
frames_found read (suc n) bytes frames after is e =
    let a = bind_ok (next_at bytes) (λ next. frames_from (frames_at n) next.0 next.1) (frames, after) e in
    more_found read n (frames_found read n) bytes a.0.0 a.0.1 frames after is a.1 a.2

apart : false ≡ true → ⊥
apart e = cc

-- bytes that begin with the four letters are these letters and the rest
letters_found : (bytes : List ℕ) → begins_file bytes ≡ true → bytes ≡ magic ++ drop 4 bytes
letters_found [] h = absurd cc
letters_found (a ∷ []) h = absurd (apart (second_so _ _ (first_so _ _ (first_so _ _ h))))
letters_found (a ∷ b ∷ []) h = absurd (apart (second_so _ _ (first_so _ _ h)))
letters_found (a ∷ b ∷ d ∷ []) h = absurd (apart (second_so _ _ h))
letters_found (a ∷ b ∷ d ∷ f ∷ xs) h =
    let first : a ≡ 80 = eqb-true _ _ (first_so _ _ (first_so _ _ (first_so _ _ h))) in
    let second : b ≡ 85 = eqb-true _ _ (second_so _ _ (first_so _ _ (first_so _ _ h))) in
    let third : d ≡ 70 = eqb-true _ _ (second_so _ _ (first_so _ _ h)) in
    let fourth : f ≡ 48 = eqb-true _ _ (second_so _ _ h) in
    rw (first, second, third, fourth) refl

begun : (b : Bool) (r : Answer) (o : List Stored × List ℕ) → cond b r (Err file.NoMagic) ≡ Ok o
    → (b ≡ true) × (r ≡ Ok o)
begun true r o e = (refl, e)
begun false r o e = absurd cc

-- what is read as frames is a file in the format
pub file_found : (read : PacketsRead) (bytes : List ℕ) (frames : List Stored) (after : List ℕ) → IsBytes bytes
    → file_at bytes ≡ Ok (frames, after)
    → IsFile bytes frames after × (length frames < 2 ^ 64 - 1) × (list_any lacks_ids (fields_stored frames) ≡ false)
file_found read bytes frames after is e =
    let b = begun (begins_file bytes) (frames_at most_packets (drop 4 bytes)) (frames, after) e in
    let f = frames_found read most_packets (drop 4 bytes) frames after (IsBytes-drop 4 bytes is) b.1 in (
      record {
        packets = f.packets;
        end = f.end;
        in_order = letters_found bytes b.0
            ∙ ap (λ (t : List ℕ). magic ++ t) f.in_order;
        stored = f.stored;
        ends = f.ends;
      },
      subst (λ (n : ℕ). length frames < n) most_is f.few,
      f.ids,
    )

-- ---- both

-- both together: bytes are read as frames exactly when they are such a file
pub file_by_format : (read : PacketsRead) (bytes : List ℕ) (frames : List Stored) (after : List ℕ) → IsBytes bytes
    → (file_at bytes ≡ Ok (frames, after)) ↔ (IsFile bytes frames after × (length frames < 2 ^ 64 - 1)
    × (list_any lacks_ids (fields_stored frames) ≡ false))
file_by_format read bytes frames after is = (
  file_found read bytes frames after is,
  λ h. file_read read bytes frames after is h.0 h.1
      ∙ ap (λ (b : Bool). unless_missing b frames after) h.2,
)

-- a file whose frames lack ids is refused with `MissingId`
pub file_refused : (read : PacketsRead) (bytes : List ℕ) (frames : List Stored) (after : List ℕ) → IsBytes bytes
    → IsFile bytes frames after → length frames < 2 ^ 64 - 1
    → list_any lacks_ids (fields_stored frames) ≡ true → file_at bytes ≡ Err (file.Refused MissingId)
file_refused read bytes frames after is h few missing =
    file_read read bytes frames after is h few ∙ ap (λ (b : Bool). unless_missing b frames after) missing
