-- Readings of bytes that are cut short: what ends within the beginning that is left is read as before, and the rest is
-- `Truncated`.
use Rattle.std.proofs.Common.{◌≡◌, ℕ, ◌<◌, ◌≤◌, Bool, true, false, cond, ltb, List, [], ◌∷◌, ◌++◌, length, take, drop, Option, Result, Ok, Err, ◌⊎◌, inl, inr, refl, sym, ap, ◌∙◌, arith, length-append}
use Rattle.std.specs.Prelude.{slice_index}
use Rattle.std.proofs.lemmas.Bool.{le-ltb, ltb-false}
use Rattle.std.proofs.lemmas.List.{append-nil, take-append-le, drop-append-le}
use Rattle.puffin_data.specs.declared.data.form.Form.{Form}
use Rattle.puffin_data.specs.declared.data.form.Form.TheVariants.{Short, Long}
use Rattle.puffin_data.specs.declared.file_error.FileError.{FileError}
use Rattle.puffin_data.specs.declared.file_error.FileError.TheVariants as file
use Rattle.puffin_data.specs.Part.{◌>>=◌, part_of, first_at, part_length_at, counted_part_at}
use Rattle.puffin_data.specs.Value.Decoding.{whole}
use Rattle.puffin_frames.specs.declared.frame_data.kind.Kind.{Kind}
use Rattle.puffin_frames.specs.declared.frame_data.kind.Kind.TheVariants.{Zstd}
use Rattle.puffin_frames.specs.declared.frame_data.meta.FrameMeta.{FrameMeta}
use Rattle.puffin_threads.specs.Details.{Details}
use Rattle.puffin_frames.specs.Packet.Structs.{details_at}
use Rattle.puffin_frames.specs.Packet.Letters.{for_form, has_kind, has_details, text_form}
use Rattle.puffin_frames.specs.Packet.Parts.{meta_from, meta_part_at, kind_from, given_kind_at, kind_at, details_from, given_details_at, details_part_at, streams_part_at}
use Rattle.puffin_frames.specs.Packet.Versions.{packet_at, as_stored}
use Rattle.puffin_frames.specs.Packet.Front.{next_at}
use Rattle.puffin_frames.specs.Packet.Grammar.{packet, packet_head}
use Rattle.puffin_frames.specs.Packet.Stored.{PacketFields, Stored, packed}

abbrev Reading : Type 0 → Type 0
Reading A = List ℕ → Result (A × List ℕ) FileError

-- what is read of all bytes is read of a prefix of them, or that is cut short
abbrev IsCuttable : {A : Type 0} → Reading A → Type 0
IsCuttable {A = A} read =
    (front more : List ℕ) (x : A) (after : List ℕ) → read (front ++ more) ≡ Ok (x, after)
    → (read front ≡ Err file.Truncated) ⊎ ((rest : List ℕ) × (read front ≡ Ok (x, rest)) × (after ≡ rest ++ more))

bind_ok : {A B : Type 0} (r : Result A FileError) (f : A → Result B FileError) (y : B) → (r >>= f) ≡ Ok y
    → (x : A) × (r ≡ Ok x) × (f x ≡ Ok y)
bind_ok (Ok x) f y e = (x, refl, e)
bind_ok (Err x) f y e = absurd cc

same_ok : {A : Type 0} (x y : A) → ◌≡◌ {A = Result A FileError} (Ok x) (Ok y) → x ≡ y
same_ok x y e = cc

same_pair : {A : Type 0} (x y : A) (a b : List ℕ) → ◌≡◌ {A = Result (A × List ℕ) FileError} (Ok (x, a)) (Ok (y, b))
    → (x ≡ y) × (a ≡ b)
same_pair x y a b e = let p = same_ok (x, a) (y, b) e in (ap (λ q. q.0) p, ap (λ q. q.1) p)

-- ---- steps

-- a value that is decided without bytes
decided : {A B : Type 0} (r : Result A FileError) (f : A → B) → IsCuttable (λ bytes. r >>= λ y. Ok (f y, bytes))
decided (Err e) f front more x after is = absurd cc
decided (Ok y) f front more x after is = let p = same_pair (f y) x (front ++ more) after is in
    inr (front, ap (λ z. Ok (z, front)) p.0, sym p.1)

valued : {A : Type 0} (y : A) → IsCuttable (λ bytes. Ok (y, bytes))
valued y front more x after is =
    let p = same_pair y x (front ++ more) after is in inr (front, ap (λ z. Ok (z, front)) p.0, sym p.1)

either : {A : Type 0} (b : Bool) (f g : Reading A) → IsCuttable f → IsCuttable g
    → IsCuttable (λ bytes. cond b (f bytes) (g bytes))
either true f g p q = p
either false f g p q = q

-- two readings, one after the other, that may both be cut
both : {A B : Type 0} (read : Reading A) (next : A → Reading B) → IsCuttable read → ((a : A) → IsCuttable (next a))
    → IsCuttable (λ bytes. read bytes >>= λ p. next p.0 p.1)
both {A = A} {B = B} read next first second front more x after is =
    let a = bind_ok (read (front ++ more)) (λ p. next p.0 p.1) (x, after) is in
    by_first a.0 (first front more a.0.0 a.0.1 a.1) a.2
  where
    by_second : (v : A) (rest : List ℕ) → read front ≡ Ok (v, rest)
        → (next v rest ≡ Err file.Truncated) ⊎ ((r : List ℕ) × (next v rest ≡ Ok (x, r)) × (after ≡ r ++ more))
        → ((read front >>= λ p. next p.0 p.1) ≡ Err file.Truncated)
        ⊎ ((r : List ℕ) × ((read front >>= λ p. next p.0 p.1) ≡ Ok (x, r)) × (after ≡ r ++ more))
    by_second v rest ok (inl short) = inl (rw ok short)
    by_second v rest ok (inr h) = inr (h.0, rw ok h.1, h.2)

    by_first : (p : A × List ℕ)
        → (read front ≡ Err file.Truncated) ⊎ ((r : List ℕ) × (read front ≡ Ok (p.0, r)) × (p.1 ≡ r ++ more))
        → next p.0 p.1 ≡ Ok (x, after)
        → ((read front >>= λ p. next p.0 p.1) ≡ Err file.Truncated)
        ⊎ ((r : List ℕ) × ((read front >>= λ p. next p.0 p.1) ≡ Ok (x, r)) × (after ≡ r ++ more))
    by_first p (inl short) e = inl (rw short refl)
    by_first p (inr h) e = by_second p.0 h.0 h.1 (second p.0 h.0 more x after (ap (next p.0) (sym h.2) ∙ e))

-- ---- parts

-- a part of a given length is read whole, or is `Truncated`
part_cut : (n : ℕ) → IsCuttable (part_of n)
part_cut n front more x after is = by_length (ltb (length front) n) refl
  where
    by_length : (b : Bool) → ltb (length front) n ≡ b → (part_of n front ≡ Err file.Truncated)
        ⊎ ((rest : List ℕ) × (part_of n front ≡ Ok (x, rest)) × (after ≡ rest ++ more))
    by_length true short = inl (rw short refl)
    by_length false long =
        let low : n ≤ length front = ltb-false _ _ long in
        let all : ltb (length (front ++ more)) n ≡ false = le-ltb _ _ (omega (arith, low, length-append front more)) in
        let p = same_pair (take n (front ++ more)) x (drop n (front ++ more)) after (rw all at is) in
        inr (
          drop n front,
          rw long (ap (λ t. Ok (t, drop n front)) (sym (take-append-le n front more low) ∙ p.0)),
          sym p.1 ∙ drop-append-le n front more low,
        )

first_cut : IsCuttable first_at
first_cut = both (part_of 1) (λ one rest. Ok (slice_index one 0, rest)) (part_cut 1) (λ one. valued (slice_index one 0))

-- the length of a part is read whole, or is `Truncated`
length_cut : IsCuttable part_length_at
length_cut front more x after is = by_length (ltb (length front) 4) refl
  where
    by_length : (b : Bool) → ltb (length front) 4 ≡ b → (part_length_at front ≡ Err file.Truncated)
        ⊎ ((rest : List ℕ) × (part_length_at front ≡ Ok (x, rest)) × (after ≡ rest ++ more))
    by_length true short = inl (rw short refl)
    by_length false long =
        let low : 4 ≤ length front = ltb-false _ _ long in
        let all : ltb (length (front ++ more)) 4 ≡ false = le-ltb _ _ (omega (arith, low, length-append front more)) in
        let p = same_pair _ x (drop 4 front ++ more) after
        (rw (all, take-append-le 4 front more low, drop-append-le 4 front more low) at is) in
        inr (drop 4 front, rw long (ap (λ z. Ok (z, drop 4 front)) p.0), sym p.1)

counted_cut : IsCuttable counted_part_at
counted_cut = both part_length_at part_of length_cut part_cut

meta_cut : IsCuttable meta_part_at
meta_cut = both counted_part_at (λ part rest. meta_from part >>= λ meta. Ok (meta, rest)) counted_cut
    (λ part. decided (meta_from part) (λ meta. meta))

kind_cut : (form : Form) → IsCuttable (kind_at (for_form form))
kind_cut form =
    either (has_kind (for_form form)) given_kind_at (λ bytes. Ok (Zstd, bytes))
    (both first_at (λ b rest. kind_from b >>= λ k. Ok (k, rest)) first_cut (λ b. decided (kind_from b) (λ k. k)))
    (valued Zstd)

streams_cut : (form : Form) → IsCuttable (streams_part_at (for_form form))
streams_cut form =
    both part_length_at (λ n rest. kind_at (for_form form) rest >>= λ kind. part_of n kind.1 >>= λ streams. Ok
    ((kind.0, streams.0), streams.1)) length_cut
    (λ n. both (kind_at (for_form form))
    (λ kind rest. part_of n rest >>= λ streams. Ok ((kind, streams.0), streams.1)) (kind_cut form)
    (λ kind. both (part_of n) (λ streams rest. Ok ((kind, streams), rest)) (part_cut n)
    (λ streams. valued (kind, streams))))

details_cut : (form : Form) → IsCuttable (details_part_at (for_form form))
details_cut form =
    either (has_details (for_form form)) given_details_at (λ bytes. Ok ([], bytes))
    (both counted_part_at (λ part rest. details_from (whole details_at part) >>= λ ds. Ok (ds, rest)) counted_cut
    (λ part. decided (details_from (whole details_at part)) (λ ds. ds)))
    (valued [])

abbrev fields_made : Form → FrameMeta → Kind × List ℕ → List Details → PacketFields
fields_made form meta streams details =
    record { meta = meta; form = text_form (for_form form); kind = streams.0; streams = streams.1; details = details }

packet_cut : (form : Form) → IsCuttable (packet_at (for_form form))
packet_cut form =
    both meta_part_at (λ meta rest. streams_part_at (for_form form) rest >>= λ streams. details_part_at
    (for_form form) streams.1 >>= λ details. Ok (fields_made form meta streams.0 details.0, details.1)) meta_cut
    (λ meta. both (streams_part_at (for_form form)) (λ streams rest. details_part_at (for_form form) rest >>=
    λ details. Ok (fields_made form meta streams details.0, details.1)) (streams_cut form)
    (λ streams. both (details_part_at (for_form form)) (λ details rest. Ok (
      fields_made form meta streams details,
      rest,
    )) (details_cut form) (λ details. valued (fields_made form meta streams details))))

-- ---- packets

apart : (x y : List ℕ) → 0 < length y → [] ≡ x ++ y → ⊥
apart x y some e = omega (arith, some, ap length e, length-append x y)

-- a packet that is cut short behind its letters
letters_stay : (form : Form) (l more : List ℕ) (p : PacketFields) → 0 < length more
    → packet_at (for_form form) (l ++ more) ≡ Ok (p, []) → packet_at (for_form form) l ≡ Err file.Truncated
letters_stay form l more p some is = by_cut (packet_cut form l more p [] is)
  where
    by_cut : (packet_at (for_form form) l ≡ Err file.Truncated)
        ⊎ ((rest : List ℕ) × (packet_at (for_form form) l ≡ Ok (p, rest)) × ([] ≡ rest ++ more))
        → packet_at (for_form form) l ≡ Err file.Truncated
    by_cut (inl short) = short
    by_cut (inr h) = absurd (apart h.0 more some h.2)

abbrev rest_in : Result (Option Stored × List ℕ) FileError → List ℕ
rest_in (Ok o) = o.1
rest_in (Err e) = []

told : (r : Result (PacketFields × List ℕ) FileError) (s : Option Stored) → as_stored packed r ≡ Ok (s, [])
    → (p : PacketFields) × (r ≡ Ok (p, []))
told (Err e) s is = absurd cc
told (Ok p) s is = (p.0, ap (λ rest. Ok (p.0, rest)) (ap rest_in is))

-- its letters, in either version
short_cut : (l more : List ℕ) (s : Option Stored) → 0 < length more
    → next_at (80 ∷ 70 ∷ 68 ∷ 52 ∷ (l ++ more)) ≡ Ok (s, []) → next_at (80 ∷ 70 ∷ 68 ∷ 52 ∷ l) ≡ Err file.Truncated
unfolding next_at
short_cut l more s some is =
    let long : ltb (length (80 ∷ 70 ∷ 68 ∷ 52 ∷ l)) 4 ≡ false = le-ltb _ _ (omega arith) in
    let longer : ltb (length (80 ∷ 70 ∷ 68 ∷ 52 ∷ (l ++ more))) 4 ≡ false = le-ltb _ _ (omega arith) in
    let p = told (packet_at (for_form Short) (l ++ more)) s (rw longer at is) in
    rw long (ap (as_stored packed) (letters_stay Short l more p.0 some p.1))

long_cut : (l more : List ℕ) (s : Option Stored) → 0 < length more
    → next_at (80 ∷ 70 ∷ 68 ∷ 76 ∷ (l ++ more)) ≡ Ok (s, []) → next_at (80 ∷ 70 ∷ 68 ∷ 76 ∷ l) ≡ Err file.Truncated
unfolding next_at
long_cut l more s some is =
    let long : ltb (length (80 ∷ 70 ∷ 68 ∷ 76 ∷ l)) 4 ≡ false = le-ltb _ _ (omega arith) in
    let longer : ltb (length (80 ∷ 70 ∷ 68 ∷ 76 ∷ (l ++ more))) 4 ≡ false = le-ltb _ _ (omega arith) in
    let p = told (packet_at (for_form Long) (l ++ more)) s (rw longer at is) in
    rw long (ap (as_stored packed) (letters_stay Long l more p.0 some p.1))

letter_in : Form → ℕ
letter_in Short = 52
letter_in Long = 76

letters_of_packet : (c : PacketFields) → (t : List ℕ) × (packet c ≡ 80 ∷ 70 ∷ 68 ∷ letter_in c.form ∷ t)
unfolding packet_head letter_in
letters_of_packet c = by_form c.form c.meta c.kind c.streams c.details
  where
    by_form : (form : Form) (meta : FrameMeta) (kind : Kind) (streams : List ℕ) (details : List Details)
        → (t : List ℕ)
        × (packet (record { meta = meta; form = form; kind = kind; streams = streams; details = details })
        ≡ 80 ∷ 70 ∷ 68 ∷ letter_in form ∷ t)
    by_form Short meta kind streams details = (_, refl)
    by_form Long meta kind streams details = (_, refl)

form_cut : (form : Form) (l more : List ℕ) (s : Option Stored)
    → 0 < length more → next_at (80 ∷ 70 ∷ 68 ∷ letter_in form ∷ (l ++ more)) ≡ Ok (s, [])
    → next_at (80 ∷ 70 ∷ 68 ∷ letter_in form ∷ l) ≡ Err file.Truncated
unfolding letter_in
form_cut Short l more s some is = short_cut l more s some is
form_cut Long l more s some is = long_cut l more s some is

four_same : (a b d f x y z w : ℕ) (l t : List ℕ) → a ∷ b ∷ d ∷ f ∷ l ≡ x ∷ y ∷ z ∷ w ∷ t
    → (a ≡ x) × (b ≡ y) × (d ≡ z) × (f ≡ w)
four_same a b d f x y z w l t e = (cc, cc, cc, cc)

pub packet_truncated : (c : PacketFields) (left more : List ℕ) (s : Option Stored) → packet c ≡ left ++ more
    → 0 < length more → 4 ≤ length left → next_at (packet c ++ []) ≡ Ok (s, []) → next_at left ≡ Err file.Truncated
packet_truncated c [] more s text some long again = absurd (omega (arith, long))
packet_truncated c (a ∷ []) more s text some long again = absurd (omega (arith, long))
packet_truncated c (a ∷ b ∷ []) more s text some long again = absurd (omega (arith, long))
packet_truncated c (a ∷ b ∷ d ∷ []) more s text some long again = absurd (omega (arith, long))
packet_truncated c (a ∷ b ∷ d ∷ f ∷ l) more s text some long again =
    let t = letters_of_packet c in
    let same = four_same a b d f 80 70 68 (letter_in c.form) (l ++ more) t.0 (sym text ∙ t.1) in
    let whole : next_at (a ∷ b ∷ d ∷ f ∷ (l ++ more)) ≡ Ok (s, []) =
    ap next_at (sym text ∙ sym (append-nil (packet c))) ∙ again in
    rw (same.0, same.1, same.2, same.3) (form_cut c.form l more s some (rw (same.0, same.1, same.2, same.3) at whole))
