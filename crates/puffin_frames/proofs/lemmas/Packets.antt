-- A packet that was written is read again, whatever follows it.
use Rattle.std.proofs.Common.{◌≡◌, ℕ, true, ◌^◌, ◌<◌, false, ltb, List, [], ◌∷◌, ◌++◌, length, Option, Some, Result, Ok, refl, sym, ap, ◌∙◌, append_assoc, arith}
use Rattle.std.proofs.lemmas.Bool.{le-ltb}
use Rattle.std.proofs.lemmas.List.{take_at, drop_at, length-append}
use Rattle.byteorder.specs.Endian.{little_bytes, little_number}
use Rattle.byteorder.specs.Numbers.{little_number-reads_back}
use Rattle.puffin_data.specs.declared.data.form.Form.{Form}
use Rattle.puffin_data.specs.declared.data.form.Form.TheVariants.{Short, Long}
use Rattle.puffin_data.specs.declared.file_error.FileError.{FileError}
use Rattle.puffin_data.specs.Part.{part_of, part_length_at, counted_part_at}
use Rattle.puffin_data.specs.Value.Layout.{NoneBeginsAnother}
use Rattle.puffin_data.proofs.lemmas.Readers.{whole_again}
use Rattle.puffin_frames.specs.declared.frame_data.version.Version.{Version}
use Rattle.puffin_frames.specs.declared.frame_data.version.Version.TheVariants.{Pfd2, Pfd3, Pfd4, PfdL}
use Rattle.puffin_frames.specs.Packet.Structs.{IsMeta, meta_layout, meta_at, AreDetails, details_layout, details_at}
use Rattle.puffin_frames.specs.Packet.Stored.{PacketFields, Stored, packed}
use Rattle.puffin_frames.specs.Packet.Kinds.{to_byte, from_byte-reads_back}
use Rattle.puffin_frames.specs.Packet.Letters.{last_letter, for_form, has_kind, has_details, text_form}
use Rattle.puffin_frames.specs.Packet.Parts.{meta_part_at, streams_part_at, details_part_at}
use Rattle.puffin_frames.specs.Packet.Versions.{packet_at, as_stored}
use Rattle.puffin_frames.specs.Packet.Front.{next_at}
use Rattle.puffin_frames.specs.Packet.Grammar.{counted_part, packet_head, packet, IsPacked}
use Rattle.puffin_frames.proofs.Structs.{meta_reader, details_reader}
use Rattle.puffin_frames.proofs.Writing.{meta_short}

-- a part is taken from the front of what it was put before
pub part_again : (size : ℕ) (part rest : List ℕ) → length part ≡ size → part_of size (part ++ rest) ≡ Ok (part, rest)
part_again size part rest len =
    let long : ltb (length (part ++ rest)) size ≡ false = le-ltb _ _ (omega (arith, length-append part rest, len)) in
    rw (long, take_at part rest size len, drop_at part rest size len) refl

-- so is a length, and a part with its length
pub length_again : (size : ℕ) (rest : List ℕ) → size < 2 ^ 32 → part_length_at (little_bytes 4 size ++ rest) ≡ Ok (size, rest)
length_again size rest fits =
    let back : little_number 4 (little_bytes 4 size ++ []) ≡ size = little_number-reads_back 4 size [] (omega arith) in
    rw (part_again 4 (little_bytes 4 size) rest refl) (ap (λ (read : ℕ). Ok (read, rest)) back)

pub counted_again : (part rest : List ℕ) →
    length part < 2 ^ 32 →
    counted_part_at (counted_part part ++ rest) ≡ Ok (part, rest)
counted_again part rest short =
    ap counted_part_at (append_assoc (little_bytes 4 (length part)) part rest)
    ∙ rw (length_again (length part) (part ++ rest) short) (part_again (length part) part rest refl)

-- each part of a packet is read again
pub meta_again : (fields : PacketFields) (rest : List ℕ) →
    IsPacked fields →
    meta_part_at (counted_part (meta_layout fields.meta) ++ rest) ≡ Ok (fields.meta, rest)
meta_again fields rest fits =
    rw (
      counted_again (meta_layout fields.meta) rest (meta_short fields.meta),
      whole_again IsMeta meta_layout meta_at meta_reader fields.meta fits.meta,
      fits.range,
    ) refl

-- a version that is written, with all parts, of streams of this form
pub record IsWritten (form : Form) (version : Version) : Type 0 where
  pub kind : has_kind version ≡ true
  pub details : has_details version ≡ true
  pub texts : text_form version ≡ form

pub written : (form : Form) → IsWritten form (for_form form)
written Short = record { kind = refl; details = refl; texts = refl }
written Long = record { kind = refl; details = refl; texts = refl }

streams_again : (fields : PacketFields) (rest : List ℕ) →
    IsPacked fields →
    streams_part_at (for_form fields.form)
    (little_bytes 4 (length fields.streams) ++ (to_byte fields.kind ∷ (fields.streams ++ rest)))
    ≡ Ok ((fields.kind, fields.streams), rest)
streams_again fields rest fits =
    rw (
      (written fields.form).kind,
      length_again (length fields.streams) (to_byte fields.kind ∷ (fields.streams ++ rest)) fits.short,
      part_again 1 (to_byte fields.kind ∷ []) (fields.streams ++ rest) refl,
      from_byte-reads_back fields.kind,
      part_again (length fields.streams) fields.streams rest refl,
    ) refl

details_again : (fields : PacketFields) (rest : List ℕ) →
    IsPacked fields →
    details_part_at (for_form fields.form) (counted_part (details_layout fields.details) ++ rest)
    ≡ Ok (fields.details, rest)
details_again fields rest fits =
    rw (
      (written fields.form).details,
      counted_again (details_layout fields.details) rest fits.details_short,
      whole_again AreDetails details_layout details_at details_reader fields.details fits.details,
    ) refl

-- and so are all of them, one after the other
parts_again : (fields : PacketFields) (rest : List ℕ) →
    IsPacked fields →
    packet_at (for_form fields.form) (counted_part (meta_layout fields.meta)
    ++ (little_bytes 4 (length fields.streams)
    ++ (to_byte fields.kind ∷ (fields.streams ++ (counted_part (details_layout fields.details) ++ rest)))))
    ≡ Ok (fields, rest)
parts_again fields rest fits =
    let details = counted_part (details_layout fields.details) ++ rest in
    rw (
      meta_again fields (little_bytes 4 (length fields.streams) ++ (to_byte fields.kind ∷ (fields.streams ++ details))) fits,
      streams_again fields details fits,
      details_again fields rest fits,
    ) (ap (λ (form : Form). Ok (record fields { form = form }, rest)) (written fields.form).texts)

-- the letters say in which version the rest is read
pub after_letters : (version : Version) (xs : List ℕ) →
    next_at (80 ∷ 70 ∷ 68 ∷ last_letter version ∷ xs) ≡ as_stored packed (packet_at version xs)
unfolding next_at
after_letters Pfd2 xs =
    let long : ltb (length (80 ∷ 70 ∷ 68 ∷ 50 ∷ xs)) 4 ≡ false = le-ltb _ _ (omega arith) in
    rw long refl
after_letters Pfd3 xs =
    let long : ltb (length (80 ∷ 70 ∷ 68 ∷ 51 ∷ xs)) 4 ≡ false = le-ltb _ _ (omega arith) in
    rw long refl
after_letters Pfd4 xs =
    let long : ltb (length (80 ∷ 70 ∷ 68 ∷ 52 ∷ xs)) 4 ≡ false = le-ltb _ _ (omega arith) in
    rw long refl
after_letters PfdL xs =
    let long : ltb (length (80 ∷ 70 ∷ 68 ∷ 76 ∷ xs)) 4 ≡ false = le-ltb _ _ (omega arith) in
    rw long refl

-- a packet with its parts in a row
pub in_a_row : (meta size streams details rest : List ℕ) (letter kind : ℕ) →
    ((((80 ∷ 70 ∷ 68 ∷ letter ∷ []) ++ (meta ++ (size ++ (kind ∷ [])))) ++ streams) ++ details) ++ rest
    ≡ 80 ∷ 70 ∷ 68 ∷ letter ∷ (meta ++ (size ++ (kind ∷ (streams ++ (details ++ rest)))))
in_a_row meta size streams details rest letter kind = simp append_assoc

pub packet_again : (fields : PacketFields) (rest : List ℕ) →
    IsPacked fields →
    next_at (packet fields ++ rest) ≡ Ok (Some (packed fields), rest)
unfolding packet_head
packet_again fields rest fits =
    let meta = counted_part (meta_layout fields.meta) in
    let size = little_bytes 4 (length fields.streams) in
    let details = counted_part (details_layout fields.details) in
    ap next_at (in_a_row meta size fields.streams details rest (last_letter (for_form fields.form)) (to_byte fields.kind))
    ∙ (after_letters (for_form fields.form) (meta ++ (size ++ (to_byte fields.kind ∷ (fields.streams ++ (details ++ rest)))))
    ∙ ap (as_stored packed) (parts_again fields rest fits))

-- a reading gives one frame, so no packet begins another
said_is : (a b : PacketFields) → packed a ≡ packed b → a ≡ b
said_is a b same = cc

some_is : (a b : Stored) → Some a ≡ Some b → a ≡ b
some_is a b same = cc

-- a reading's answer, closed so that it is compared as a whole
found : Option Stored × List ℕ → Result (Option Stored × List ℕ) FileError
found o = Ok o

pair_is : (one other : Option Stored × List ℕ) → found one ≡ found other → one ≡ other
unfolding found
pair_is one other same = cc

one_frame : (a b : PacketFields) (x y : List ℕ) → found (Some (packed a), x) ≡ found (Some (packed b), y) → (a ≡ b) × (x ≡ y)
one_frame a b x y read =
    let same = pair_is (Some (packed a), x) (Some (packed b), y) read in (
      said_is a b (some_is (packed a) (packed b) (ap (λ (t : Option Stored × List ℕ). t.0) same)),
      ap (λ (t : Option Stored × List ℕ). t.1) same,
    )

pub no_packet_begins_another : NoneBeginsAnother IsPacked packet
unfolding found
no_packet_begins_another a b x y fa fb e =
    one_frame a b x y (sym (packet_again a x fa) ∙ (ap next_at e ∙ packet_again b y fb))
