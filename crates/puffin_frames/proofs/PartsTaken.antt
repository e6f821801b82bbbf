-- What a packet's parts were read from.
use Rattle.std.proofs.Common.{◌≡◌, ℕ, ◌^◌, ◌<◌, ◌≤◌, Bool, true, false, cond, ltb, eqb, List, [], ◌∷◌, ◌++◌, length, take, drop, Option, Some, None, Result, Ok, Err, refl, sym, ap, subst, ◌∙◌, append_assoc, arith}
use Rattle.std.specs.Prelude.{slice_index}
use Rattle.std.proofs.lemmas.Bool.{ltb-false, eqb-true}
use Rattle.std.proofs.lemmas.List.{take_at, take_all, take-append-drop, length-take}
use Rattle.byteorder.specs.Endian.{little_bytes, little_number}
use Rattle.puffin_data.specs.declared.file_error.FileError.{FileError}
use Rattle.puffin_data.specs.declared.file_error.FileError.TheVariants as file
use Rattle.puffin_data.specs.Value.Layout.{IsBytes}
use Rattle.puffin_data.specs.Value.Decoding.{whole}
use Rattle.puffin_data.specs.Part.{◌>>=◌, part_of, first_at, part_length_at, counted_part_at}
use Rattle.puffin_data.proofs.lemmas.Numbers.{IsBytes-take, bytes_4, below_4}
use Rattle.puffin_data.proofs.lemmas.Readers.{IsBytes-after, whole_taken}
use Rattle.puffin_frames.specs.declared.frame_data.kind.Kind.{Kind}
use Rattle.puffin_frames.specs.declared.frame_data.kind.Kind.TheVariants.{Uncompressed, Lz4, Zstd}
use Rattle.puffin_frames.specs.declared.frame_data.meta.FrameMeta.{FrameMeta}
use Rattle.puffin_threads.specs.Details.{Details}
use Rattle.puffin_frames.specs.Packet.Structs.{IsMeta, meta_layout, meta_at, AreDetails, details_layout, details_at, Legacy, IsLegacy, legacy_layout, legacy_at}
use Rattle.puffin_data.specs.Range.{is_valid_range_at}
use Rattle.puffin_frames.specs.Packet.Kinds.{to_byte}
use Rattle.puffin_frames.specs.Packet.Parts.{meta_with_range, meta_from, meta_part_at, known_kind, kind_from, given_kind_at, details_from, given_details_at, legacy_with_range, legacy_from, legacy_part_at}
use Rattle.puffin_frames.specs.Packet.Grammar.{counted_part}
use Rattle.puffin_frames.proofs.Structs.{meta_reader, details_reader, legacy_reader}

-- ---- steps

-- a reading of two steps that succeeds: what its first step gives, and that the second goes on from there
pub bind_ok : {A B : Type 0} (first : Result A FileError) (next : A → Result B FileError) (answer : B) →
    (first >>= next) ≡ Ok answer →
    (x : A) × (first ≡ Ok x) × (next x ≡ Ok answer)
bind_ok (Ok x) next answer same = (x, refl, same)
bind_ok (Err fault) next answer same = absurd cc

-- equal answers have equal values
pub same_ok : {A : Type 0} (x y : A) → ◌≡◌ {A = Result A FileError} (Ok x) (Ok y) → x ≡ y
same_ok x y same = cc

-- a fault where a test holds: an answer says that it doesn't
pub unless : {A : Type 0} (b : Bool) (fault : FileError) (x y : A) →
    cond b (Err fault) (Ok x) ≡ Ok y →
    (b ≡ false) × (x ≡ y)
unless true fault x y same = absurd cc
unless false fault x y same = (refl, same_ok x y same)

-- a fault where a test doesn't hold: an answer says that it does
pub only_if : {A : Type 0} (b : Bool) (fault : FileError) (x y : A) →
    cond b (Ok x) (Err fault) ≡ Ok y →
    (b ≡ true) × (x ≡ y)
only_if true fault x y same = (refl, same_ok x y same)
only_if false fault x y same = absurd cc

-- what stands before the rest in bytes is bytes
pub IsBytes-before : (bytes front rest : List ℕ) → bytes ≡ front ++ rest → IsBytes bytes → IsBytes front
IsBytes-before bytes front rest split are_bytes =
    subst IsBytes (ap (take (length front)) split ∙ take_at front rest (length front) refl)
    (IsBytes-take (length front) bytes are_bytes)

-- ---- parts

-- a part of so many bytes was in front of the rest
pub part_taken : (size : ℕ) (bytes part rest : List ℕ) →
    part_of size bytes ≡ Ok (part, rest) →
    (length part ≡ size) × (bytes ≡ part ++ rest)
part_taken size bytes part rest read =
    let made : (List ℕ × List ℕ) = (take size bytes, drop size bytes) in
    let (not_short, same) = unless (ltb (length bytes) size) file.Truncated made (part, rest) read in
    let long : size ≤ length bytes = ltb-false _ _ not_short in
    let taken : length (take size bytes) ≡ size = omega (arith, length-take size bytes, long) in
    subst (λ (got : List ℕ × List ℕ). (length got.0 ≡ size) × (bytes ≡ got.0 ++ got.1)) same
    (taken, sym (take-append-drop size bytes))

-- a part's length was in front of the rest, in four bytes
pub length_taken : (bytes : List ℕ) (size : ℕ) (rest : List ℕ) →
    IsBytes bytes → part_length_at bytes ≡ Ok (size, rest) →
    (size < 2 ^ 32) × (bytes ≡ little_bytes 4 size ++ rest)
length_taken bytes size rest are_bytes read =
    let ((four, after), read_four, answer) =
    bind_ok (part_of 4 bytes) (λ part. Ok (little_number 4 part.0, part.1)) (size, rest) read in
    let (size_4, split) = part_taken 4 bytes four after read_four in
    let four_bytes : IsBytes four = IsBytes-before bytes four after split are_bytes in
    let same : little_bytes 4 (little_number 4 four) ≡ four =
    bytes_4 four (omega (arith, size_4)) four_bytes ∙ take_all 4 four (omega (arith, size_4)) in
    let made : (ℕ × List ℕ) = (little_number 4 four, after) in
    let text : bytes ≡ little_bytes 4 (little_number 4 four) ++ after =
    split ∙ ap (λ (front : List ℕ). front ++ after) (sym same) in
    subst (λ (got : ℕ × List ℕ). (got.0 < 2 ^ 32) × (bytes ≡ little_bytes 4 got.0 ++ got.1))
    (same_ok made (size, rest) answer) (below_4 four four_bytes, text)

-- a part was in front of the rest, behind its length
pub counted_taken : (bytes part rest : List ℕ) →
    IsBytes bytes → counted_part_at bytes ≡ Ok (part, rest) →
    (length part < 2 ^ 32) × (bytes ≡ counted_part part ++ rest)
counted_taken bytes part rest are_bytes read =
    let ((size, after), read_size, read_part) =
    bind_ok (part_length_at bytes) (λ size. part_of size.0 size.1) (part, rest) read in
    let (fits, size_text) = length_taken bytes size after are_bytes read_size in
    let (same, part_text) = part_taken size after part rest read_part in
    let short : length part < 2 ^ 32 = rw same fits in
    let text : bytes ≡ (little_bytes 4 size ++ part) ++ rest =
    size_text
    ∙ (ap (λ (after : List ℕ). little_bytes 4 size ++ after) part_text
    ∙ sym (append_assoc (little_bytes 4 size) part rest)) in
    (short, rw same text)

-- the bytes of a counted part are bytes
counted_bytes : (bytes part rest : List ℕ) → bytes ≡ counted_part part ++ rest → IsBytes bytes → IsBytes part
counted_bytes bytes part rest split are_bytes =
    IsBytes-after (counted_part part) (little_bytes 4 (length part)) part refl
    (IsBytes-before bytes (counted_part part) rest split are_bytes)

-- ---- meta

-- a meta that is taken was decoded, and its range isn't reversed
ranged : (decoded : Option FrameMeta) (meta : FrameMeta) →
    meta_with_range decoded ≡ Ok meta →
    (decoded ≡ Some meta) × (is_valid_range_at meta.range_ns.0 meta.range_ns.1 ≡ true)
ranged None meta read = absurd cc
ranged (Some x) meta read =
    let (valid, same) = only_if (is_valid_range_at x.range_ns.0 x.range_ns.1) file.BadRange x meta read in
    (ap Some same, subst (λ (m : FrameMeta). is_valid_range_at m.range_ns.0 m.range_ns.1 ≡ true) same valid)

-- these bytes are the part of a meta and the rest
pub record MetaTaken (bytes : List ℕ) (meta : FrameMeta) (rest : List ℕ) : Type 0 where
  pub fits : IsMeta meta
  pub range : is_valid_range_at meta.range_ns.0 meta.range_ns.1 ≡ true
  pub text : bytes ≡ counted_part (meta_layout meta) ++ rest

-- so they are where one is read
pub meta_taken : (bytes : List ℕ) (meta : FrameMeta) (rest : List ℕ) →
    IsBytes bytes → meta_part_at bytes ≡ Ok (meta, rest) →
    MetaTaken bytes meta rest
meta_taken bytes meta rest are_bytes read =
    let ((part, after), read_part, decodes) =
    bind_ok (counted_part_at bytes) (λ part. meta_from part.0 >>= λ found. Ok (found, part.1)) (meta, rest) read in
    let (found, decoded, answer) = bind_ok (meta_from part) (λ found. Ok (found, after)) (meta, rest) decodes in
    let (short, split) = counted_taken bytes part after are_bytes read_part in
    let (whole_part, valid) = ranged (whole meta_at part) found decoded in
    let (fits, layout) =
    whole_taken IsMeta meta_layout meta_at meta_reader part found (counted_bytes bytes part after split are_bytes)
    whole_part in
    let made : (FrameMeta × List ℕ) = (found, after) in
    let text : bytes ≡ counted_part (meta_layout found) ++ after =
    split ∙ ap (λ (part : List ℕ). counted_part part ++ after) layout in
    subst (λ (got : FrameMeta × List ℕ). MetaTaken bytes got.0 got.1) (same_ok made (meta, rest) answer)
    (record { fits = fits; range = valid; text = text })

-- ---- the kind

-- a list of one item is that item
one_item : (xs : List ℕ) → length xs ≡ 1 → xs ≡ slice_index xs 0 ∷ []
one_item [] one = absurd (omega arith)
one_item (x ∷ []) one = refl
one_item (x ∷ y ∷ xs) one = absurd (omega arith)

-- a byte was in front of the rest
first_taken : (bytes : List ℕ) (byte : ℕ) (rest : List ℕ) → first_at bytes ≡ Ok (byte, rest) → bytes ≡ byte ∷ rest
first_taken bytes byte rest read =
    let ((part, after), read_part, answer) =
    bind_ok (part_of 1 bytes) (λ part. Ok (slice_index part.0 0, part.1)) (byte, rest) read in
    let (one, split) = part_taken 1 bytes part after read_part in
    let made : (ℕ × List ℕ) = (slice_index part 0, after) in
    let text : bytes ≡ slice_index part 0 ∷ after =
    split ∙ ap (λ (front : List ℕ). front ++ after) (one_item part one) in
    subst (λ (got : ℕ × List ℕ). bytes ≡ got.0 ∷ got.1) (same_ok made (byte, rest) answer) text

-- a byte that gives a kind is that kind's byte
kind_given : (byte : ℕ) (kind : Kind) → kind_from byte ≡ Ok kind → byte ≡ to_byte kind
kind_given byte kind read =
    by_test byte kind (eqb byte 0) (eqb byte 1) (eqb byte 2) (eqb-true byte 0) (eqb-true byte 1) (eqb-true byte 2) read
  where
    by_test : (byte : ℕ) (kind : Kind) (zero one two : Bool) →
        (zero ≡ true → byte ≡ 0) → (one ≡ true → byte ≡ 1) → (two ≡ true → byte ≡ 2) →
        known_kind byte (cond zero (Some Uncompressed) (cond one (Some Lz4) (cond two (Some Zstd) None))) ≡ Ok kind →
        byte ≡ to_byte kind
    by_test byte kind true one two is_0 is_1 is_2 read = is_0 refl ∙ ap to_byte (same_ok Uncompressed kind read)
    by_test byte kind false true two is_0 is_1 is_2 read = is_1 refl ∙ ap to_byte (same_ok Lz4 kind read)
    by_test byte kind false false true is_0 is_1 is_2 read = is_2 refl ∙ ap to_byte (same_ok Zstd kind read)
    by_test byte kind false false false is_0 is_1 is_2 read = absurd cc

-- a kind's byte was in front of the rest
pub kind_taken : (bytes : List ℕ) (kind : Kind) (rest : List ℕ) →
    given_kind_at bytes ≡ Ok (kind, rest) →
    bytes ≡ to_byte kind ∷ rest
kind_taken bytes kind rest read =
    let ((byte, after), read_byte, decodes) =
    bind_ok (first_at bytes) (λ byte. kind_from byte.0 >>= λ found. Ok (found, byte.1)) (kind, rest) read in
    let (found, known, answer) = bind_ok (kind_from byte) (λ found. Ok (found, after)) (kind, rest) decodes in
    let text : bytes ≡ to_byte found ∷ after =
    first_taken bytes byte after read_byte ∙ ap (λ (first : ℕ). first ∷ after) (kind_given byte found known) in
    let made : (Kind × List ℕ) = (found, after) in
    subst (λ (got : Kind × List ℕ). bytes ≡ to_byte got.0 ∷ got.1) (same_ok made (kind, rest) answer) text

-- ---- details

-- details that are taken were decoded
given_from : (decoded : Option (List Details)) (details : List Details) →
    details_from decoded ≡ Ok details →
    decoded ≡ Some details
given_from None details read = absurd cc
given_from (Some x) details read = ap Some (same_ok x details read)

-- these bytes are the part of a list of details and the rest
pub record DetailsTaken (bytes : List ℕ) (details : List Details) (rest : List ℕ) : Type 0 where
  pub fits : AreDetails details
  pub short : length (details_layout details) < 2 ^ 32
  pub text : bytes ≡ counted_part (details_layout details) ++ rest

-- so they are where one is read
pub details_taken : (bytes : List ℕ) (details : List Details) (rest : List ℕ) →
    IsBytes bytes → given_details_at bytes ≡ Ok (details, rest) →
    DetailsTaken bytes details rest
details_taken bytes details rest are_bytes read =
    let ((part, after), read_part, decodes) =
    bind_ok (counted_part_at bytes) (λ part. details_from (whole details_at part.0) >>= λ found. Ok (found, part.1))
    (details, rest) read in
    let (found, decoded, answer) =
    bind_ok (details_from (whole details_at part)) (λ found. Ok (found, after)) (details, rest) decodes in
    let (part_short, split) = counted_taken bytes part after are_bytes read_part in
    let (fits, layout) =
    whole_taken AreDetails details_layout details_at details_reader part found
    (counted_bytes bytes part after split are_bytes) (given_from (whole details_at part) found decoded) in
    let made : (List Details × List ℕ) = (found, after) in
    let text : bytes ≡ counted_part (details_layout found) ++ after =
    split ∙ ap (λ (part : List ℕ). counted_part part ++ after) layout in
    let short : length (details_layout found) < 2 ^ 32 = rw (← layout) part_short in
    subst (λ (got : List Details × List ℕ). DetailsTaken bytes got.0 got.1) (same_ok made (details, rest) answer)
    (record { fits = fits; short = short; text = text })

-- ---- a legacy frame

-- a legacy frame that is taken was decoded, and its range isn't reversed
legacy_ranged : (decoded : Option Legacy) (frame : Legacy) →
    legacy_with_range decoded ≡ Ok frame →
    (decoded ≡ Some frame) × (is_valid_range_at frame.meta.range_ns.0 frame.meta.range_ns.1 ≡ true)
legacy_ranged None frame read = absurd cc
legacy_ranged (Some x) frame read =
    let (valid, same) = only_if (is_valid_range_at x.meta.range_ns.0 x.meta.range_ns.1) file.BadRange x frame read in
    (ap Some same, subst (λ (f : Legacy). is_valid_range_at f.meta.range_ns.0 f.meta.range_ns.1 ≡ true) same valid)

-- these bytes are a legacy frame of this size and the rest
pub record LegacyTaken (size : ℕ) (bytes : List ℕ) (frame : Legacy) (rest : List ℕ) : Type 0 where
  pub fits : IsLegacy frame
  pub range : is_valid_range_at frame.meta.range_ns.0 frame.meta.range_ns.1 ≡ true
  pub size_is : length (legacy_layout frame) ≡ size
  pub text : bytes ≡ legacy_layout frame ++ rest

-- so they are where one is read
pub legacy_taken : (size : ℕ) (bytes : List ℕ) (frame : Legacy) (rest : List ℕ) →
    IsBytes bytes → legacy_part_at size bytes ≡ Ok (frame, rest) →
    LegacyTaken size bytes frame rest
legacy_taken size bytes frame rest are_bytes read =
    let ((part, after), read_part, decodes) =
    bind_ok (part_of size bytes) (λ part. legacy_from part.0 >>= λ found. Ok (found, part.1)) (frame, rest) read in
    let (found, decoded, answer) = bind_ok (legacy_from part) (λ found. Ok (found, after)) (frame, rest) decodes in
    let (part_size, split) = part_taken size bytes part after read_part in
    let (whole_part, valid) = legacy_ranged (whole legacy_at part) found decoded in
    let (fits, layout) =
    whole_taken IsLegacy legacy_layout legacy_at legacy_reader part found
    (IsBytes-before bytes part after split are_bytes) whole_part in
    let made : (Legacy × List ℕ) = (found, after) in
    let text : bytes ≡ legacy_layout found ++ after = split ∙ ap (λ (front : List ℕ). front ++ after) layout in
    let size_is : length (legacy_layout found) ≡ size = rw (← layout) part_size in
    subst (λ (got : Legacy × List ℕ). LegacyTaken size bytes got.0 got.1) (same_ok made (frame, rest) answer)
    (record { fits = fits; range = valid; size_is = size_is; text = text })
