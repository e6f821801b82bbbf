-- A frame is read from bytes that store it, and from no others: a packet by its letters, and a legacy frame by its length.
use Rattle.std.proofs.Common.{◌≡◌, ℕ, ◌^◌, ◌<◌, ◌≤◌, ◌⊎◌, inl, inr, Bool, true, false, cond, ltb, eqb, ◌||◌, List, [], ◌∷◌, ◌++◌, length, take, drop, Option, Some, None, Result, Ok, Err, refl, sym, ap, subst, ◌∙◌, append_assoc, arith}
use Rattle.std.specs.Prelude.{◌↔◌, slice_index}
use Rattle.std.proofs.lemmas.Bool.{ltb-false, eqb-true}
use Rattle.std.proofs.lemmas.Option.{same_Some}
use Rattle.std.proofs.lemmas.List.{append-nil, take_all, take-append-drop, length-take}
use Rattle.byteorder.specs.Endian.{little_bytes, little_number}
use Rattle.puffin_data.specs.declared.data.form.Form.{Form}
use Rattle.puffin_data.specs.declared.data.form.Form.TheVariants.{Short, Long}
use Rattle.puffin_data.specs.declared.file_error.FileError.{FileError}
use Rattle.puffin_data.specs.declared.file_error.FileError.TheVariants as file
use Rattle.puffin_data.specs.Value.Layout.{IsBytes}
use Rattle.puffin_data.specs.Device.{FromDevice}
use Rattle.puffin_data.proofs.lemmas.Numbers.{IsBytes-take, IsBytes-drop, IsBytes-nil, IsBytes-append, bytes_4, below_4}
use Rattle.puffin_frames.specs.declared.frame_data.version.Version.{Version}
use Rattle.puffin_frames.specs.declared.frame_data.version.Version.TheVariants.{Pfd2, Pfd3, Pfd4, PfdL}
use Rattle.puffin_frames.specs.Packet.Structs.{meta_layout, details_layout, Legacy, legacy_layout}
use Rattle.puffin_frames.specs.Packet.Stored.{PacketFields, Stored, packed, legacy}
use Rattle.puffin_frames.specs.Packet.Kinds.{to_byte}
use Rattle.puffin_frames.specs.Packet.Letters.{last_letter, from_letter, for_form, is_packet}
use Rattle.puffin_frames.specs.Packet.Parts.{legacy_part_at}
use Rattle.puffin_frames.specs.Packet.Versions.{packet_at, packet_if_read, version_at, as_stored, stored_after}
use Rattle.puffin_frames.specs.Packet.Front.{is_end, next_at}
use Rattle.puffin_frames.specs.Packet.Grammar.{counted_part, packet_head, packet, packet_without_details, packet_without_kind, legacy_bytes, IsLegacyFrame, Stores, TookStored}
use Rattle.puffin_frames.proofs.Listed.{and-first, and-second}
use Rattle.puffin_frames.proofs.PartsTaken.{same_ok, LegacyTaken, legacy_taken}
use Rattle.puffin_frames.proofs.OlderPackets.{row_pfd3, row_pfd2, without_details_again, without_kind_again, legacy_again}
use Rattle.puffin_frames.proofs.lemmas.Packets.{written, packet_again, in_a_row}
use Rattle.puffin_frames.proofs.PacketsTaken.{FullTaken, full_taken, WithoutDetails, without_details_taken, WithoutKind, without_kind_taken}

-- bytes before the rest store the frame
StoredFrom : List ℕ → Stored → List ℕ → Type 0
StoredFrom bytes stored rest = (front : List ℕ) × Stores front stored × (bytes ≡ front ++ rest)

-- ---- what follows the letters, with the letters

full_from : (form : Form) (bytes parts : List ℕ) (fields : PacketFields) (rest : List ℕ) →
    bytes ≡ 80 ∷ 70 ∷ 68 ∷ last_letter (for_form form) ∷ parts → FullTaken form parts fields rest →
    StoredFrom bytes (packed fields) rest
unfolding packet_head StoredFrom
full_from form bytes parts fields rest letters taken =
    let meta = counted_part (meta_layout fields.meta) in
    let size = little_bytes 4 (length fields.streams) in
    let details = counted_part (details_layout fields.details) in
    let row : List ℕ = meta ++ (size ++ (to_byte fields.kind ∷ (fields.streams ++ (details ++ rest)))) in (
      packet fields,
      (taken.is_packed, inl refl),
      letters
          ∙ (ap (λ (parts : List ℕ). 80 ∷ 70 ∷ 68 ∷ last_letter (for_form form) ∷ parts) taken.text
          ∙ (ap (λ (form : Form). 80 ∷ 70 ∷ 68 ∷ last_letter (for_form form) ∷ row) (sym taken.form_is)
          ∙ sym (in_a_row meta size fields.streams details rest (last_letter (for_form fields.form))
          (to_byte fields.kind)))),
    )

without_details_from : (bytes parts : List ℕ) (fields : PacketFields) (rest : List ℕ) →
    bytes ≡ 80 ∷ 70 ∷ 68 ∷ 51 ∷ parts → WithoutDetails parts fields rest →
    StoredFrom bytes (packed fields) rest
unfolding StoredFrom
without_details_from bytes parts fields rest letters taken =
    let meta = counted_part (meta_layout fields.meta) in
    let size = little_bytes 4 (length fields.streams) in (
      packet_without_details fields,
      (taken.is_packed, inr (inl (refl, taken.form_is, taken.none))),
      letters
          ∙ (ap (λ (parts : List ℕ). 80 ∷ 70 ∷ 68 ∷ 51 ∷ parts) taken.text
          ∙ sym (row_pfd3 meta size fields.streams rest (to_byte fields.kind))),
    )

without_kind_from : (bytes parts : List ℕ) (fields : PacketFields) (rest : List ℕ) →
    bytes ≡ 80 ∷ 70 ∷ 68 ∷ 50 ∷ parts → WithoutKind parts fields rest →
    StoredFrom bytes (packed fields) rest
unfolding StoredFrom
without_kind_from bytes parts fields rest letters taken =
    let meta = counted_part (meta_layout fields.meta) in
    let size = little_bytes 4 (length fields.streams) in (
      packet_without_kind fields,
      (taken.is_packed, inr (inr (refl, taken.form_is, taken.zstd, taken.none))),
      letters
          ∙ (ap (λ (parts : List ℕ). 80 ∷ 70 ∷ 68 ∷ 50 ∷ parts) taken.text
          ∙ sym (row_pfd2 meta size fields.streams rest)),
    )

-- ---- the letter says which version it is

chosen : {A : Type 0} (b : Bool) (x y z : A) → cond b x y ≡ z → ((b ≡ true) × (x ≡ z)) ⊎ ((b ≡ false) × (y ≡ z))
chosen true x y z same = inl (refl, same)
chosen false x y z same = inr (refl, same)

no_fault : {A : Type 0} (fault : FileError) (x : A) → ◌≡◌ {A = Result A FileError} (Err fault) (Ok x) → ⊥
no_fault fault x same = absurd cc

-- a packet was read in the version of this letter
record VersionTaken (letter : ℕ) (parts : List ℕ) (fields : PacketFields) (rest : List ℕ) : Type 0 where
  version : Version
  known : from_letter letter ≡ Some version
  read : packet_at version parts ≡ Ok (fields, rest)

version_taken : (letter : ℕ) (parts : List ℕ) (fields : PacketFields) (rest : List ℕ) →
    version_at letter parts ≡ Ok (fields, rest) →
    VersionTaken letter parts fields rest
version_taken letter parts fields rest read = by_version (from_letter letter) refl read
  where
    by_version : (found : Option Version) →
        from_letter letter ≡ found → packet_if_read letter found parts ≡ Ok (fields, rest) →
        VersionTaken letter parts fields rest
    by_version (Some version) known read = record { version = version; known = known; read = read }
    by_version None unknown read =
        let answer : Result (PacketFields × List ℕ) FileError = Ok (fields, rest) in
        elim (chosen (eqb letter 48 || eqb letter 49) (Err file.Legacy) (Err file.Newer) answer read) [
          | inl old ↦ absurd (no_fault file.Legacy (fields, rest) old.1)
          | inr newer ↦ absurd (no_fault file.Newer (fields, rest) newer.1)
        ]

letter_is : (letter : ℕ) (version : Version) → from_letter letter ≡ Some version → letter ≡ last_letter version
letter_is letter version known =
    by_test (eqb letter 50) (eqb letter 51) (eqb letter 52) (eqb letter 76) (eqb-true letter 50) (eqb-true letter 51)
    (eqb-true letter 52) (eqb-true letter 76) known
  where
    by_test : (two three four long : Bool) →
        (two ≡ true → letter ≡ 50) → (three ≡ true → letter ≡ 51) → (four ≡ true → letter ≡ 52) →
        (long ≡ true → letter ≡ 76) →
        cond two (Some Pfd2) (cond three (Some Pfd3) (cond four (Some Pfd4) (cond long (Some PfdL) None)))
        ≡ Some version →
        letter ≡ last_letter version
    by_test true three four long is_2 is_3 is_4 is_l same = is_2 refl ∙ ap last_letter (same_Some Pfd2 version same)
    by_test false true four long is_2 is_3 is_4 is_l same = is_3 refl ∙ ap last_letter (same_Some Pfd3 version same)
    by_test false false true long is_2 is_3 is_4 is_l same = is_4 refl ∙ ap last_letter (same_Some Pfd4 version same)
    by_test false false false true is_2 is_3 is_4 is_l same = is_l refl ∙ ap last_letter (same_Some PfdL version same)
    by_test false false false false is_2 is_3 is_4 is_l same = absurd cc

packed_from : (letter : ℕ) (bytes parts : List ℕ) (fields : PacketFields) (rest : List ℕ) →
    IsBytes parts → bytes ≡ 80 ∷ 70 ∷ 68 ∷ letter ∷ parts → VersionTaken letter parts fields rest →
    StoredFrom bytes (packed fields) rest
packed_from letter bytes parts fields rest are_bytes text taken =
    by_version taken.version
    (text ∙ ap (λ (letter : ℕ). 80 ∷ 70 ∷ 68 ∷ letter ∷ parts) (letter_is letter taken.version taken.known)) taken.read
  where
    by_version : (version : Version) →
        bytes ≡ 80 ∷ 70 ∷ 68 ∷ last_letter version ∷ parts → packet_at version parts ≡ Ok (fields, rest) →
        StoredFrom bytes (packed fields) rest
    by_version Pfd2 text read =
        without_kind_from bytes parts fields rest text (without_kind_taken parts fields rest are_bytes read)
    by_version Pfd3 text read =
        without_details_from bytes parts fields rest text (without_details_taken parts fields rest are_bytes read)
    by_version Pfd4 text read =
        full_from Short bytes parts fields rest text (full_taken Short Pfd4 (written Short) parts fields rest are_bytes read)
    by_version PfdL text read =
        full_from Long bytes parts fields rest text (full_taken Long PfdL (written Long) parts fields rest are_bytes read)

-- ---- the header is the letters of a packet or the length of a legacy frame

four_items : (xs : List ℕ) →
    length xs ≡ 4 →
    xs ≡ slice_index xs 0 ∷ slice_index xs 1 ∷ slice_index xs 2 ∷ slice_index xs 3 ∷ []
four_items [] four = absurd (omega arith)
four_items (a ∷ []) four = absurd (omega arith)
four_items (a ∷ b ∷ []) four = absurd (omega arith)
four_items (a ∷ b ∷ c ∷ []) four = absurd (omega arith)
four_items (a ∷ b ∷ c ∷ d ∷ []) four = refl
four_items (a ∷ b ∷ c ∷ d ∷ f ∷ more) four = absurd (omega arith)

letters_are : (header : List ℕ) →
    length header ≡ 4 → is_packet header ≡ true →
    header ≡ 80 ∷ 70 ∷ 68 ∷ slice_index header 3 ∷ []
letters_are header four so =
    let first : slice_index header 0 ≡ 80 = eqb-true _ _ (and-first _ _ (and-first _ _ so)) in
    let second : slice_index header 1 ≡ 70 = eqb-true _ _ (and-second _ _ (and-first _ _ so)) in
    let third : slice_index header 2 ≡ 68 = eqb-true _ _ (and-second _ _ so) in
    four_items header four
    ∙ (ap (λ (x : ℕ). x ∷ slice_index header 1 ∷ slice_index header 2 ∷ slice_index header 3 ∷ []) first
    ∙ (ap (λ (x : ℕ). 80 ∷ x ∷ slice_index header 2 ∷ slice_index header 3 ∷ []) second
    ∙ ap (λ (x : ℕ). 80 ∷ 70 ∷ x ∷ slice_index header 3 ∷ []) third))

-- a reading gave this frame
Gives : Result (Option Stored × List ℕ) FileError → Stored → List ℕ → Type 0
Gives result stored rest = result ≡ Ok (Some stored, rest)

-- so it gave what the frame is made of
stored_is : {A : Type 0} (form : A → Stored) (read : Result (A × List ℕ) FileError) (stored : Stored) (rest : List ℕ) →
    Gives (as_stored form read) stored rest →
    (x : A) × (read ≡ Ok (x, rest)) × (form x ≡ stored)
unfolding Gives
stored_is form (Err fault) stored rest given = absurd (no_fault fault (Some stored, rest) given)
stored_is {A = A} form (Ok found) stored rest given =
    let made : (Option Stored × List ℕ) = (Some (form found.0), found.1) in
    let same = same_ok made (Some stored, rest) given in (
      found.0,
      ap (λ (after : List ℕ). Ok (found.0, after)) (ap (λ (got : Option Stored × List ℕ). got.1) same),
      same_some (form found.0) stored (ap (λ (got : Option Stored × List ℕ). got.0) same),
    )
  where
    same_some : (x y : Stored) → Some x ≡ Some y → x ≡ y
    same_some x y same = cc

legacy_from_bytes : (header bytes part : List ℕ) (frame : Legacy) (rest : List ℕ) →
    length header ≡ 4 → IsBytes header → is_packet header ≡ false → bytes ≡ header ++ part →
    LegacyTaken (little_number 4 header) part frame rest → little_number 4 header < 2 ^ 32 →
    StoredFrom bytes (legacy frame) rest
unfolding StoredFrom
legacy_from_bytes header bytes part frame rest four are_bytes no_packet text taken small =
    let same : little_bytes 4 (length (legacy_layout frame)) ≡ header =
    ap (little_bytes 4) taken.size_is
    ∙ (bytes_4 header (omega (arith, four)) are_bytes ∙ take_all 4 header (omega (arith, four))) in
    let stores : IsLegacyFrame frame = record {
      layout = taken.fits;
      range = taken.range;
      short = rw taken.size_is small;
      no_packet = ap is_packet same ∙ no_packet;
    } in (
      legacy_bytes frame,
      (stores, refl),
      text
          ∙ (ap (λ (part : List ℕ). header ++ part) taken.text
          ∙ (sym (append_assoc header (legacy_layout frame) rest)
          ∙ ap (λ (size : List ℕ). (size ++ legacy_layout frame) ++ rest) (sym same))),
    )

-- bytes that give a frame aren't read as the end
not_none : (at_end : Bool) (left : List ℕ) (read : Result (Option Stored × List ℕ) FileError) (stored : Stored)
    (rest : List ℕ) →
    Gives (cond at_end (Ok (None, left)) read) stored rest →
    (at_end ≡ false) × Gives read stored rest
unfolding Gives
not_none true left read stored rest given =
    let made : (Option Stored × List ℕ) = (None, left) in
    absurd (nothing stored (ap (λ (got : Option Stored × List ℕ). got.0) (same_ok made (Some stored, rest) given)))
  where
    nothing : (stored : Stored) → None ≡ Some stored → ⊥
    nothing stored same = absurd cc
not_none false left read stored rest given = (refl, given)

neither : (a b : Bool) → (a || b) ≡ false → a ≡ false
neither true b same = absurd cc
neither false b same = refl

packed_read : (header bytes parts : List ℕ) (stored : Stored) (rest : List ℕ) →
    length header ≡ 4 → IsBytes parts → bytes ≡ header ++ parts → is_packet header ≡ true →
    Gives (as_stored packed (version_at (slice_index header 3) parts)) stored rest →
    StoredFrom bytes stored rest
packed_read header bytes parts stored rest four are_bytes text so given =
    let letter = slice_index header 3 in
    let (fields, read, is) = stored_is packed (version_at letter parts) stored rest given in
    let letters : bytes ≡ 80 ∷ 70 ∷ 68 ∷ letter ∷ parts =
    text ∙ ap (λ (header : List ℕ). header ++ parts) (letters_are header four so) in
    subst (λ (stored : Stored). StoredFrom bytes stored rest) is
    (packed_from letter bytes parts fields rest are_bytes letters (version_taken letter parts fields rest read))

legacy_read : (header bytes part : List ℕ) (stored : Stored) (rest : List ℕ) →
    length header ≡ 4 → IsBytes header → IsBytes part → bytes ≡ header ++ part → is_packet header ≡ false →
    Gives (as_stored legacy (legacy_part_at (little_number 4 header) part)) stored rest →
    StoredFrom bytes stored rest
legacy_read header bytes part stored rest four front are_bytes text no_packet given =
    let size = little_number 4 header in
    let (frame, read, is) = stored_is legacy (legacy_part_at size part) stored rest given in
    subst (λ (stored : Stored). StoredFrom bytes stored rest) is
    (legacy_from_bytes header bytes part frame rest four front no_packet text
    (legacy_taken size part frame rest are_bytes read) (below_4 header front))

pub stored_taken : (bytes rest : List ℕ) (stored : Stored) →
    IsBytes bytes → next_at bytes ≡ Ok (Some stored, rest) →
    (front : List ℕ) × Stores front stored × (bytes ≡ front ++ rest)
unfolding next_at Gives StoredFrom
stored_taken bytes rest stored are_bytes read =
    let header = take 4 bytes in
    let after = drop 4 bytes in
    let (not_end, goes) = not_none (is_end bytes) after (stored_after header after) stored rest read in
    let long : 4 ≤ length bytes = ltb-false _ _ (neither (ltb (length bytes) 4) (eqb (little_number 4 bytes) 0) not_end) in
    let four : length header ≡ 4 = omega (arith, length-take 4 bytes, long) in
    let text : bytes ≡ header ++ after = sym (take-append-drop 4 bytes) in
    let of_packet : Result (Option Stored × List ℕ) FileError = as_stored packed (version_at (slice_index header 3) after) in
    let of_legacy : Result (Option Stored × List ℕ) FileError =
    as_stored legacy (legacy_part_at (little_number 4 header) after) in
    let answer : Result (Option Stored × List ℕ) FileError = Ok (Some stored, rest) in
    elim (chosen (is_packet header) of_packet of_legacy answer goes) [
      | inl so ↦ packed_read header bytes after stored rest four (IsBytes-drop 4 bytes are_bytes) text so.0 so.1
      | inr other ↦ legacy_read header bytes after stored rest four (IsBytes-take 4 bytes are_bytes)
          (IsBytes-drop 4 bytes are_bytes) text other.0 other.1
    ]

-- ---- and the other way

pub stores_again : (front rest : List ℕ) (stored : Stored) →
    Stores front stored →
    next_at (front ++ rest) ≡ Ok (Some stored, rest)
stores_again front rest (packed fields) (fits, is_packet) =
    elim is_packet [
      | inl now ↦ ap (λ (front : List ℕ). next_at (front ++ rest)) now ∙ packet_again fields rest fits
      | inr older ↦ elim older [
        | inl so ↦ ap (λ (front : List ℕ). next_at (front ++ rest)) so.0
            ∙ without_details_again fields rest fits so.1 so.2
        | inr so ↦ ap (λ (front : List ℕ). next_at (front ++ rest)) so.0
            ∙ without_kind_again fields rest fits so.1 so.2 so.3
      ]
    ]
stores_again front rest (legacy frame) (fits, same) =
    ap (λ (front : List ℕ). next_at (front ++ rest)) same ∙ legacy_again frame rest fits

pub stored_at_front : (bytes rest : List ℕ) (stored : Stored) →
    IsBytes bytes →
    (next_at bytes ≡ Ok (Some stored, rest)) ↔ ((front : List ℕ) × Stores front stored × (bytes ≡ front ++ rest))
stored_at_front bytes rest stored are_bytes = (
  stored_taken bytes rest stored are_bytes,
  λ (front, stores, split). ap next_at split ∙ stores_again front rest stored stores,
)

-- what a device gave of a frame stores it
pub took_stored : {X : Type 0} (view : X → Stored) (x : X) (old new : Option (List ℕ)) →
    FromDevice (λ (y : X). Some (view y)) old new (Ok x) next_at →
    TookStored old new (view x)
took_stored view x old new (taken, consumed, read, are_bytes) =
    let (front, stores, split) =
    stored_taken (taken ++ []) [] (view x) (IsBytes-append taken [] are_bytes IsBytes-nil) (read []) in
    let whole : front ≡ taken = sym (sym (append-nil taken) ∙ (split ∙ append-nil front)) in
    (taken, consumed, subst (λ (front : List ℕ). Stores front (view x)) whole stores)
