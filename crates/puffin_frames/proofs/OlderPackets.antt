-- Frames in older versions are read again, whatever follows them.
use Rattle.std.proofs.Common.{◌≡◌, ℕ, ◌<◌, false, List, [], ◌∷◌, ◌++◌, length, Some, Ok, refl, sym, ap, ◌∙◌, append_assoc, arith}
use Rattle.std.proofs.lemmas.List.{length-append}
use Rattle.byteorder.specs.Endian.{little_bytes, little_number}
use Rattle.byteorder.specs.Numbers.{little_number-reads_back}
use Rattle.puffin_data.specs.declared.data.form.Form.{Form}
use Rattle.puffin_data.specs.declared.data.form.Form.TheVariants.{Short}
use Rattle.puffin_data.specs.Value.Layout.{number, signed}
use Rattle.puffin_data.proofs.lemmas.Readers.{whole_again}
use Rattle.puffin_threads.specs.Details.{Details}
use Rattle.puffin_frames.specs.declared.frame_data.kind.Kind.{Kind}
use Rattle.puffin_frames.specs.declared.frame_data.kind.Kind.TheVariants.{Zstd}
use Rattle.puffin_frames.specs.declared.frame_data.version.Version.TheVariants.{Pfd2, Pfd3}
use Rattle.puffin_frames.specs.Packet.Structs.{meta_layout, streams_layout, Legacy, IsLegacy, legacy_layout, legacy_at}
use Rattle.puffin_frames.specs.Packet.Stored.{PacketFields, packed, legacy}
use Rattle.puffin_frames.specs.Packet.Kinds.{to_byte, from_byte-reads_back}
use Rattle.puffin_frames.specs.Packet.Letters.{is_packet}
use Rattle.puffin_frames.specs.Packet.Parts.{streams_part_at, legacy_part_at}
use Rattle.puffin_frames.specs.Packet.Versions.{packet_at, stored_after, as_stored}
use Rattle.puffin_frames.specs.Packet.Front.{is_end, next_at}
use Rattle.puffin_frames.specs.Packet.Grammar.{counted_part, IsPacked, packet_without_details, packet_without_kind, legacy_bytes, IsLegacyFrame}
use Rattle.puffin_frames.proofs.Structs.{legacy_reader}
use Rattle.puffin_frames.proofs.Writing.{number_long}
use Rattle.puffin_frames.proofs.PacketsRead.{after_header, not_end}
use Rattle.puffin_frames.proofs.lemmas.Packets.{part_again, length_again, meta_again, after_letters}

-- ---- without details

streams_pfd3 : (fields : PacketFields) (rest : List ℕ) →
    IsPacked fields →
    streams_part_at Pfd3 (little_bytes 4 (length fields.streams) ++ (to_byte fields.kind ∷ (fields.streams ++ rest)))
    ≡ Ok ((fields.kind, fields.streams), rest)
streams_pfd3 fields rest fits =
    rw (
      length_again (length fields.streams) (to_byte fields.kind ∷ (fields.streams ++ rest)) fits.short,
      part_again 1 (to_byte fields.kind ∷ []) (fields.streams ++ rest) refl,
      from_byte-reads_back fields.kind,
      part_again (length fields.streams) fields.streams rest refl,
    ) refl

-- what older packets can't say otherwise
without : (fields : PacketFields) →
    fields.form ≡ Short → fields.details ≡ [] →
    record fields { form = Short; details = [] } ≡ fields
without fields short none =
    ap (λ (form : Form). record fields { form = form; details = [] }) (sym short)
    ∙ ap (λ (ds : List Details). record fields { details = ds }) (sym none)

parts_pfd3 : (fields : PacketFields) (rest : List ℕ) →
    IsPacked fields → fields.form ≡ Short → fields.details ≡ [] →
    packet_at Pfd3 (counted_part (meta_layout fields.meta)
    ++ (little_bytes 4 (length fields.streams) ++ (to_byte fields.kind ∷ (fields.streams ++ rest)))) ≡ Ok (fields, rest)
parts_pfd3 fields rest fits short none =
    rw (
      meta_again fields (little_bytes 4 (length fields.streams) ++ (to_byte fields.kind ∷ (fields.streams ++ rest))) fits,
      streams_pfd3 fields rest fits,
    ) (ap (λ (read : PacketFields). Ok (read, rest)) (without fields short none))

pub row_pfd3 : (meta size streams rest : List ℕ) (kind : ℕ) →
    ((80 ∷ 70 ∷ 68 ∷ 51 ∷ []) ++ (meta ++ (size ++ (kind ∷ streams)))) ++ rest
    ≡ 80 ∷ 70 ∷ 68 ∷ 51 ∷ (meta ++ (size ++ (kind ∷ (streams ++ rest))))
row_pfd3 meta size streams rest kind = simp append_assoc

pub without_details_again : (fields : PacketFields) (rest : List ℕ) →
    IsPacked fields → fields.form ≡ Short → fields.details ≡ [] →
    next_at (packet_without_details fields ++ rest) ≡ Ok (Some (packed fields), rest)
without_details_again fields rest fits short none =
    let meta = counted_part (meta_layout fields.meta) in
    let size = little_bytes 4 (length fields.streams) in
    ap next_at (row_pfd3 meta size fields.streams rest (to_byte fields.kind))
    ∙ (after_letters Pfd3 (meta ++ (size ++ (to_byte fields.kind ∷ (fields.streams ++ rest))))
    ∙ ap (as_stored packed) (parts_pfd3 fields rest fits short none))

-- ---- without a kind

streams_pfd2 : (fields : PacketFields) (rest : List ℕ) →
    IsPacked fields →
    streams_part_at Pfd2 (little_bytes 4 (length fields.streams) ++ (fields.streams ++ rest))
    ≡ Ok ((Zstd, fields.streams), rest)
streams_pfd2 fields rest fits =
    rw (
      length_again (length fields.streams) (fields.streams ++ rest) fits.short,
      part_again (length fields.streams) fields.streams rest refl,
    ) refl

older : (fields : PacketFields) →
    fields.form ≡ Short → fields.kind ≡ Zstd → fields.details ≡ [] →
    record fields { form = Short; kind = Zstd; details = [] } ≡ fields
older fields short zstd none =
    ap (λ (k : Kind). record fields { form = Short; kind = k; details = [] }) (sym zstd) ∙ without fields short none

parts_pfd2 : (fields : PacketFields) (rest : List ℕ) →
    IsPacked fields → fields.form ≡ Short → fields.kind ≡ Zstd → fields.details ≡ [] →
    packet_at Pfd2 (counted_part (meta_layout fields.meta)
    ++ (little_bytes 4 (length fields.streams) ++ (fields.streams ++ rest))) ≡ Ok (fields, rest)
parts_pfd2 fields rest fits short zstd none =
    rw (
      meta_again fields (little_bytes 4 (length fields.streams) ++ (fields.streams ++ rest)) fits,
      streams_pfd2 fields rest fits,
    )
    (ap (λ (read : PacketFields). Ok (read, rest)) (older fields short zstd none))

pub row_pfd2 : (meta size streams rest : List ℕ) →
    ((80 ∷ 70 ∷ 68 ∷ 50 ∷ []) ++ (meta ++ (size ++ streams))) ++ rest
    ≡ 80 ∷ 70 ∷ 68 ∷ 50 ∷ (meta ++ (size ++ (streams ++ rest)))
row_pfd2 meta size streams rest = simp append_assoc

pub without_kind_again : (fields : PacketFields) (rest : List ℕ) →
    IsPacked fields → fields.form ≡ Short → fields.kind ≡ Zstd → fields.details ≡ [] →
    next_at (packet_without_kind fields ++ rest) ≡ Ok (Some (packed fields), rest)
without_kind_again fields rest fits short zstd none =
    let meta = counted_part (meta_layout fields.meta) in
    let size = little_bytes 4 (length fields.streams) in
    ap next_at (row_pfd2 meta size fields.streams rest)
    ∙ (after_letters Pfd2 (meta ++ (size ++ (fields.streams ++ rest)))
    ∙ ap (as_stored packed) (parts_pfd2 fields rest fits short zstd none))

-- ---- legacy frames

legacy_long : (frame : Legacy) → 0 < length (legacy_layout frame)
legacy_long frame =
    let index = number frame.meta.frame_index in
    let rest =
    streams_layout Short frame.streams ++ (signed frame.meta.range_ns.0
    ++ (signed frame.meta.range_ns.1 ++ (number frame.meta.num_bytes ++ number frame.meta.num_scopes))) in
    omega (arith, length-append index rest, number_long frame.meta.frame_index)

legacy_part_again : (frame : Legacy) (rest : List ℕ) →
    IsLegacyFrame frame →
    legacy_part_at (length (legacy_layout frame)) (legacy_layout frame ++ rest) ≡ Ok (frame, rest)
legacy_part_again frame rest fits =
    rw (
      part_again (length (legacy_layout frame)) (legacy_layout frame) rest refl,
      whole_again IsLegacy legacy_layout legacy_at legacy_reader frame fits.layout,
      fits.range,
    ) refl

-- the letters aren't those of a packet, so they are a length
by_length : (header after : List ℕ) (number : ℕ) →
    is_packet header ≡ false → little_number 4 header ≡ number →
    stored_after header after ≡ as_stored legacy (legacy_part_at number after)
by_length header after number no_packet size = rw (no_packet, size) refl

pub legacy_again : (frame : Legacy) (rest : List ℕ) →
    IsLegacyFrame frame →
    next_at (legacy_bytes frame ++ rest) ≡ Ok (Some (legacy frame), rest)
legacy_again frame rest fits =
    let n = length (legacy_layout frame) in
    let header = little_bytes 4 n in
    let after = legacy_layout frame ++ rest in
    let size : little_number 4 header ≡ n = little_number-reads_back 4 n [] (omega (arith, fits.short)) in
    let more : is_end header ≡ false =
    not_end header refl (λ is_zero. absurd (omega (arith, size, is_zero, legacy_long frame))) in
    ap next_at (append_assoc header (legacy_layout frame) rest)
    ∙ (after_header header after refl more
    ∙ (by_length header after n fits.no_packet size ∙ ap (as_stored legacy) (legacy_part_again frame rest fits)))
