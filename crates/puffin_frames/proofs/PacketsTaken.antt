-- What follows a packet's letters, in each version that is read: its parts are read from their layouts, and from no other bytes.
use Rattle.std.proofs.Common.{◌≡◌, ℕ, ◌^◌, ◌<◌, Bool, true, cond, List, [], ◌∷◌, ◌++◌, length, Result, Ok, refl, sym, ap, subst, ◌∙◌, append_assoc, arith}
use Rattle.std.proofs.lemmas.List.{length-append}
use Rattle.byteorder.specs.Endian.{little_bytes}
use Rattle.puffin_data.specs.declared.data.form.Form.{Form}
use Rattle.puffin_data.specs.declared.data.form.Form.TheVariants.{Short}
use Rattle.puffin_data.specs.declared.file_error.FileError.{FileError}
use Rattle.puffin_data.specs.Value.Layout.{IsBytes, number}
use Rattle.puffin_data.specs.Part.{◌>>=◌, part_of, part_length_at}
use Rattle.puffin_data.proofs.lemmas.Readers.{IsBytes-after}
use Rattle.puffin_threads.specs.Details.{Details}
use Rattle.puffin_frames.specs.declared.frame_data.kind.Kind.{Kind}
use Rattle.puffin_frames.specs.declared.frame_data.kind.Kind.TheVariants.{Zstd}
use Rattle.puffin_frames.specs.declared.frame_data.version.Version.{Version}
use Rattle.puffin_frames.specs.declared.frame_data.version.Version.TheVariants.{Pfd2, Pfd3}
use Rattle.puffin_frames.specs.Packet.Structs.{IsMeta, meta_layout, AreDetails, details_layout}
use Rattle.puffin_frames.specs.Packet.Stored.{PacketFields}
use Rattle.puffin_frames.specs.Packet.Kinds.{to_byte}
use Rattle.puffin_frames.specs.Packet.Letters.{has_kind, has_details, text_form}
use Rattle.puffin_frames.specs.Packet.Parts.{meta_part_at, given_kind_at, kind_at, streams_part_at, given_details_at, details_part_at}
use Rattle.puffin_frames.specs.Packet.Versions.{packet_at}
use Rattle.puffin_frames.specs.Packet.Grammar.{counted_part, IsPacked}
use Rattle.puffin_frames.proofs.Writing.{number_short}
use Rattle.puffin_frames.proofs.PartsTaken.{bind_ok, same_ok, part_taken, length_taken, meta_taken, kind_taken, details_taken}
use Rattle.puffin_frames.proofs.lemmas.Packets.{IsWritten}
use Rattle.puffin_data.specs.Range.{is_valid_range_at}
use Rattle.puffin_frames.specs.declared.frame_data.meta.FrameMeta.{FrameMeta}

-- ---- streams

abbrev then_part : ℕ → Kind → List ℕ → Result ((Kind × List ℕ) × List ℕ) FileError
then_part size kind bytes = part_of size bytes >>= λ part. Ok ((kind, part.0), part.1)

abbrev then_kind : Version → ℕ → List ℕ → Result ((Kind × List ℕ) × List ℕ) FileError
then_kind version size bytes = kind_at version bytes >>= λ kind. then_part size kind.0 kind.1

-- the streams of a packet that stores their kind
record StreamsTaken (bytes : List ℕ) (kind : Kind) (streams rest : List ℕ) : Type 0 where
  short : length streams < 2 ^ 32
  text : bytes ≡ little_bytes 4 (length streams) ++ (to_byte kind ∷ (streams ++ rest))

only : {A : Type 0} (b : Bool) (x y z : A) → b ≡ true → cond b x y ≡ z → x ≡ z
only b x y z holds same = rw holds at same

streams_taken : (version : Version) (bytes : List ℕ) (kind : Kind) (streams rest : List ℕ) →
    has_kind version ≡ true → IsBytes bytes → streams_part_at version bytes ≡ Ok ((kind, streams), rest) →
    StreamsTaken bytes kind streams rest
streams_taken version bytes kind streams rest stored are_bytes read =
    let ((size, after_size), read_size, later) =
    bind_ok (part_length_at bytes) (λ size. then_kind version size.0 size.1) ((kind, streams), rest) read in
    let ((found, after_kind), read_kind, last) =
    bind_ok (kind_at version after_size) (λ kind. then_part size kind.0 kind.1) ((kind, streams), rest) later in
    let ((part, after), read_part, answer) =
    bind_ok (part_of size after_kind) (λ part. Ok ((found, part.0), part.1)) ((kind, streams), rest) last in
    let (fits, size_text) = length_taken bytes size after_size are_bytes read_size in
    let kind_text =
    kind_taken after_size found after_kind
    (only (has_kind version) (given_kind_at after_size) (Ok (Zstd, after_size)) (Ok (found, after_kind)) stored read_kind) in
    let (same, part_text) = part_taken size after_kind part after read_part in
    let made : ((Kind × List ℕ) × List ℕ) = ((found, part), after) in
    let text : bytes ≡ little_bytes 4 size ++ (to_byte found ∷ (part ++ after)) =
    size_text
    ∙ ap (λ (bytes : List ℕ). little_bytes 4 size ++ bytes)
    (kind_text ∙ ap (λ (bytes : List ℕ). to_byte found ∷ bytes) part_text) in
    let taken : StreamsTaken bytes found part after = record { short = rw same fits; text = rw same text } in
    subst (λ (got : (Kind × List ℕ) × List ℕ). StreamsTaken bytes got.0.0 got.0.1 got.1)
    (same_ok made ((kind, streams), rest) answer) taken

-- the streams of a packet that doesn't
record PlainTaken (bytes : List ℕ) (kind : Kind) (streams rest : List ℕ) : Type 0 where
  zstd : kind ≡ Zstd
  short : length streams < 2 ^ 32
  text : bytes ≡ little_bytes 4 (length streams) ++ (streams ++ rest)

plain_taken : (bytes : List ℕ) (kind : Kind) (streams rest : List ℕ) →
    IsBytes bytes → streams_part_at Pfd2 bytes ≡ Ok ((kind, streams), rest) →
    PlainTaken bytes kind streams rest
plain_taken bytes kind streams rest are_bytes read =
    let ((size, after_size), read_size, later) =
    bind_ok (part_length_at bytes) (λ size. then_part size.0 Zstd size.1) ((kind, streams), rest) read in
    let ((part, after), read_part, answer) =
    bind_ok (part_of size after_size) (λ part. Ok ((Zstd, part.0), part.1)) ((kind, streams), rest) later in
    let (fits, size_text) = length_taken bytes size after_size are_bytes read_size in
    let (same, part_text) = part_taken size after_size part after read_part in
    let made : ((Kind × List ℕ) × List ℕ) = ((Zstd, part), after) in
    let text : bytes ≡ little_bytes 4 size ++ (part ++ after) =
    size_text ∙ ap (λ (bytes : List ℕ). little_bytes 4 size ++ bytes) part_text in
    let taken : PlainTaken bytes Zstd part after =
    record { zstd = refl; short = rw same fits; text = rw same text } in
    subst (λ (got : (Kind × List ℕ) × List ℕ). PlainTaken bytes got.0.0 got.0.1 got.1)
    (same_ok made ((kind, streams), rest) answer) taken

-- ---- what follows the letters

abbrev made : Version → FrameMeta → Kind × List ℕ → List Details → PacketFields
made version meta streams details = record {
  meta = meta;
  form = text_form version;
  kind = streams.0;
  streams = streams.1;
  details = details;
}

abbrev then_details : Version → FrameMeta → Kind × List ℕ → List ℕ → Result (PacketFields × List ℕ) FileError
then_details version meta streams bytes =
    details_part_at version bytes >>= λ details. Ok (made version meta streams details.0, details.1)

abbrev then_streams : Version → FrameMeta → List ℕ → Result (PacketFields × List ℕ) FileError
then_streams version meta bytes =
    streams_part_at version bytes >>= λ streams. then_details version meta streams.0 streams.1

-- the three parts of a packet were read one after the other
record Steps (version : Version) (bytes : List ℕ) (fields : PacketFields) (rest : List ℕ) : Type 0 where
  after_meta : List ℕ
  after_streams : List ℕ
  meta : meta_part_at bytes ≡ Ok (fields.meta, after_meta)
  streams : streams_part_at version after_meta ≡ Ok ((fields.kind, fields.streams), after_streams)
  details : details_part_at version after_streams ≡ Ok (fields.details, rest)
  form : fields.form ≡ text_form version

steps : (version : Version) (bytes : List ℕ) (fields : PacketFields) (rest : List ℕ) →
    packet_at version bytes ≡ Ok (fields, rest) →
    Steps version bytes fields rest
steps version bytes fields rest read =
    let ((meta, after_meta), read_meta, later) =
    bind_ok (meta_part_at bytes) (λ meta. then_streams version meta.0 meta.1) (fields, rest) read in
    let ((streams, after_streams), read_streams, last) =
    bind_ok (streams_part_at version after_meta) (λ streams. then_details version meta streams.0 streams.1)
    (fields, rest) later in
    let ((details, after), read_details, answer) =
    bind_ok (details_part_at version after_streams) (λ details. Ok (made version meta streams details.0, details.1))
    (fields, rest) last in
    let found : (PacketFields × List ℕ) = (made version meta streams details, after) in
    subst (λ (got : PacketFields × List ℕ). Steps version bytes got.0 got.1) (same_ok found (fields, rest) answer)
    (record {
      after_meta = after_meta;
      after_streams = after_streams;
      meta = read_meta;
      streams = read_streams;
      details = read_details;
      form = refl;
    })

-- a packet as it is written, behind its letters
pub record FullTaken (form : Form) (bytes : List ℕ) (fields : PacketFields) (rest : List ℕ) : Type 0 where
  pub is_packed : IsPacked fields
  pub form_is : fields.form ≡ form
  pub text : bytes
      ≡ counted_part (meta_layout fields.meta)
      ++ (little_bytes 4 (length fields.streams)
      ++ (to_byte fields.kind ∷ (fields.streams ++ (counted_part (details_layout fields.details) ++ rest))))

pub full_taken : (form : Form) (version : Version) →
    IsWritten form version →
    (bytes : List ℕ) (fields : PacketFields) (rest : List ℕ) →
    IsBytes bytes → packet_at version bytes ≡ Ok (fields, rest) →
    FullTaken form bytes fields rest
full_taken form version says bytes fields rest are_bytes read =
    let by = steps version bytes fields rest read in
    let meta = meta_taken bytes fields.meta by.after_meta are_bytes by.meta in
    let meta_bytes = counted_part (meta_layout fields.meta) in
    let after_meta : IsBytes by.after_meta = IsBytes-after bytes meta_bytes by.after_meta meta.text are_bytes in
    let streams =
    streams_taken version by.after_meta fields.kind fields.streams by.after_streams says.kind after_meta by.streams in
    let size = little_bytes 4 (length fields.streams) in
    let kind : List ℕ = to_byte fields.kind ∷ [] in
    let from_streams : IsBytes (fields.streams ++ by.after_streams) =
    IsBytes-after by.after_meta (size ++ kind) (fields.streams ++ by.after_streams)
    (streams.text ∙ sym (append_assoc size kind (fields.streams ++ by.after_streams))) after_meta in
    let after_streams : IsBytes by.after_streams =
    IsBytes-after (fields.streams ++ by.after_streams) fields.streams by.after_streams refl from_streams in
    let details =
    details_taken by.after_streams fields.details rest after_streams
    (only (has_details version) (given_details_at by.after_streams) (Ok ([], by.after_streams))
    (Ok (fields.details, rest)) says.details by.details) in
    record {
      form_is = by.form ∙ says.texts;
      is_packed = record {
        meta = meta.fits;
        range = meta.range;
        short = streams.short;
        details = details.fits;
        details_short = details.short;
      };
      text =
          meta.text
          ∙ ap (λ (bytes : List ℕ). meta_bytes ++ bytes)
          (streams.text
          ∙ ap (λ (bytes : List ℕ). size ++ (to_byte fields.kind ∷ (fields.streams ++ bytes))) details.text);
    }

none_short : length (details_layout []) < 2 ^ 32
none_short = omega (arith, number_short 0, length-append (number 0) [])

-- an older packet has no details, and nothing is read for them
none_taken : (details none : List Details) (bytes rest : List ℕ) →
    ◌≡◌ {A = Result (List Details × List ℕ) FileError} (Ok (none, bytes)) (Ok (details, rest)) →
    (none ≡ details) × (bytes ≡ rest)
none_taken details none bytes rest read =
    let same = same_ok (none, bytes) (details, rest) read in
    (ap (λ (got : List Details × List ℕ). got.0) same, ap (λ (got : List Details × List ℕ). got.1) same)

-- what an older packet stores can be packed, since no details are short
without_any : (fields : PacketFields) →
    [] ≡ fields.details → IsMeta fields.meta → is_valid_range_at fields.meta.range_ns.0 fields.meta.range_ns.1 ≡ true →
    length fields.streams < 2 ^ 32 →
    IsPacked fields
without_any fields none fits range short = record {
  meta = fits;
  range = range;
  short = short;
  details = subst (λ (details : List Details). AreDetails details) none (omega arith, tt);
  details_short = subst (λ (details : List Details). length (details_layout details) < 2 ^ 32) none none_short;
}

-- a packet without details
pub record WithoutDetails (bytes : List ℕ) (fields : PacketFields) (rest : List ℕ) : Type 0 where
  pub is_packed : IsPacked fields
  pub form_is : fields.form ≡ Short
  pub none : fields.details ≡ []
  pub text : bytes
      ≡ counted_part (meta_layout fields.meta)
      ++ (little_bytes 4 (length fields.streams) ++ (to_byte fields.kind ∷ (fields.streams ++ rest)))

pub without_details_taken : (bytes : List ℕ) (fields : PacketFields) (rest : List ℕ) →
    IsBytes bytes → packet_at Pfd3 bytes ≡ Ok (fields, rest) →
    WithoutDetails bytes fields rest
without_details_taken bytes fields rest are_bytes read =
    let by = steps Pfd3 bytes fields rest read in
    let meta = meta_taken bytes fields.meta by.after_meta are_bytes by.meta in
    let meta_bytes = counted_part (meta_layout fields.meta) in
    let after_meta : IsBytes by.after_meta = IsBytes-after bytes meta_bytes by.after_meta meta.text are_bytes in
    let streams =
    streams_taken Pfd3 by.after_meta fields.kind fields.streams by.after_streams refl after_meta by.streams in
    let (none, at_rest) = none_taken fields.details [] by.after_streams rest by.details in
    record {
      form_is = by.form;
      is_packed = without_any fields none meta.fits meta.range streams.short;
      none = sym none;
      text =
          meta.text
          ∙ ap (λ (bytes : List ℕ). meta_bytes ++ bytes)
          (subst (λ (after : List ℕ). by.after_meta
          ≡ little_bytes 4 (length fields.streams) ++ (to_byte fields.kind ∷ (fields.streams ++ after))) at_rest
          streams.text);
    }

-- a packet without details and without a kind
pub record WithoutKind (bytes : List ℕ) (fields : PacketFields) (rest : List ℕ) : Type 0 where
  pub is_packed : IsPacked fields
  pub form_is : fields.form ≡ Short
  pub zstd : fields.kind ≡ Zstd
  pub none : fields.details ≡ []
  pub text : bytes
      ≡ counted_part (meta_layout fields.meta) ++ (little_bytes 4 (length fields.streams) ++ (fields.streams ++ rest))

pub without_kind_taken : (bytes : List ℕ) (fields : PacketFields) (rest : List ℕ) →
    IsBytes bytes → packet_at Pfd2 bytes ≡ Ok (fields, rest) →
    WithoutKind bytes fields rest
without_kind_taken bytes fields rest are_bytes read =
    let by = steps Pfd2 bytes fields rest read in
    let meta = meta_taken bytes fields.meta by.after_meta are_bytes by.meta in
    let meta_bytes = counted_part (meta_layout fields.meta) in
    let after_meta : IsBytes by.after_meta = IsBytes-after bytes meta_bytes by.after_meta meta.text are_bytes in
    let streams = plain_taken by.after_meta fields.kind fields.streams by.after_streams after_meta by.streams in
    let (none, at_rest) = none_taken fields.details [] by.after_streams rest by.details in
    record {
      form_is = by.form;
      is_packed = without_any fields none meta.fits meta.range streams.short;
      zstd = streams.zstd;
      none = sym none;
      text =
          meta.text
          ∙ ap (λ (bytes : List ℕ). meta_bytes ++ bytes)
          (subst (λ (after : List ℕ). by.after_meta
          ≡ little_bytes 4 (length fields.streams) ++ (fields.streams ++ after)) at_rest streams.text);
    }
