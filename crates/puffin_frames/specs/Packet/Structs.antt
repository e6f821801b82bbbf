-- The layouts of the structs in packets, and how they are read. Fields are in the order of their bytes.
use Rattle.std.specs.Prelude.{◌≡◌, ℕ, ℤ, Bool, true, ◌&&◌, List, [], ◌++◌, Option, Some, nat_lt}
use Rattle.std.specs.List.{list_any}
use Rattle.std.specs.FinMap.{is_sorted}
use Rattle.puffin_data.specs.declared.data.form.Form.{Form}
use Rattle.puffin_data.specs.declared.data.form.Form.TheVariants.{Short, Long}
use Rattle.puffin_data.specs.Text.Flags.{is_long, form_of_flag}
use Rattle.puffin_data.specs.Honesty.{StreamFacts}
use Rattle.puffin_data.specs.Value.Layout.{number, signed, optional, flag, block, pair, items, IsU32, IsLong, IsSigned, IsBlock, IsText, IfAny, AreItems}
use Rattle.puffin_data.specs.Value.Decoding.{with_test, seen_as, number_at, u32_at, signed_at, flag_at, bytes_at, text_at, optional_at, pair_at, items_at}
use Rattle.puffin_frames.specs.declared.frame_data.meta.FrameMeta.{FrameMeta}
use Rattle.puffin_threads.specs.Thread.ThreadKey.{ThreadKey, key_cmp}
use Rattle.puffin_threads.specs.Details.{Details}

-- Of each struct: its bytes are `.._layout`. It has a layout if its numbers fit and its texts are UTF-8, as `Is..` and `Are..` say.
-- `.._at` reads it at the front of bytes, and gives it with the bytes after it, or nothing. `made_..` makes it from its fields.

-- ---- meta

-- the bytes of a meta
abbrev pub meta_layout : FrameMeta → List ℕ
meta_layout meta =
    number meta.frame_index
    ++ (signed meta.range_ns.0
    ++ (signed meta.range_ns.1 ++ (number meta.num_bytes ++ number meta.num_scopes)))

-- a meta that has a layout
abbrev pub IsMeta : FrameMeta → Type 0
IsMeta meta =
    IsLong meta.frame_index
    × (IsSigned meta.range_ns.0
    × (IsSigned meta.range_ns.1 × (IsLong meta.num_bytes × IsLong meta.num_scopes)))

-- a meta from its fields
abbrev pub made_meta : ℕ × (ℤ × (ℤ × (ℕ × ℕ))) → FrameMeta
made_meta fields = record {
  frame_index = fields.0;
  range_ns = (fields.1.0, fields.1.1.0);
  num_bytes = fields.1.1.1.0;
  num_scopes = fields.1.1.1.1;
}

-- a meta at the front of bytes, and the bytes after it
unfoldable pub meta_at : List ℕ → Option (FrameMeta × List ℕ)
meta_at =
    seen_as made_meta (
    pair_at number_at (pair_at signed_at (pair_at signed_at (pair_at number_at number_at))))

-- ---- a thread's info

-- the bytes of a thread's info
abbrev pub key_layout : ThreadKey → List ℕ
key_layout thread = optional signed thread.start ++ block thread.name

-- a thread whose info has a layout
abbrev pub IsThreadKey : ThreadKey → Type 0
IsThreadKey thread = IfAny IsSigned thread.start × IsText thread.name

-- a thread's info from its fields
abbrev pub made_key : Option ℤ × List ℕ → ThreadKey
made_key fields = record { start = fields.0; name = fields.1 }

-- a thread's info at the front of bytes, and the bytes after it
unfoldable pub key_at : List ℕ → Option (ThreadKey × List ℕ)
key_at = seen_as made_key (pair_at (optional_at signed_at) text_at)

-- ---- a stream's form: one byte in packets of the long form, nothing in those of the short form, where all streams are short

-- the form of a stream in a packet whose form comes first
abbrev pub form_layout : Form → Form → List ℕ
form_layout Short form = []
form_layout Long form = flag (is_long form)

-- a stream of this form may be in a packet of that form
abbrev pub IsFormIn : Form → Form → Type 0
IsFormIn Short form = form ≡ Short
IsFormIn Long form = Unit {0}

-- a stream's form at the front of bytes, and the bytes after it
abbrev pub form_in_at : Form → List ℕ → Option (Form × List ℕ)
form_in_at Short bytes = Some (Short, bytes)
form_in_at Long bytes = seen_as form_of_flag flag_at bytes

-- ---- the info of a thread's scopes, in packets of the form `packed`

-- the bytes of an info
abbrev pub facts_layout : Form → StreamFacts → List ℕ
facts_layout packed info =
    form_layout packed info.form
    ++ (block info.bytes
    ++ (number info.num_scopes
    ++ (number info.depth ++ (signed info.range_ns.0 ++ signed info.range_ns.1))))

-- the counts and the bytes of an info have a layout
abbrev pub AreCounts : StreamFacts → Type 0
AreCounts info =
    IsBlock info.bytes
    × (IsLong info.num_scopes
    × (IsLong info.depth × (IsSigned info.range_ns.0 × IsSigned info.range_ns.1)))

-- all of an info has a layout
abbrev pub AreStreamFacts : Form → StreamFacts → Type 0
AreStreamFacts packed info = IsFormIn packed info.form × AreCounts info

-- an info from its fields
abbrev pub made_facts : Form × (List ℕ × (ℕ × (ℕ × (ℤ × ℤ)))) → StreamFacts
made_facts fields = record {
  form = fields.0;
  bytes = fields.1.0;
  num_scopes = fields.1.1.0;
  depth = fields.1.1.1.0;
  range_ns = fields.1.1.1.1;
}

-- an info at the front of bytes, and the bytes after it
unfoldable pub facts_at : Form → List ℕ → Option (StreamFacts × List ℕ)
facts_at packed =
    seen_as made_facts (
    pair_at (form_in_at packed) (
    pair_at bytes_at (pair_at number_at (pair_at number_at (pair_at signed_at signed_at)))))

-- ---- the streams of a frame: a map, as the list of its pairs in ascending order of key

-- whether some stream is long
abbrev pub some_long : List (ThreadKey × StreamFacts) → Bool
some_long pairs = list_any (λ (entry : ThreadKey × StreamFacts). is_long entry.1.form) pairs

-- the form of packets that store all of these streams
abbrev pub form_of_all : List (ThreadKey × StreamFacts) → Form
form_of_all pairs = form_of_flag (some_long pairs)

-- sorted, and in packets of the long form at least one is long
abbrev pub are_ordered : Form → List (ThreadKey × StreamFacts) → Bool
are_ordered Short pairs = is_sorted key_cmp pairs
are_ordered Long pairs = is_sorted key_cmp pairs && some_long pairs

-- the bytes of streams
abbrev pub streams_layout : Form → List (ThreadKey × StreamFacts) → List ℕ
streams_layout packed = items (pair key_layout (facts_layout packed))

-- streams that have a layout in packets of this form
abbrev pub AreStreams : Form → List (ThreadKey × StreamFacts) → Type 0
AreStreams packed pairs =
    AreItems (λ (entry : ThreadKey × StreamFacts). IsThreadKey entry.0 × AreStreamFacts packed entry.1)
    pairs
    × (are_ordered packed pairs ≡ true)

-- one stream, with its thread
abbrev pub stream_at : Form → List ℕ → Option ((ThreadKey × StreamFacts) × List ℕ)
stream_at packed = pair_at key_at (facts_at packed)

-- streams at the front of bytes, and the bytes after them
unfoldable pub streams_at : Form → List ℕ → Option (List (ThreadKey × StreamFacts) × List ℕ)
streams_at packed = with_test (are_ordered packed) (items_at (stream_at packed))

-- ---- scope details

-- an id: a number from 1 on that fits 32 bits
abbrev pub IsId : ℕ → Type 0
IsId id = IsU32 id × (nat_lt 0 id ≡ true)

-- an id at the front of bytes, and the bytes after it
abbrev pub id_at : List ℕ → Option (ℕ × List ℕ)
id_at = with_test (λ id. nat_lt 0 id) u32_at

-- the bytes of one scope's details
abbrev pub detail_layout : Details → List ℕ
detail_layout details =
    optional number details.id
    ++ (optional block details.scope_name
    ++ (block details.function_name ++ (block details.file_path ++ number details.line_nr)))

-- details that have a layout
abbrev pub IsDetail : Details → Type 0
IsDetail details =
    IfAny IsId details.id
    × (IfAny IsText details.scope_name
    × (IsText details.function_name × (IsText details.file_path × IsU32 details.line_nr)))

-- one scope's details from its fields
abbrev pub made_detail : Option ℕ × (Option (List ℕ) × (List ℕ × (List ℕ × ℕ))) → Details
made_detail fields = record {
  id = fields.0;
  scope_name = fields.1.0;
  function_name = fields.1.1.0;
  file_path = fields.1.1.1.0;
  line_nr = fields.1.1.1.1;
}

-- one scope's details at the front of bytes, and the bytes after it
unfoldable pub detail_at : List ℕ → Option (Details × List ℕ)
detail_at =
    seen_as made_detail (
    pair_at (optional_at id_at) (
    pair_at (optional_at text_at) (pair_at text_at (pair_at text_at u32_at))))

-- the bytes of a list of details
abbrev pub details_layout : List Details → List ℕ
details_layout = items detail_layout

-- a list of details that has a layout
abbrev pub AreDetails : List Details → Type 0
AreDetails = AreItems IsDetail

-- a list of details at the front of bytes, and the bytes after it
unfoldable pub details_at : List ℕ → Option (List Details × List ℕ)
details_at = items_at detail_at

-- ---- a legacy frame

-- what a legacy frame stores: meta and streams in one part, where all streams are short
pub record Legacy : Type 0 where
  pub meta : FrameMeta
  pub streams : List (ThreadKey × StreamFacts)

-- the bytes of a legacy frame
abbrev pub legacy_layout : Legacy → List ℕ
legacy_layout frame =
    number frame.meta.frame_index
    ++ (streams_layout Short frame.streams
    ++ (signed frame.meta.range_ns.0
    ++ (signed frame.meta.range_ns.1
    ++ (number frame.meta.num_bytes ++ number frame.meta.num_scopes))))

-- a legacy frame that has a layout
abbrev pub IsLegacy : Legacy → Type 0
IsLegacy frame =
    IsLong frame.meta.frame_index
    × (AreStreams Short frame.streams
    × (IsSigned frame.meta.range_ns.0
    × (IsSigned frame.meta.range_ns.1
    × (IsLong frame.meta.num_bytes × IsLong frame.meta.num_scopes))))

-- a legacy frame from its fields
abbrev pub made_legacy : ℕ × (List (ThreadKey × StreamFacts) × (ℤ × (ℤ × (ℕ × ℕ)))) → Legacy
made_legacy fields = record {
  meta = record {
    frame_index = fields.0;
    range_ns = (fields.1.1.0, fields.1.1.1.0);
    num_bytes = fields.1.1.1.1.0;
    num_scopes = fields.1.1.1.1.1;
  };
  streams = fields.1.0;
}

-- a legacy frame at the front of bytes, and the bytes after it
unfoldable pub legacy_at : List ℕ → Option (Legacy × List ℕ)
legacy_at =
    seen_as made_legacy (
    pair_at number_at (
    pair_at (streams_at Short) (
    pair_at signed_at (pair_at signed_at (pair_at number_at number_at)))))
