-- Lists that a program gets: rows, and the bytes of their texts, one behind the other.
use Rattle.std.specs.Prelude.{◌≡◌, ◌≢◌, ◌⊎◌, ℕ, ◌+◌, ◌<◌, ◌≤◌, ℤ, pos, Bool, true, false, List, [], ◌∷◌, ◌++◌, length, drop, Option, Some, None, Result, Ok, Err, is_some}
use Rattle.std.specs.List.{flat_map}
use Rattle.std.specs.Borrow.{MutBor}
use Rattle.std.specs.FinMap as map
use Rattle.puffin_data.specs.declared.error.Error.{Error}
use Rattle.puffin_data.specs.declared.error.Error.TheVariants as error
use Rattle.puffin_data.specs.declared.file_error.FileError.{FileError}
use Rattle.puffin_data.specs.declared.file_error.FileError.TheVariants as file
use Rattle.puffin_data.specs.declared.data.form.Form.{Form}
use Rattle.puffin_data.specs.declared.data.form.Form.TheVariants.{Short, Long}
use Rattle.puffin_data.specs.Honesty.{StreamFacts}
use Rattle.puffin_data.specs.Device.{FailsAt}
use Rattle.puffin_data.specs.Forest.{Forest}
use Rattle.puffin_data.specs.Forest.Spelling.{Spells}
use Rattle.puffin_data.specs.Walk.{IsFault}
use Rattle.puffin_data.specs.Walk.PlacedScopes.{ScopeInContext, nested_in}
use Rattle.puffin_threads.specs.Thread.ThreadKey.{ThreadKey}
use Rattle.puffin_frames.specs.declared.frame_data.frame.FrameData.{FrameData}
use Rattle.puffin_frames.specs.Frame.Contents.{packet_fields, frame_meta, streams_in_fields}
use Rattle.puffin_frames.specs.Frame.Streams.{Streams}
use Rattle.puffin_view.specs.View.File.{file_at, FailsToRead}
use Rattle.puffin_view.specs.View.FrameFile.{GivesNext, HasGiven, frame_at}
use Rattle.puffin_c.specs.declared.fault.Fault.{Fault}
use Rattle.puffin_c.specs.declared.fault.Fault.TheVariants as fault
use Rattle.puffin_c.specs.declared.scopes.PuffinScope.{PuffinScope}
use Rattle.puffin_c.specs.declared.scopes.PuffinScopeList.{PuffinScopeList}
use Rattle.puffin_c.specs.declared.streams.PuffinStream.{PuffinStream}
use Rattle.puffin_c.specs.declared.streams.PuffinStreamList.{PuffinStreamList}
use Rattle.puffin_c.specs.Faults.{file_fault}
use Rattle.puffin_c.specs.Profiling.{told_of}
use Rattle.puffin_c.specs.Reporting.{laid_over}

-- ---- the scopes of a stream

-- a scope whose text begins at this offset
abbrev pub scope_row : ℕ → ScopeInContext → PuffinScope
scope_row at s = record {
  start_ns = s.span.start;
  stop_ns = s.span.stop;
  depth = length s.around;
  text_at = at;
  text_size = length s.span.text;
  id = s.span.id;
}

-- scopes whose texts begin at this offset, one behind the other
abbrev pub scope_rows : ℕ → List ScopeInContext → List PuffinScope
scope_rows at [] = []
scope_rows at (s ∷ rest) = scope_row at s ∷ scope_rows (at + length s.span.text) rest

abbrev pub scope_texts : List ScopeInContext → List ℕ
scope_texts scopes = flat_map (λ s. s.span.text) scopes

-- ---- what a program gets

-- as many of the rows and of the bytes as fit are copied over the beginning of those at the caller's places, and counted whole
pub record GetsList {X : Type 0} (rows : List X) (bytes : List ℕ) (old_rows new_rows : MutBor (List X))
    (old_bytes new_bytes : MutBor (List ℕ)) (num_rows num_bytes : ℕ) : Type 0 where
  pub given_rows : new_rows.now ≡ laid_over old_rows.now rows
  pub given_bytes : new_bytes.now ≡ laid_over old_bytes.now bytes
  pub same_rows : new_rows.ghost_name ≡ old_rows.ghost_name
  pub same_bytes : new_bytes.ghost_name ≡ old_bytes.ghost_name
  pub number : num_rows ≡ length rows
  pub size : num_bytes ≡ length bytes

-- Either the bytes spell a forest, and the program gets its scopes, each before its children; or the bytes are refused with a
-- fault, or memory ran out, and nothing is changed.
abbrev pub ListsScopes : Form → List ℕ → PuffinScopeList → PuffinScopeList →
    Result (Unit {0}) Fault → Type 0
ListsScopes form bytes old new (Ok _) =
    (forest : Forest)
    × Spells form bytes forest
    × GetsList (scope_rows 0 (nested_in [] forest)) (scope_texts (nested_in [] forest)) old.rows new.rows
    old.bytes new.bytes new.num_rows new.num_bytes
ListsScopes form bytes old new (Err cause) =
    (new ≡ old)
    × (refusal : Error)
    × (cause ≡ fault.Refused refusal)
    × ((refusal ≡ error.Memory) ⊎ IsFault form bytes refusal)

-- ---- the streams of a frame

abbrev pub start_given : Option ℤ → ℤ
start_given None = pos 0
start_given (Some start) = start

abbrev pub is_long : Form → Bool
is_long Short = false
is_long Long = true

-- a thread's scopes in a frame: its name, and then its stream, begin at this offset
abbrev pub stream_row : ℕ → ThreadKey × StreamFacts → PuffinStream
stream_row at entry = record {
  start_ns = start_given entry.0.start;
  scopes = entry.1.num_scopes;
  depth = entry.1.depth;
  name_at = at;
  name_size = length entry.0.name;
  stream_at = at + length entry.0.name;
  stream_size = length entry.1.bytes;
  has_start = is_some entry.0.start;
  long_texts = is_long entry.1.form;
}

abbrev pub stream_bytes : ThreadKey × StreamFacts → List ℕ
stream_bytes entry = entry.0.name ++ entry.1.bytes

abbrev pub stream_rows : ℕ → List (ThreadKey × StreamFacts) → List PuffinStream
stream_rows at [] = []
stream_rows at (entry ∷ rest) =
    stream_row at entry ∷ stream_rows (at + length (stream_bytes entry)) rest

abbrev pub streams_bytes : List (ThreadKey × StreamFacts) → List ℕ
streams_bytes entries = flat_map stream_bytes entries

-- the bytes from an offset of a file on; from its beginning, those after its four letters
abbrev pub IsFrom : List ℕ → ℕ → List ℕ → Type 0
IsFrom bytes offset rest =
    ((offset ≡ 0) × HasGiven (Some bytes) (Some rest) [])
    ⊎ ((0 < offset) × (offset ≤ length bytes) × (rest ≡ drop offset bytes))

-- the frame at an offset of a file, and the offset at which it ends; or the file's end is there
pub record IsFrameAt (bytes : List ℕ) (offset : ℕ) (next : ℕ) (frame : Option FrameData) : Type 0 where
  pub from : List ℕ
  pub is_from : IsFrom bytes offset from
  pub rest : List ℕ
  pub gives : GivesNext (Some from) (Some rest) (Ok frame)
  pub end : next + length rest ≡ length bytes

-- why there is no frame at an offset of a file
abbrev pub LacksFrame : List ℕ → ℕ → Fault → Type 0
LacksFrame bytes offset cause =
    ((cause ≡ fault.Refused error.InvalidOffset) × (length bytes < offset))
    ⊎ ((cause ≡ fault.File file.NoMagic)
    × (offset ≡ 0)
    × (left : Option (List ℕ))
    × FailsToRead file_at (Some bytes) left file.NoMagic)
    ⊎ ((from : List ℕ)
    × (left : Option (List ℕ))
    × (file_error : FileError)
    × IsFrom bytes offset from
    × (cause ≡ file_fault file_error)
    × (file_error ≢ file.Io)
    × FailsAt file_error (Some from) left frame_at)

-- The frame's description and its streams, by thread; or no frame, and only that is told.
abbrev pub TellsStreams : Option FrameData → PuffinStreamList → PuffinStreamList → Type 0
TellsStreams (Some frame) old new =
    (streams : Streams)
    × (streams_in_fields (packet_fields frame) ≡ Ok streams)
    × (new.frame ≡ told_of (frame_meta frame))
    × GetsList (stream_rows 0 (map.entries streams)) (streams_bytes (map.entries streams)) old.rows
    new.rows old.bytes new.bytes new.num_rows new.num_bytes
TellsStreams None old new =
    (new.frame ≡ record old.frame { is_some = false })
    × (new.rows ≡ old.rows)
    × (new.bytes ≡ old.bytes)
    × (new.num_rows ≡ 0)
    × (new.num_bytes ≡ 0)

-- a frame whose streams can't be unpacked, for this reason
abbrev pub LacksStreams : List ℕ → ℕ → Fault → Type 0
LacksStreams bytes offset cause =
    (next : ℕ)
    × (frame : FrameData)
    × (file_error : FileError)
    × IsFrameAt bytes offset next (Some frame)
    × (streams_in_fields (packet_fields frame) ≡ Err file_error)
    × (cause ≡ file_fault file_error)

-- Reads the frame at an offset of a file, and lists its streams; or is refused, and changes nothing.
abbrev pub ListsStreams : List ℕ → ℕ → PuffinStreamList → PuffinStreamList →
    Result (Unit {0}) Fault → Type 0
ListsStreams file offset old new (Ok _) =
    (frame : Option FrameData) × IsFrameAt file offset new.next frame × TellsStreams frame old new
ListsStreams file offset old new (Err cause) =
    (new ≡ old)
    × ((cause ≡ fault.Refused error.Memory) ⊎ LacksFrame file offset cause
    ⊎ LacksStreams file offset cause)
