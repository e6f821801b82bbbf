-- The threads of a file, and what its frames have of each.
use Rattle.std.specs.Prelude.{◌≡◌, ◌≢◌, ◌⊎◌, ℕ, ◌+◌, List, [], ◌∷◌, ◌++◌, length, fold, Option, Some, Result, Ok, Err, is_some, unwrap_or}
use Rattle.std.specs.List.{flat_map}
use Rattle.std.specs.FinMap as map
use Rattle.puffin_data.specs.declared.error.Error.TheVariants as error
use Rattle.puffin_data.specs.declared.file_error.FileError.{FileError}
use Rattle.puffin_data.specs.declared.file_error.FileError.TheVariants as file
use Rattle.puffin_data.specs.Honesty.{StreamFacts}
use Rattle.puffin_threads.specs.Thread.ThreadKey.{ThreadKey, key_cmp}
use Rattle.puffin_frames.specs.Frame.Streams.{Streams}
use Rattle.puffin_frames.specs.Frame.Contents.{streams_in_fields}
use Rattle.puffin_frames.specs.Packet.Stored.{Stored}
use Rattle.puffin_view.specs.View.ViewedFrames.{fields_of}
use Rattle.puffin_view.specs.View.File.{file_at, frame_stored, TookFrames, FailsToRead}
use Rattle.puffin_view.specs.View.FrameFile.{HasGiven}
use Rattle.puffin_view.specs.View.Stats.{cut}
use Rattle.puffin_c.specs.declared.fault.Fault.{Fault}
use Rattle.puffin_c.specs.declared.fault.Fault.TheVariants as fault
use Rattle.puffin_c.specs.declared.threads.PuffinFileThread.{PuffinFileThread}
use Rattle.puffin_c.specs.declared.threads.PuffinFileThreadList.{PuffinFileThreadList}
use Rattle.puffin_c.specs.declared.threads.ThreadTotals.{ThreadTotals}
use Rattle.puffin_c.specs.Faults.{file_fault}
use Rattle.puffin_c.specs.Lists.{GetsList, start_given}

abbrev pub no_totals : ThreadTotals
no_totals = record { frames = 0; scopes = 0 }

-- with the thread's stream of one more frame
abbrev pub totals_with : ThreadTotals → StreamFacts → ThreadTotals
totals_with totals facts =
    record { frames = cut (totals.frames + 1); scopes = cut (totals.scopes + facts.num_scopes) }

-- the totals of each thread
abbrev pub Totals : Type 0
Totals = map.FinMap key_cmp ThreadTotals

abbrev pub with_stream : Totals → ThreadKey × StreamFacts → Totals
with_stream totals entry =
    map.insert totals entry.0 (totals_with (unwrap_or (map.get totals entry.0) no_totals) entry.1)

abbrev pub with_frame : Totals → Streams → Totals
with_frame totals streams = fold with_stream totals (map.entries streams)

abbrev pub totals_of : List Streams → Totals
totals_of frames = fold with_frame map.empty frames

-- the streams of a frame that was read, or why they can't be unpacked
abbrev pub opened : Stored → Result Streams FileError
opened stored = streams_in_fields (fields_of (frame_stored stored))

-- frames that were read, each unpacked
abbrev pub AreOpened : List Stored → List Streams → Type 0
AreOpened [] [] = Unit {0}
AreOpened [] (frame ∷ frames) = ⊥
AreOpened (first ∷ rest) [] = ⊥
AreOpened (first ∷ rest) (frame ∷ frames) = (opened first ≡ Ok frame) × AreOpened rest frames

-- these are the totals of a file
abbrev pub HasTotals : List ℕ → Totals → Type 0
HasTotals bytes totals =
    (left : Option (List ℕ))
    × (stored : List Stored)
    × (frames : List Streams)
    × TookFrames file_at (Some bytes) left stored
    × AreOpened stored frames
    × (totals ≡ totals_of frames)

-- a frame after those that could be unpacked can't be, for this reason
abbrev pub HasPackedFrame : List ℕ → FileError → Type 0
HasPackedFrame bytes file_error =
    (left : Option (List ℕ))
    × (stored : List Stored)
    × (frames : List Streams)
    × (next : Stored)
    × HasGiven (Some bytes) left (stored ++ next ∷ [])
    × AreOpened stored frames
    × (opened next ≡ Err file_error)

-- why a file has no totals: the first fault in it, or a lack of memory
abbrev pub LacksTotals : List ℕ → Fault → Type 0
LacksTotals bytes cause =
    (cause ≡ fault.Refused error.Memory)
    ⊎ ((file_error : FileError) × (cause ≡ file_fault file_error) × HasPackedFrame bytes file_error)
    ⊎ ((left : Option (List ℕ))
    × (file_error : FileError)
    × (cause ≡ file_fault file_error)
    × (file_error ≢ file.Io)
    × FailsToRead file_at (Some bytes) left file_error)

-- ---- what a program gets

-- a thread whose name begins at this offset
abbrev pub thread_row : ℕ → ThreadKey × ThreadTotals → PuffinFileThread
thread_row at entry = record {
  start_ns = start_given entry.0.start;
  frames = entry.1.frames;
  scopes = entry.1.scopes;
  name_at = at;
  name_size = length entry.0.name;
  has_start = is_some entry.0.start;
}

abbrev pub thread_rows : ℕ → List (ThreadKey × ThreadTotals) → List PuffinFileThread
thread_rows at [] = []
thread_rows at (entry ∷ rest) = thread_row at entry ∷ thread_rows (at + length entry.0.name) rest

abbrev pub thread_names : List (ThreadKey × ThreadTotals) → List ℕ
thread_names entries = flat_map (λ e. e.0.name) entries

-- The program gets the threads of a file, ordered by start and name; or the call is refused, and nothing is changed.
abbrev pub ListsThreads : List ℕ → PuffinFileThreadList → PuffinFileThreadList →
    Result (Unit {0}) Fault → Type 0
ListsThreads file old new (Ok _) =
    (totals : Totals)
    × HasTotals file totals
    × GetsList (thread_rows 0 (map.entries totals)) (thread_names (map.entries totals)) old.rows
    new.rows old.bytes new.bytes new.num_rows new.num_bytes
ListsThreads file old new (Err cause) = (new ≡ old) × LacksTotals file cause
