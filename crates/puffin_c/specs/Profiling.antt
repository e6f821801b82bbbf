-- How the calls on a profiler's handle change what it holds.
use Rattle.std.specs.Prelude.{◌≡◌, ◌⊎◌, ◌<◌, ℕ, List, [], Bool, true, false, Option, Some, None, Result, Ok, Err, is_some, length, drop, min}
use Rattle.std.specs.List.{Any}
use Rattle.std.specs.Str.{IsUtf8}
use Rattle.std.specs.Arc.{arc_value}
use Rattle.std.specs.Option.{option_map, option_map_or}
use Rattle.std.specs.FinMap.{values}
use Rattle.puffin_data.specs.declared.error.Error.{Error}
use Rattle.puffin_data.specs.declared.error.Error.TheVariants as error
use Rattle.puffin_data.specs.declared.file_error.FileError.TheVariants as file
use Rattle.puffin_data.specs.declared.data.form.Form.{Form}
use Rattle.puffin_data.specs.Forest.{Forest}
use Rattle.puffin_data.specs.Honesty.{StreamFacts, AreHonestFacts}
use Rattle.puffin_data.specs.Walk.{IsFault}
use Rattle.puffin_threads.specs.Thread.ThreadKey.{ThreadKey}
use Rattle.puffin_threads.specs.Thread.Calls.{Thread}
use Rattle.puffin_threads.specs.Thread.Closing.{Reports}
use Rattle.puffin_frames.specs.declared.frame_data.frame.FrameData.{FrameData}
use Rattle.puffin_frames.specs.declared.frame_data.meta.FrameMeta.{FrameMeta}
use Rattle.puffin_frames.specs.Frame.Contents.{frame_meta}
use Rattle.puffin_frames.specs.Frame.Sums.{total_scopes}
use Rattle.puffin_frames.specs.Packet.Grammar.{packet}
use Rattle.puffin_frames.specs.Packet.Writing.{HasLongPart}
use Rattle.puffin_collector.specs.Collector.State.{Collected, nothing_collected, AcceptsReport, RefusesReport, IsReportRefusal, after_frame, after_no_frame}
use Rattle.puffin_collector.specs.Collector.Collecting.{HoldsAll, HaveNoScopes, KeepsPending}
use Rattle.puffin_threads.specs.Details.Collection.{no_details}
use Rattle.puffin_view.specs.View.{empty_view, without_frames, after_taking, KeepsFrames}
use Rattle.puffin_view.specs.View.Ranking.{last_in}
use Rattle.puffin_view.specs.View.ViewedFrames.{Frame, fields_of, index_of}
use Rattle.puffin_view.specs.View.FrameOf.{frame_of}
use Rattle.puffin_view.specs.View.Known.{view_of, collection_of, with_frames}
use Rattle.puffin_frames.specs.Packet.Stored.{PacketFields}
use Rattle.puffin_view.specs.View.File.{file_of, fields_in, first_with}
use Rattle.puffin_c.specs.declared.fault.Fault.{Fault}
use Rattle.puffin_c.specs.declared.fault.Fault.TheVariants as fault
use Rattle.puffin_c.specs.declared.frame.PuffinFrame.{PuffinFrame}
use Rattle.puffin_c.specs.declared.profiler.Profiler.{Profiler}
use Rattle.puffin_c.specs.declared.unread.Piece.{Piece}
use Rattle.puffin_c.specs.declared.unread.Piece.TheVariants.{File, Packet}
use Rattle.puffin_c.specs.Reporting.{laid_over}
use Rattle.puffin_c.specs.Pieces.{unread_in, pieces_with}

-- ---- a profiler

-- the frame that was collected and waits to be added to the view
abbrev pub waiting_frame : Profiler → Option FrameData
waiting_frame profiler = option_map (λ waiting. arc_value waiting.frame) profiler.waiting

-- the contents of the view's frames, the first with all details that the view knows
abbrev pub view_fields : Profiler → List PacketFields
view_fields profiler =
    first_with (Some (collection_of profiler.view)) (fields_in (view_of profiler.view))

-- the file of the view
abbrev pub view_file : Profiler → List ℕ
view_file profiler = file_of (view_fields profiler)

-- the newest frame of the view
abbrev pub newest_frame : Profiler → Option Frame
newest_frame profiler = last_in (view_of profiler.view).recent

-- the packet of the view's newest frame, or no bytes if the view has no recent frame
abbrev pub newest_packet : Profiler → List ℕ
newest_packet profiler =
    option_map_or (λ frame. packet (fields_of frame)) (newest_frame profiler) []

-- the newest frame has a part whose length can't be written
abbrev pub HasLongNewest : Profiler → Type 0
HasLongNewest profiler =
    (frame : Frame) × (newest_frame profiler ≡ Some frame) × HasLongPart (fields_of frame)

-- a new profiler: nothing was reported, the view is empty, no frame waits, and no bytes of a file are unread
pub record IsNew (profiler : Profiler) : Type 0 where
  pub collected : profiler.collector ≡ nothing_collected 0
  pub view : view_of profiler.view ≡ empty_view
  pub waiting : waiting_frame profiler ≡ None
  pub file : profiler.unread.file ≡ []
  pub packet : profiler.unread.packet ≡ []

-- There are ids, and a handle that held nothing now holds a new profiler. Or nothing is changed, and the fault is the first that
-- applies.
abbrev pub OpensProfiler : Option Profiler → Bool → Option Profiler → Result (Unit {0}) Fault →
    Type 0
OpensProfiler old has_ids new (Ok _) =
    (old ≡ None) × (has_ids ≡ true) × (profiler : Profiler) × (new ≡ Some profiler) × IsNew profiler
OpensProfiler old has_ids new (Err cause) =
    (new ≡ old)
    × (((cause ≡ fault.IsOpen) × (is_some old ≡ true))
    ⊎ ((old ≡ None)
    × (((cause ≡ fault.NotOpen) × (has_ids ≡ false))
    ⊎ ((cause ≡ fault.Refused error.Memory) × (has_ids ≡ true)))))

-- the profiler with this state of its collector
abbrev pub with_collected : Profiler → Collected → Profiler
with_collected profiler collected = record profiler { collector = collected }

-- the profiler with these unread bytes of the view's file, or of a packet
abbrev pub with_unread : Piece → Profiler → List ℕ → Profiler
with_unread piece profiler bytes =
    record profiler { unread = pieces_with piece profiler.unread bytes }

-- the profiler whose view keeps at most so many recent and slow frames
abbrev pub with_limits : Profiler → ℕ → ℕ → Profiler
with_limits profiler recent slow = record profiler {
  view = with_frames profiler.view (record (view_of profiler.view) { max_recent = recent; max_slow = slow });
}

-- the profiler whose view has no frames and knows no details, with the same settings
abbrev pub without_view : Profiler → Profiler
without_view profiler = record profiler {
  view = record { frames = without_frames (view_of profiler.view); scope_collection = no_details };
}

-- ---- reports

-- The thread handed over its waiting scopes, if any; or nothing is changed.
abbrev pub Hands : Option Thread → Option Profiler → Option Thread → Option Profiler →
    Result (Unit {0}) Fault → Type 0
Hands thread profiler thread_after profiler_after (Ok _) =
    (some : Bool)
    × (old new : Thread)
    × (held : Profiler)
    × (after : Collected)
    × (thread ≡ Some old)
    × (thread_after ≡ Some new)
    × (profiler ≡ Some held)
    × (profiler_after ≡ Some (with_collected held after))
    × Reports AcceptsReport RefusesReport old new held.collector after (Ok some)
Hands thread profiler thread_after profiler_after (Err cause) =
    (thread_after ≡ thread)
    × (profiler_after ≡ profiler)
    × (((cause ≡ fault.NotOpen) × ((thread ≡ None) ⊎ (profiler ≡ None)))
    ⊎ ((refusal : Error)
    × (cause ≡ fault.Refused refusal)
    × (old : Thread)
    × (held : Profiler)
    × (thread ≡ Some old)
    × (profiler ≡ Some held)
    × Reports AcceptsReport RefusesReport old old held.collector held.collector (Err refusal)))

-- the facts of a stream of these bytes, which spell a forest
abbrev pub IsStream : Form → List ℕ → StreamFacts → Type 0
IsStream form bytes facts =
    (facts.form ≡ form) × (facts.bytes ≡ bytes) × (forest : Forest) × AreHonestFacts facts forest

-- The scopes of a stream are appended under this key. Or nothing is changed: first the name is refused, then the bytes, and then
-- the scopes. Memory may run out at any time after the name was tested.
abbrev pub TakesOwn : Option Profiler → ThreadKey → Form → List ℕ → Option Profiler →
    Result (Unit {0}) Fault → Type 0
TakesOwn old key form bytes new (Ok _) =
    (profiler : Profiler)
    × (after : Collected)
    × (facts : StreamFacts)
    × (old ≡ Some profiler)
    × (new ≡ Some (with_collected profiler after))
    × IsUtf8 key.name
    × IsStream form bytes facts
    × AcceptsReport profiler.collector key [] facts after
TakesOwn old key form bytes new (Err cause) =
    (new ≡ old)
    × (((cause ≡ fault.NotOpen) × (old ≡ None))
    ⊎ ((profiler : Profiler)
    × (old ≡ Some profiler)
    × (((cause ≡ fault.NotText) × ¬ (IsUtf8 key.name))
    ⊎ (IsUtf8 key.name
    × (refusal : Error)
    × (cause ≡ fault.Refused refusal)
    × ((refusal ≡ error.Memory)
    ⊎ IsFault form bytes refusal
    ⊎ ((facts : StreamFacts) × IsStream form bytes facts
    × IsReportRefusal profiler.collector key [] facts refusal))))))

-- ---- frames

-- the description of a frame that the program gets
abbrev pub told_of : FrameMeta → PuffinFrame
told_of meta = record {
  index = meta.frame_index;
  scopes = meta.num_scopes;
  bytes = meta.num_bytes;
  start_ns = meta.range_ns.0;
  stop_ns = meta.range_ns.1;
  is_some = true;
}

-- The next frame of a profiler: the one that waits, or otherwise one made of everything pending.
abbrev pub IsNext : Profiler → FrameData → Collected → Type 0
IsNext old frame after =
    ((waiting_frame old ≡ Some frame) × (after ≡ old.collector))
    ⊎ ((waiting_frame old ≡ None)
    × HoldsAll old.collector frame
    × (0 < total_scopes (values old.collector.streams))
    × (after ≡ after_frame old.collector))

-- no frame waits, no scope is pending, and only the index has increased
pub record HasNone (old new : Profiler) : Type 0 where
  pub none_waited : waiting_frame old ≡ None
  pub none_waits : waiting_frame new ≡ None
  pub no_scopes : HaveNoScopes old.collector.streams
  pub index_alone : new.collector ≡ after_no_frame old.collector

-- the next frame waits, or there is none
pub record IsCollected (old new : Profiler) : Type 0 where
  pub view : new.view ≡ old.view
  pub unread : new.unread ≡ old.unread
  pub outcome : HasNone old new
      ⊎ ((frame : FrameData) × IsNext old frame new.collector × (waiting_frame new ≡ Some frame))

-- The next frame was added to the view; or there is none because no scope is pending.
abbrev pub IsTaken : Profiler → Profiler → Option FrameMeta → Type 0
IsTaken old new (Some meta) =
    (frame : FrameData)
    × IsNext old frame new.collector
    × (meta ≡ frame_meta frame)
    × (view_of new.view ≡ after_taking (view_of old.view) (frame_of frame))
    × (waiting_frame new ≡ None)
    × (new.unread ≡ old.unread)
IsTaken old new None = HasNone old new × (new.view ≡ old.view) × (new.unread ≡ old.unread)

-- everything pending is kept, and no frame waits
pub record KeepsAllPending (old new : Profiler) (refusal : Error) : Type 0 where
  pub none_waited : waiting_frame old ≡ None
  pub none_waits : waiting_frame new ≡ None
  pub pending : KeepsPending old.collector refusal new.collector
  pub view : new.view ≡ old.view

-- memory ran out after the next frame was collected, and the frame waits for the next call
pub record KeepsNext (old new : Profiler) (refusal : Error) : Type 0 where
  pub memory : refusal ≡ error.Memory
  pub frame : FrameData
  pub next : IsNext old frame new.collector
  pub waits : waiting_frame new ≡ Some frame
  pub frames : KeepsFrames (view_of old.view) (index_of (frame_of frame)) (view_of new.view)

-- The call was refused. Either everything pending is kept, or the next frame is.
abbrev pub IsLeft : Profiler → Profiler → Error → Type 0
IsLeft old new refusal =
    (new.unread ≡ old.unread) × (KeepsAllPending old new refusal ⊎ KeepsNext old new refusal)

-- what the program gets: the frame's description, or only that there is no frame
abbrev pub IsTold : Option FrameMeta → PuffinFrame → PuffinFrame → Type 0
IsTold (Some meta) before told = told ≡ told_of meta
IsTold None before told = told ≡ record before { is_some = false }

abbrev pub TakesFrame : Option Profiler → Option Profiler → PuffinFrame → PuffinFrame →
    Result (Unit {0}) Fault → Type 0
TakesFrame held left before told (Ok _) =
    (old new : Profiler)
    × (meta : Option FrameMeta)
    × (held ≡ Some old)
    × (left ≡ Some new)
    × IsTaken old new meta
    × IsTold meta before told
TakesFrame held left before told (Err cause) =
    (told ≡ before)
    × (((cause ≡ fault.NotOpen) × (held ≡ None) × (left ≡ None))
    ⊎ ((refusal : Error)
    × (cause ≡ fault.Refused refusal)
    × (old new : Profiler)
    × (held ≡ Some old)
    × (left ≡ Some new)
    × IsLeft old new refusal))

-- what an open handle holds is changed so; or the call is refused
abbrev pub Changes : (Profiler → Profiler) → Option Profiler → Option Profiler →
    Result (Unit {0}) Fault → Type 0
Changes change old new (Ok _) =
    (profiler : Profiler) × (old ≡ Some profiler) × (new ≡ Some (change profiler))
Changes change old new (Err cause) = (cause ≡ fault.NotOpen) × (old ≡ None) × (new ≡ None)

-- ---- what a program reads in pieces

-- the view's file, or the packet of its newest frame
abbrev pub bytes_of : Piece → Profiler → List ℕ
bytes_of File profiler = view_file profiler
bytes_of Packet profiler = newest_packet profiler

-- it has a part whose length can't be written
abbrev pub HasLong : Piece → Profiler → Type 0
HasLong File profiler = Any HasLongPart (view_fields profiler)
HasLong Packet profiler = HasLongNewest profiler

-- It is made, and its bytes replace any unread ones of an earlier call; or nothing is changed.
abbrev pub Makes : Piece → Option Profiler → Option Profiler → ℕ → ℕ → Result (Unit {0}) Fault →
    Type 0
Makes piece old new before size (Ok _) =
    (profiler : Profiler)
    × (old ≡ Some profiler)
    × (new ≡ Some (with_unread piece profiler (bytes_of piece profiler)))
    × (size ≡ length (bytes_of piece profiler))
Makes piece old new before size (Err cause) =
    (new ≡ old)
    × (size ≡ before)
    × (((cause ≡ fault.NotOpen) × (old ≡ None))
    ⊎ ((profiler : Profiler)
    × (old ≡ Some profiler)
    × ((cause ≡ fault.Refused error.Memory)
    ⊎ ((cause ≡ fault.File file.PartTooLong) × HasLong piece profiler))))

-- The unread bytes, as many as fit, are copied over the beginning of the caller's bytes, and then count as read.
abbrev pub Reads : Piece → Option Profiler → Option Profiler → List ℕ → List ℕ → ℕ → ℕ →
    Result (Unit {0}) Fault → Type 0
Reads piece held left old new before size (Ok _) =
    (profiler : Profiler)
    × (held ≡ Some profiler)
    × (size ≡ min (length (unread_in piece profiler.unread)) (length old))
    × (left ≡ Some (with_unread piece profiler (drop size (unread_in piece profiler.unread))))
    × (new ≡ laid_over old (unread_in piece profiler.unread))
Reads piece held left old new before size (Err cause) =
    (cause ≡ fault.NotOpen) × (held ≡ None) × (left ≡ None) × (new ≡ old) × (size ≡ before)
