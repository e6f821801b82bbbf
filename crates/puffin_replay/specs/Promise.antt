-- The whole promise: each emitted frame spells what was due, and the file that is read back has the kept frames.
use Rattle.std.specs.Prelude.{◌≡◌, ◌⊎◌, ℕ, ◌^◌, ◌-◌, Bool, true, false, if◌then◌else◌, List, [], ◌∷◌, ◌++◌, map, Option, Some, None}
use Rattle.std.specs.List.{AllZip, Any, filter, flat_map, list_any}
use Rattle.std.specs.FinMap.{values}
use Rattle.puffin_data.specs.declared.data.form.Form.{Form}
use Rattle.puffin_data.specs.declared.error.Error.TheVariants.{MissingId}
use Rattle.puffin_data.specs.declared.file_error.FileError.{FileError}
use Rattle.puffin_data.specs.declared.file_error.FileError.TheVariants as file
use Rattle.puffin_frames.specs.Packet.Stored.{PacketFields, packed}
use Rattle.puffin_frames.specs.Packet.Writing.{HasLongPart}
use Rattle.puffin_frames.specs.Frame.Sums.{meta_of}
use Rattle.puffin_frames.specs.Frame.Streams.{Streams}
use Rattle.puffin_frames.specs.Frame.Holding.{streams_in}
use Rattle.puffin_collector.specs.Collector.State.{delta_of}
use Rattle.puffin_threads.specs.Details.Collection.{no_details, with_all_details}
use Rattle.puffin_view.specs.declared.profile_view.frame_view.FrameView.{FrameView}
use Rattle.puffin_view.specs.View.{last_index, after_all}
use Rattle.puffin_view.specs.View.Known.{view_of, collection_of, lacks_ids}
use Rattle.puffin_view.specs.View.File.{fields_held, fields_in, frame_stored, read_view}
use Rattle.puffin_view.specs.View.Ranking.{last_of, has_number}
use Rattle.puffin_view.specs.View.ViewedFrames.{fields_of, frame_index, slowest, is_rising}
use Rattle.puffin_session.specs.declared.command.Command.{Command}
use Rattle.puffin_session.specs.declared.command.Reply.{Reply}
use Rattle.puffin_session.specs.Session.History.{Opening, Action, frames}
use Rattle.puffin_session.specs.Session.Due.{due, index_after}
use Rattle.puffin_session.specs.Session.Notes.{known_after, due_details, is_wanted}
use Rattle.puffin_session.specs.Session.Actions.{actions_of}
use Rattle.puffin_session.specs.Session.Runs.{LeadsTo}
use Rattle.puffin_session.specs.Session.{SessionState, new_session, opening_of, SpellsDue}
use Rattle.puffin_replay.specs.Program.EmittedFrames.{frames_emitted, Takes, TakesSome, TookAlso}

-- ---- the frames of a run

-- whether an action emitted a frame
abbrev pub is_emitted : Action → Bool
is_emitted (frames emitted) = emitted
is_emitted _ = false

-- what was done before each frame that the actions after `done` emitted, in order
abbrev pub before_frames : List Action → List Action → List (List Action)
before_frames done [] = []
before_frames done (action ∷ later) =
    (if is_emitted action then done ∷ [] else []) ++ before_frames (done ++ (action ∷ [])) later

-- The contents of a frame that was emitted after these actions. It has a stream exactly under those starts and names of threads
-- under which scopes were reported since the frame before, and each spells exactly these scopes, in order, with their true
-- count, depth and range. Its meta is that of all of them, with the next index, and it lists the scope details that were due.
pub record SaysDue (opening : Opening) (done : List Action) (frame : PacketFields) : Type 0 where
  pub streams : Streams
  pub unpacked : streams_in (
      record { form = frame.form; kind = frame.kind; bytes = frame.streams }) ≡ Some streams
  pub spelled : SpellsDue streams (due opening done)
  pub meta : frame.meta ≡ meta_of (index_after opening done) (values streams)
  pub details : frame.details
      ≡ delta_of (known_after opening done) (due_details opening done) (is_wanted opening done)

-- the contents of the emitted frames, in order
abbrev pub emitted_fields : List Reply → List PacketFields
emitted_fields replies = map fields_of (frames_emitted replies)

-- the last frames of a list with rising indices, up to `max_recent`, and its `max_slow` slowest: each once, in the list's order
abbrev pub kept_frames : ℕ → ℕ → List PacketFields → List PacketFields
kept_frames max_recent max_slow emitted =
    filter
    (λ frame.
    has_number (frame_index frame)
    (map frame_index (last_of max_recent emitted ++ slowest max_slow emitted)))
    emitted

-- ---- a run

-- A session ran these commands, from start to end, with these replies, and emitted what was due.
pub record EmitsDue (start end : SessionState) (commands : List Command) (replies : List Reply) :
    Type 0 where
  -- each command got a reply that it may get after those before it, possibly a refusal
  pub run : LeadsTo start end commands replies
  -- each action that emitted a frame has its own frame, in order, which contains what was due, given the session's state before
  -- and what was done since then
  pub due : AllZip (SaysDue (opening_of start))
      (before_frames [] (actions_of commands replies run.learnt)) (emitted_fields replies)
  pub rising : is_rising (emitted_fields replies) ≡ true

-- ---- what is read

-- A view read from the file of these frames has exactly these frames, with the limits of a view that is read, and knows exactly
-- the details that they list.
pub record IsReadOf (written : List PacketFields) (read : FrameView) : Type 0 where
  pub recent : map fields_of (view_of read).recent ≡ written
  pub slow : map fields_of (view_of read).slow ≡ slowest 256 written
  pub last : (view_of read).last ≡ last_index written
  pub max_recent : (view_of read).max_recent ≡ 2 ^ 64 - 1
  pub max_slow : (view_of read).max_slow ≡ 256
  pub packs : (view_of read).packs ≡ true
  -- all of it at once, and how each frame is held: a view that is read took each frame from its packet
  pub frames : view_of read ≡ after_all read_view (map frame_stored (map packed written))
  pub known : collection_of read
      ≡ with_all_details no_details (flat_map (λ (frame : PacketFields). frame.details) written)

-- ---- the promise

-- Commands were run in a session, with these replies; a view took the emitted frames after those that it held; and another view
-- was read from the first one's file.
pub record KeepsRun (start end : SessionState) (commands : List Command) (old new : FrameView)
    (replies : List Reply) (read : FrameView) : Type 0 where
  pub emits : EmitsDue start end commands replies
  pub taken : Takes (frames_emitted replies) old new
  pub took : TookAlso (frames_emitted replies) (view_of old) (view_of new)
  -- exactly the frames of the view are read
  pub again : IsReadOf (fields_in (view_of new)) read

-- The same for a new session of threads with these names and forms, and a new view with these limits: exactly the last and the
-- slowest of the emitted frames are read.
pub record KeepsPromise (threads : List (List ℕ × Form)) (commands : List Command)
    (max_recent max_slow : ℕ) (replies : List Reply) (read : FrameView) : Type 0 where
  pub end : SessionState
  pub emits : EmitsDue (new_session threads) end commands replies
  pub again : IsReadOf (kept_frames max_recent max_slow (emitted_fields replies)) read

-- ---- why nothing is read

-- Why the file of a view can't be written into memory or read back: memory runs out; or a part of a frame in the view is too
-- long; or details of a frame that it held before have no id.
abbrev pub IsFileFault : FrameView → FrameView → FileError → Type 0
IsFileFault old new fault =
    (fault ≡ file.Memory)
    ⊎ ((fault ≡ file.PartTooLong) × Any HasLongPart (fields_in (view_of new)))
    ⊎ ((fault ≡ file.Refused MissingId)
    × (list_any lacks_ids (fields_held (view_of old)) ≡ true))

-- A session went from start to end, and a view from old to new. `told` has the replies if the commands were run.
module _ (start end : SessionState) (commands : List Command) (old new : FrameView) where
  -- there was no memory to run the commands, and nothing changed
  abbrev pub IsNotRun : FileError → Option (List Reply) → Type 0
  IsNotRun fault told = (fault ≡ file.Memory) × (told ≡ None) × (end ≡ start) × Takes [] old new

  -- the commands were run, but there was no memory for the view to take all frames of the run
  abbrev pub IsNotTaken : FileError → Option (List Reply) → Type 0
  IsNotTaken fault told =
      (replies : List Reply)
      × (told ≡ Some replies)
      × EmitsDue start end commands replies
      × TakesSome (frames_emitted replies) old new
      × (fault ≡ file.Memory)

  -- the commands were run and the view took all frames of the run, but its file couldn't be read back
  abbrev pub IsNotRead : FileError → Option (List Reply) → Type 0
  IsNotRead fault told =
      (replies : List Reply)
      × (told ≡ Some replies)
      × EmitsDue start end commands replies
      × Takes (frames_emitted replies) old new
      × TookAlso (frames_emitted replies) (view_of old) (view_of new)
      × IsFileFault old new fault

  -- why no view was read, and the state after that
  abbrev pub IsUnread : FileError → Option (List Reply) → Type 0
  IsUnread fault told = IsNotRun fault told ⊎ IsNotTaken fault told ⊎ IsNotRead fault told

-- Why no view is read for a new session of threads with these names and forms, and a new view with these limits. `told` has the
-- replies if the commands were run.
module _ (threads : List (List ℕ × Form)) (commands : List Command) (max_recent max_slow : ℕ) where
  -- the commands were run, and `told` has the replies
  abbrev pub HasRun : Option (List Reply) → Type 0
  HasRun told =
      (replies : List Reply)
      × (told ≡ Some replies)
      × (end : SessionState)
      × EmitsDue (new_session threads) end commands replies

  -- memory ran out, before the commands were run or after
  abbrev pub IsOutOfMemory : FileError → Option (List Reply) → Type 0
  IsOutOfMemory fault told = (fault ≡ file.Memory) × ((told ≡ None) ⊎ HasRun told)

  -- the commands were run, and a frame that is kept has a part that is too long to be written
  abbrev pub IsTooLong : FileError → Option (List Reply) → Type 0
  IsTooLong fault told =
      (fault ≡ file.PartTooLong)
      × (replies : List Reply)
      × (told ≡ Some replies)
      × (end : SessionState)
      × EmitsDue (new_session threads) end commands replies
      × Any HasLongPart (kept_frames max_recent max_slow (emitted_fields replies))

  -- why no view was read
  abbrev pub IsUnreadAnew : FileError → Option (List Reply) → Type 0
  IsUnreadAnew fault told = IsOutOfMemory fault told ⊎ IsTooLong fault told
