-- What recording a run leaves of a session, a view and its file.
use Rattle.std.specs.Prelude.{◌≡◌, ◌⊎◌, ℕ, List, [], map, Option}
use Rattle.std.specs.List.{AllByRecursion}
use Rattle.std.specs.Io.KnownBytes.{Appends}
use Rattle.std.specs.String.{string_bytes}
use Rattle.std.specs.declared.string.String.{String}
use Rattle.puffin_data.specs.declared.data.form.Form.TheVariants.{Short}
use Rattle.puffin_data.specs.declared.file_error.FileError.{FileError}
use Rattle.puffin_data.specs.declared.file_error.FileError.TheVariants as file
use Rattle.puffin_data.specs.Device.{WritesBeginning}
use Rattle.puffin_frames.specs.Packet.Grammar.{IsPacked}
use Rattle.puffin_view.specs.declared.profile_view.frame_view.FrameView.{FrameView}
use Rattle.puffin_view.specs.View.Known.{view_of}
use Rattle.puffin_view.specs.View.File.{file_of, fields_in}
use Rattle.puffin_session.specs.declared.command.Command.{Command}
use Rattle.puffin_session.specs.declared.command.Reply.{Reply}
use Rattle.puffin_session.specs.Session.{SessionState, new_session}
use Rattle.puffin_session.specs.Session.Runs.{LeadsTo}
use Rattle.puffin_replay.specs.Program.EmittedFrames.{frames_emitted, Takes, TakesSome, TookAlso, HoldsIds, ListsIds}
use Rattle.puffin_replay.specs.Promise.{EmitsDue}

-- a new session whose threads have these names and the short form
abbrev pub session_named : {A : Type 0} → List (String A) → SessionState
session_named names = new_session (map (λ name. (string_bytes name, Short)) names)

-- the file of a view
abbrev pub file_of_view : FrameView → List ℕ
file_of_view view = file_of (fields_in (view_of view))

-- ---- a recording that succeeds

-- A session ran these commands, from start to end, with these replies, and a view took the emitted frames, in order.
pub record IsTaken (start end : SessionState) (commands : List Command) (replies : List Reply)
    (old new : FrameView) : Type 0 where
  -- each emitted frame has what was due
  pub run : EmitsDue start end commands replies
  pub view : Takes (frames_emitted replies) old new
  pub took : TookAlso (frames_emitted replies) (view_of old) (view_of new)
  -- if all details of the view's frames had ids, then so do those that it holds now, and those of its file
  pub held_ids : HoldsIds (view_of old) (view_of new)
  pub ids : ListsIds (view_of old) (view_of new)

-- The view's file was then written, and what is written goes from before to after.
pub record IsRecorded (start end : SessionState) (commands : List Command) (replies : List Reply)
    (old new : FrameView) (before after : Option (List ℕ)) : Type 0 where
  pub taken : IsTaken start end commands replies old new
  pub written : Appends before after (file_of_view new)
  -- the file can be read, as it consists of packets
  pub packed : AllByRecursion IsPacked (fields_in (view_of new))

-- ---- a recording that fails

-- why a file can't be written: a part is too long, memory runs out, or the writer fails
abbrev pub IsWriteFault : FileError → Type 0
IsWriteFault fault = (fault ≡ file.PartTooLong) ⊎ (fault ≡ file.Memory) ⊎ (fault ≡ file.Io)

-- The state after a recording that failed: its session went from start to end, its view from old to new, and what is written
-- from before to after.
module _ (start end : SessionState) (commands : List Command) (old new : FrameView)
    (before after : Option (List ℕ)) where
  -- there was no memory to run the commands, and nothing changed or was written
  abbrev pub HasNotRun : FileError → Type 0
  HasNotRun fault =
      (fault ≡ file.Memory) × (end ≡ start) × Takes [] old new × Appends before after []

  -- the commands were run, but there was no memory for the view to take all frames of the run, and nothing was written
  abbrev pub HasNotTaken : FileError → Type 0
  HasNotTaken fault =
      (replies : List Reply)
      × LeadsTo start end commands replies
      × TakesSome (frames_emitted replies) old new
      × (fault ≡ file.Memory)
      × Appends before after []

  -- the commands were run and the view took all frames of the run, but only a prefix of its file was written
  abbrev pub HasNotWritten : FileError → Type 0
  HasNotWritten fault =
      (replies : List Reply)
      × LeadsTo start end commands replies
      × Takes (frames_emitted replies) old new
      × WritesBeginning before after (file_of_view new)
      × IsWriteFault fault
      × TookAlso (frames_emitted replies) (view_of old) (view_of new)

  -- why a recording failed, and the state after it
  abbrev pub IsBroken : FileError → Type 0
  IsBroken fault = HasNotRun fault ⊎ HasNotTaken fault ⊎ HasNotWritten fault
