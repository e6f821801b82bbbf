-- What running a script writes.
use Rattle.std.specs.Prelude.{◌≡◌, ◌⊎◌, ℕ, false, List, [], Option, map}
use Rattle.std.specs.List.{AllByRecursion, Any}
use Rattle.std.specs.Io.KnownBytes.{Appends}
use Rattle.puffin_data.specs.declared.file_error.FileError.{FileError}
use Rattle.puffin_data.specs.declared.file_error.FileError.TheVariants as file
use Rattle.puffin_data.specs.Device.{IsOutside, WritesBeginning}
use Rattle.puffin_frames.specs.Packet.Grammar.{IsPacked}
use Rattle.puffin_frames.specs.Packet.Stored.{PacketFields}
use Rattle.puffin_frames.specs.Packet.Writing.{HasLongPart}
use Rattle.puffin_view.specs.View.ViewedFrames.{fields_of}
use Rattle.puffin_view.specs.View.{View, Took, empty_view, after_all}
use Rattle.puffin_view.specs.View.File.{file_of, fields_in}
use Rattle.puffin_session.specs.declared.command.Reply.{Reply}
use Rattle.puffin_replay.specs.declared.replay.script.Script.{Script}
use Rattle.puffin_replay.specs.Script.{threads_said}
use Rattle.puffin_replay.specs.Program.ReplyLines.{reply_lines}
use Rattle.puffin_session.specs.Session.{SessionState, new_session}
use Rattle.puffin_session.specs.Session.Runs.{AreReplies}
use Rattle.puffin_replay.specs.Program.EmittedFrames.{frames_emitted}
use Rattle.puffin_replay.specs.Program.Recording.{IsWriteFault}
use Rattle.puffin_replay.specs.Promise.{EmitsDue, emitted_fields, kept_frames}
use Rattle.puffin_report.specs.Summary.{NoneLacksIds}

-- these are the replies of a run of the script in a new session, which ends in this state
abbrev pub AreAnswers : Script → List Reply → SessionState → Type 0
AreAnswers script replies end =
    AreReplies (threads_said script) script.commands.items replies end

-- a new view that packs no frame
abbrev pub loose_view : View
loose_view = record empty_view { packs = false }

-- such a view after it took the frames of these replies, and no others
abbrev pub view_after : List Reply → View
view_after replies = after_all loose_view (frames_emitted replies)

-- the frames in the file of that view
abbrev pub fields_after : List Reply → List PacketFields
fields_after replies = fields_in (view_after replies)

-- One writer got the file of a view that took the frames of a run of the script, and the other the lines of the run's replies.
-- Each emitted frame contains what was due, and the file has exactly the frames that a new view keeps.
pub record IsReplayed (script : Script)
    (file_before file_after lines_before lines_after : Option (List ℕ)) : Type 0 where
  pub replies : List Reply
  pub end : SessionState
  pub emits : EmitsDue (new_session (threads_said script)) end script.commands.items replies
  pub kept : fields_after replies ≡ kept_frames 1000 256 (emitted_fields replies)
  pub took : Took (map fields_of (frames_emitted replies)) (view_after replies)
  pub written : Appends file_before file_after (file_of (fields_after replies))
  pub packed : AllByRecursion IsPacked (fields_after replies)
  pub ids : NoneLacksIds (fields_after replies)
  pub told : Appends lines_before lines_after (reply_lines script.lines.items replies)

-- The run of a script failed: the file went from `file_before` to `file_after`, and the lines from `lines_before` to
-- `lines_after`.
module _ (script : Script)
    (file_before file_after lines_before lines_after : Option (List ℕ)) where
  -- memory ran out, and nothing was written
  abbrev pub HasWrittenNothing : FileError → Type 0
  HasWrittenNothing fault =
      (fault ≡ file.Memory)
      × Appends file_before file_after []
      × Appends lines_before lines_after []

  -- the script was run, but only a prefix of its file was written, and no line
  abbrev pub HasCutFile : FileError → Type 0
  HasCutFile fault =
      (replies : List Reply)
      × (end : SessionState)
      × AreAnswers script replies end
      × WritesBeginning file_before file_after (file_of (fields_after replies))
      × Appends lines_before lines_after []
      × IsWriteFault fault
      × (fault ≡ file.PartTooLong → Any HasLongPart (fields_after replies))

  -- the script was run and its file was written, but only a prefix of the lines
  abbrev pub HasCutLines : FileError → Type 0
  HasCutLines fault =
      (replies : List Reply)
      × (end : SessionState)
      × AreAnswers script replies end
      × Appends file_before file_after (file_of (fields_after replies))
      × NoneLacksIds (fields_after replies)
      × WritesBeginning lines_before lines_after (reply_lines script.lines.items replies)
      × IsOutside fault

  -- why the run failed, and what it wrote
  abbrev pub IsUnfinished : FileError → Type 0
  IsUnfinished fault = HasWrittenNothing fault ⊎ HasCutFile fault ⊎ HasCutLines fault
