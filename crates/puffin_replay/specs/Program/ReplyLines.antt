-- The line that `replay` prints for a reply, if any.
use Rattle.std.specs.Prelude.{ℕ, ℤ, ◌-ℤ◌, List, [], ◌∷◌, ◌++◌, codes, Option, Some, None}
use Rattle.std.specs.Option.{unwrap_or}
use Rattle.std.specs.Fmt.{decimal, signed_decimal}
use Rattle.puffin_data.specs.declared.error.Error.{Error}
use Rattle.puffin_data.specs.Cause.{error_name}
use Rattle.puffin_frames.specs.declared.frame_data.meta.FrameMeta.{FrameMeta}
use Rattle.puffin_frames.specs.declared.frame_data.frame.FrameData.{FrameData}
use Rattle.puffin_frames.specs.Frame.Contents.{Streams, holding_of, frame_meta}
use Rattle.puffin_threads.specs.declared.thread_profiler.reporter.Closed.{Closed}
use Rattle.puffin_threads.specs.declared.thread_profiler.reporter.Closed.TheVariants as closed
use Rattle.puffin_session.specs.declared.command.Reply.{Reply}
use Rattle.puffin_session.specs.declared.command.Reply.TheVariants as reply
use Rattle.std.specs.Arc.{arc_value}
use Rattle.std.specs.FinMap.{len}
use Rattle.std.specs.declared.sync.Arc.{Arc}
use Rattle.std.specs.declared.alloc.Global.{Global}

-- the two halves of the line of a frame that was taken
abbrev pub frame_text : ℕ → ℕ → ℕ → List ℕ
frame_text index threads scopes =
    codes "frame " ++ (decimal index
    ++ (codes " threads " ++ (decimal threads ++ (codes " scopes " ++ decimal scopes))))

abbrev pub duration_text : ℕ → ℤ → List ℕ
duration_text bytes duration =
    codes " bytes "
    ++ (decimal bytes ++ (codes " duration " ++ (signed_decimal duration ++ codes "\n")))

-- the line of a frame that was taken
abbrev pub taken_line : ℕ → FrameMeta → List ℕ
taken_line threads meta =
    frame_text meta.frame_index threads meta.num_scopes
    ++ duration_text meta.num_bytes (meta.range_ns.1 -ℤ meta.range_ns.0)

-- the lines of a refused command and of a refused report, with the number of the command's script line
abbrev pub refused_line : ℕ → Error → List ℕ
refused_line number cause =
    codes "refused " ++ (decimal number ++ (codes " " ++ (error_name cause ++ codes "\n")))

abbrev pub kept_line : ℕ → Error → List ℕ
kept_line number cause =
    codes "kept " ++ (decimal number ++ (codes " " ++ (error_name cause ++ codes "\n")))

-- the line of a scope's end, if its report was refused
abbrev pub ended_line : ℕ → Closed → Option (List ℕ)
ended_line number (closed.Kept cause) = Some (kept_line number cause)
ended_line number _ = None

-- how many threads have one of the streams of a frame, if it is held unpacked
abbrev pub threads_held : Option Streams → ℕ
threads_held None = 0
threads_held (Some streams) = len streams

-- how many threads have a stream in a frame that was just taken
abbrev pub thread_count : FrameData → ℕ
thread_count frame = threads_held (holding_of frame).unpacked

-- the line of a command for a frame, with or without a frame
abbrev pub emitted_line : Option (Arc FrameData Global) → List ℕ
emitted_line (Some frame) =
    taken_line (thread_count (arc_value frame)) (frame_meta (arc_value frame))
emitted_line None = codes "frame none\n"

-- the output for a reply to the command in this line, if any
abbrev pub reply_line : ℕ → Reply → Option (List ℕ)
reply_line number (reply.Frame emitted) = Some (emitted_line emitted.frame)
reply_line number (reply.Refused cause) = Some (refused_line number cause)
reply_line number (reply.Ended closed) = ended_line number closed
reply_line number _ = None

-- the output for replies to the commands in these lines
abbrev pub reply_lines : List ℕ → List Reply → List ℕ
reply_lines (number ∷ numbers) (reply ∷ replies) =
    unwrap_or (reply_line number reply) [] ++ reply_lines numbers replies
reply_lines _ _ = []
