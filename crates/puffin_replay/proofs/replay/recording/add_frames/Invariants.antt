-- The view took the frames of the replies so far.
use Rattle.std.proofs.Common.{List, ◌++◌, map, take}
use Rattle.puffin_frames.specs.Packet.Stored.{PacketFields}
use Rattle.puffin_view.specs.View.ViewedFrames.{fields_of}
use Rattle.puffin_view.specs.View.{Took}
use Rattle.puffin_view.specs.View.Known.{view_of}
use Rattle.puffin_replay.specs.Program.EmittedFrames.{frames_emitted, Takes}
use Rattle.puffin_replay.proofs.replay.recording.add_frames.Given as goal

abbrev pub invariant-loop-reply : goal.invariant-loop-reply
invariant-loop-reply l = record {
  takes : Takes (frames_emitted (take l.reply-index l.replies)) l.fn.view l.view;
  took : (cs : List PacketFields) → Took cs (view_of l.fn.view)
      → Took (cs ++ map fields_of (frames_emitted (take l.reply-index l.replies))) (view_of l.view);
}
