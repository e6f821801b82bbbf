-- A frame that is held unpacked has as many threads as streams.
use Rattle.std.proofs.Common.{sym, ap, ◌∙◌}
use Rattle.puffin_replay.specs.Program.ReplyLines.{threads_held}
use Rattle.puffin_replay.proofs.CountedLines.{len-shared_streams}
use Rattle.puffin_replay.proofs.replay.reply_line.thread_count.Goals as goal

pub returns-in-Some : goal.returns-in-Some
returns-in-Some c = c.len.ensures.len ∙ sym (len-shared_streams _ c.len.ensures.ordered) ∙ ap threads_held c.in-Some.ensures.streams
