-- A frame has as many threads as its map has entries.
use Rattle.std.proofs.Common.{sym, ◌∙◌}
use Rattle.puffin_view.proofs.lemmas.FrameStreams.{len_held}
use Rattle.puffin_look.proofs.frames.thread_count.Goals as goal

pub returns : goal.returns
returns c = c.len.ensures.len ∙ sym (len_held c.args.frame.now.thread_streams.entries c.len.ensures.ordered)
