-- The streams so far were made.
use Rattle.std.proofs.Common.{map}
use Rattle.puffin_view.proofs.lemmas.FrameStreams.{entry_of}
use Rattle.puffin_look.proofs.PagesMade.{IsMaking}
use Rattle.puffin_look.proofs.page.json_of.Given as goal

abbrev pub invariant-streams : goal.invariant-streams
invariant-streams l = IsMaking l.frame.meta l.rows (map entry_of l.frame.thread_streams.entries) (map entry_of l.thread-iterator)
