-- The streams so far were shown.
use Rattle.std.proofs.Common.{map}
use Rattle.puffin_view.proofs.lemmas.FrameStreams.{entry_of}
use Rattle.puffin_look.proofs.TreesShown.{IsShowing}
use Rattle.puffin_look.proofs.frame_tree.TreesListing.add.Given as goal

abbrev pub invariant-streams : goal.invariant-streams
invariant-streams l = IsShowing l.initial.self l.self (map entry_of l.frame.thread_streams.entries) (map entry_of l.thread-iterator)
