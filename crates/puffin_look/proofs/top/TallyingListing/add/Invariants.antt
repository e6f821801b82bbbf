-- The streams so far were added.
use Rattle.std.proofs.Common.{map}
use Rattle.puffin_view.proofs.lemmas.FrameStreams.{entry_of}
use Rattle.puffin_look.proofs.TalliesTaken.{IsTallying}
use Rattle.puffin_look.proofs.top.TallyingListing.add.Given as goal

abbrev pub invariant-streams : goal.invariant-streams
invariant-streams l = IsTallying l.initial.self l.self (map entry_of l.frame.thread_streams.entries) (map entry_of l.thread-iterator)
