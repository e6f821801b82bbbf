-- The streams so far were traced.
use Rattle.std.proofs.Common.{map}
use Rattle.puffin_view.proofs.lemmas.FrameStreams.{entry_of}
use Rattle.puffin_look.proofs.Traced.{IsTracing}
use Rattle.puffin_look.proofs.trace.TraceListing.add.Given as goal

abbrev pub invariant-streams : goal.invariant-streams
invariant-streams l = IsTracing l.initial.self l.self (map entry_of l.frame.thread_streams.entries) (map entry_of l.thread-iterator)
