-- A sink less leaves all that is collected as it was, and so all facts of the books and the history.
use Rattle.std.proofs.Common.{sym, ◌∙◌}
use Rattle.puffin_collector.specs.Collector.State.{Collected}
use Rattle.puffin.specs.Profiler.{collected_of}
use Rattle.puffin.proofs.Growing.{same_stands}
use Rattle.puffin.proofs.KeptStreams.{Keeps, same_keeps}
use Rattle.puffin.proofs.global_profiler.booked.Booked.remove_sink.Goals as goal

pub invariant_of-self : goal.invariant_of-self
invariant_of-self g c =
    let old = c.args.self.now in
    let before : Collected = collected_of old.profiler in let now : Collected = collected_of c.remove_sink.new.self in
    let keeps : Keeps before now = same_keeps before now c.remove_sink.ensures.rest in
    record {
      reported_is = old.reported_is ∙ sym keeps.0;
      handed_is = old.handed_is ∙ sym keeps.1;
      authors_are = old.authors_are;
      stands = same_stands before.streams now.streams old.log.entries keeps.2 old.stands;
      met = old.met;
      seen = old.seen;
    }
