-- A wanted snapshot leaves the counts and what is pending as they were, and so all facts of the books and the history.
use Rattle.std.proofs.Common.{refl, sym, ◌∙◌}
use Rattle.puffin_collector.specs.Collector.State.{Collected, after_wanting}
use Rattle.puffin.specs.Profiler.{collected_of}
use Rattle.puffin.proofs.Growing.{same_stands}
use Rattle.puffin.proofs.KeptStreams.{Keeps, wanting_keeps}
use Rattle.puffin.proofs.global_profiler.booked.Booked.emit_scope_snapshot.Goals as goal

pub invariant_of-self : goal.invariant_of-self
invariant_of-self g c =
    let old = c.args.self.now in
    let before : Collected = collected_of old.profiler in let now : Collected = collected_of c.emit_scope_snapshot.new.self in
    let keeps : Keeps before now = wanting_keeps before now
    (after_wanting before) refl refl refl c.emit_scope_snapshot.ensures.wants in
    record {
      reported_is = old.reported_is ∙ sym keeps.0;
      handed_is = old.handed_is ∙ sym keeps.1;
      authors_are = old.authors_are;
      stands = same_stands before.streams now.streams old.log.entries keeps.2 old.stands;
      met = old.met;
      seen = old.seen;
    }
