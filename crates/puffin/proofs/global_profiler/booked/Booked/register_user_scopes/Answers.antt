-- Registered scopes leave the counts and what is pending as they were, and so all facts of the books and the history.
use Rattle.std.proofs.Common.{sym, ◌∙◌}
use Rattle.puffin_collector.specs.Collector.State.{Collected}
use Rattle.puffin.specs.Profiler.{collected_of}
use Rattle.puffin_threads.specs.Details.{details_seen}
use Rattle.puffin.proofs.Growing.{same_stands}
use Rattle.puffin.proofs.KeptStreams.{Keeps, adding_keeps}
use Rattle.puffin.proofs.global_profiler.booked.Booked.register_user_scopes.Goals as goal

pub invariant_of-self : goal.invariant_of-self
invariant_of-self g c =
    let old = c.args.self.now in
    let before : Collected = collected_of old.profiler in let now : Collected = collected_of c.register_user_scopes.new.self in
    let keeps : Keeps before now = adding_keeps (λ v. v.items) c.register_user_scopes.result before now
    (details_seen c.args.details.now) c.register_user_scopes.ensures.ok c.register_user_scopes.ensures.err in
    record {
      reported_is = old.reported_is ∙ sym keeps.0;
      handed_is = old.handed_is ∙ sym keeps.1;
      authors_are = old.authors_are;
      stands = same_stands before.streams now.streams old.log.entries keeps.2 old.stands;
      met = old.met;
      seen = old.seen;
    }
