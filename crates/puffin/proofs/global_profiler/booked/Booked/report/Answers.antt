-- The history has one report more, which is pending after what was pending.
use Rattle.std.proofs.Common.{rules, ◌≡◌, refl, ap, sym, subst, ◌∙◌}
use Rattle.std.proofs.lemmas.Grind.{merely}
use Rattle.puffin_data.specs.Honesty.{StreamFacts, facts_of_ref, AreUnlike}
use Rattle.puffin_threads.specs.declared.thread_profiler.thread_info.ThreadInfo.{ThreadInfo}
use Rattle.puffin_threads.specs.Thread.ThreadKey.{key_of}
use Rattle.puffin_frames.specs.Frame.Contents.{Streams, stream_under, reported_to}
use Rattle.puffin_collector.specs.Collector.State.{Collected}
use Rattle.puffin.specs.Profiler.{collected_of}
use Rattle.puffin.specs.Happenings.{reported}
use Rattle.puffin.proofs.Growing.{grows_by, still_met, still_seen}
use Rattle.puffin.proofs.global_profiler.booked.Booked.report.Goals as goal

pub invariant_of-self-2 : goal.invariant_of-self-2
invariant_of-self-2 g c =
    let old = c.args.self.now in let ok = c.in_ok-report.ensures.ok in
    let pending : Streams = (collected_of old.profiler).streams in
    let facts : StreamFacts = facts_of_ref c.args.times.now in
    let info : ThreadInfo = c.of-key.result.value in
    let same : info ≡ c.args.info = c.of-key.ensures in
    record {
      reported_is = search rules;
      handed_is = old.handed_is ∙ ap (λ (x : Collected). x.emitted) (sym ok.0);
      authors_are = c.add-2.ensures.log.0 ∙ old.authors_are;
      stands = grows_by pending (collected_of c.report.new.self).streams old.log.entries c.add-2.new.self.entries _
          (reported (key_of info) facts) old.stands c.add-2.ensures.log.1
          (ap (λ (x : Collected). x.streams) ok.0 ∙ ap (λ (t : ThreadInfo). reported_to pending (key_of t) facts) (sym same)) refl
          (merely c.requires, subst (λ (t : ThreadInfo). ¬ AreUnlike (stream_under pending (key_of t)) facts) (sym same) ok.2);
      met = still_met _ _ _ (reported (key_of info) facts) old.log.entries c.add-2.new.self.entries c.add-2.ensures.log.1 old.met;
      seen = still_seen _ (reported (key_of info) facts) old.log.entries c.add-2.new.self.entries c.add-2.ensures.log.1 tt old.seen;
    }
