-- The history has one frame more, with just what was pending; and nothing is pending after it.
use Rattle.std.proofs.Common.{rules, ◌≡◌, ◌∷◌, [], Some, ap, sym, subst, ◌∙◌}
use Rattle.std.specs.Arc.{arc_value}
use Rattle.history.specs.Entries.{events}
use Rattle.puffin_frames.specs.Frame.Contents.{Streams}
use Rattle.puffin_collector.specs.Collector.State.{Collected}
use Rattle.puffin_collector.specs.Collector.Collecting.{Collects}
use Rattle.puffin.specs.Profiler.{collected_of}
use Rattle.puffin.specs.Happenings.{framed}
use Rattle.puffin.specs.Members.{unpacked_in}
use Rattle.puffin.proofs.Growing.{grows_by, still_met, still_seen, pending_there}
use Rattle.puffin.proofs.TellingShares.{frame_due, unpacked_is, none_pending, told_frame}
use Rattle.puffin.proofs.global_profiler.booked.Booked.new_frame.Goals as goal

pub invariant_of-self-2 : goal.invariant_of-self-2
invariant_of-self-2 g c =
    let old = c.args.self.now in let frame = c.in-Some.frame in
    let before : Collected = collected_of old.profiler in let now : Collected = collected_of c.new_frame.new.self in
    let is : c.in_ok-emitted.emitted.frame ≡ Some frame = search rules in
    let collects : Collects before (Some frame) now = subst (λ o. Collects before o now) is c.in_ok-emitted.ensures.collected.ok in
    record {
      reported_is = old.reported_is ∙ ap (λ (x : Collected). x.reported) (sym collects.2);
      handed_is = search rules;
      authors_are = c.add-2.ensures.log.0 ∙ old.authors_are;
      stands = grows_by before.streams now.streams old.log.entries c.add-2.new.self.entries _
          (framed (unpacked_in (arc_value frame))) old.stands c.add-2.ensures.log.1
          (none_pending frame before now collects) (ap (λ (s : Streams). s ∷ []) (unpacked_is frame before now collects)) tt;
      met = still_met _ _ _ (framed (unpacked_in (arc_value frame))) old.log.entries c.add-2.new.self.entries
          c.add-2.ensures.log.1 old.met;
      seen = still_seen _ (framed (unpacked_in (arc_value frame))) old.log.entries c.add-2.new.self.entries c.add-2.ensures.log.1
          tt old.seen;
    }

pub returns-clause-taken : goal.returns-clause-taken
returns-clause-taken g c =
    let old = c.args.self.now in let frame = c.in-Some.frame in
    let before : Collected = collected_of old.profiler in let now : Collected = collected_of c.new_frame.new.self in
    let is : c.in_ok-emitted.emitted.frame ≡ Some frame = search rules in
    let collects : Collects before (Some frame) now = subst (λ o. Collects before o now) is c.in_ok-emitted.ensures.collected.ok in
    let due = pending_there before.streams (events old.log.entries) old.stands in
    rw is (
      old.log.entries,
      before.streams,
      due,
      frame_due frame before now collects,
      told_frame _ _ (unpacked_in (arc_value frame)) _ _ (search rules) (unpacked_is frame before now collects),
    )
