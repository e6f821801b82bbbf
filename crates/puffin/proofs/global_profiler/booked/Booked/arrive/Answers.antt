-- The history has one arrival more, and so does the count.
use Rattle.std.proofs.Common.{refl, ◌∙◌}
use Rattle.puffin.specs.Happenings.{marked, arrived}
use Rattle.puffin.proofs.Growing.{grows_by, still_seen, one_arrived}
use Rattle.puffin.proofs.global_profiler.booked.Booked.arrive.Goals as goal

pub invariant_of-self : goal.invariant_of-self
invariant_of-self g c =
    let old = c.args.self.now in let longer = c.add.ensures.log.1 in
    record {
      reported_is = old.reported_is;
      handed_is = old.handed_is;
      authors_are = c.add.ensures.log.0 ∙ old.authors_are;
      stands = grows_by _ _ old.log.entries c.add.new.self.entries _ (marked arrived) old.stands longer refl refl tt;
      met = one_arrived _ _ _ _ old.log.entries c.add.new.self.entries c.saturating_add-self.ensures longer old.met;
      seen = still_seen _ (marked arrived) old.log.entries c.add.new.self.entries longer tt old.seen;
    }
