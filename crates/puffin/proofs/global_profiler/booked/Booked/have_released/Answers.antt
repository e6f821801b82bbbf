-- The history has one mark more: that so many rounds were seen released, which they were.
use Rattle.std.proofs.Common.{refl, arith, ◌∙◌}
use Rattle.puffin.specs.Happenings.{marked, saw_released}
use Rattle.puffin.proofs.Growing.{grows_by, still_met, still_seen}
use Rattle.puffin.proofs.global_profiler.booked.Booked.have_released.Goals as goal

pub invariant_of-self : goal.invariant_of-self
invariant_of-self g c =
    let old = c.args.self.now in let longer = c.add.ensures.log.1 in
    let so = c.if-have.true in
    record {
      reported_is = old.reported_is;
      handed_is = old.handed_is;
      authors_are = c.add.ensures.log.0 ∙ old.authors_are;
      stands = grows_by _ _ old.log.entries c.add.new.self.entries _
          (marked (saw_released c.args.rounds)) old.stands longer refl refl tt;
      met = still_met _ _ _ (marked (saw_released c.args.rounds)) old.log.entries c.add.new.self.entries longer old.met;
      seen = still_seen _ (marked (saw_released c.args.rounds)) old.log.entries c.add.new.self.entries longer
          (omega (arith, so, old.met.released)) old.seen;
    }
