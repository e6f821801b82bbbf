-- A mark leaves what was taken.
use Rattle.std.proofs.Common.{ap, ◌∙◌, arith}
use Rattle.puffin.specs.Happenings.{released}
use Rattle.puffin.proofs.TakenFrames.{still_took}
use Rattle.puffin.proofs.light.shares.FrameTakerGathers.release.Goals as goal

pub invariant_of-self : goal.invariant_of-self
invariant_of-self g c =
    let old = c.args.self.now in let marks = c.release.ensures in record {
      none_reported = ap (λ n. n.reported) marks.counts ∙ old.none_reported;
      none_handed = λ none. ap (λ n. n.handed) marks.counts ∙ old.none_handed none;
      some_each = omega (arith, old.some_each, ap (λ n. n.handed) marks.counts);
      some = old.some;
      took = still_took old.share c.release.new.share (released) old.frames
          (record { counts = marks.counts; own = marks.own }) old.took;
    }
