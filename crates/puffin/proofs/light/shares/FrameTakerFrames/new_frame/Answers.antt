-- A frame that is handed out is one more that the share took.
use Rattle.puffin.proofs.TakenFrames.{taken_more, took_more}
use Rattle.puffin.proofs.light.shares.FrameTakerFrames.new_frame.Goals as goal

pub invariant_of-self-2-clause-took : goal.invariant_of-self-2-clause-took
invariant_of-self-2-clause-took g c =
    let old = c.args.self.now in let e = c.in_ok-emitted in let counted = c.count_frame.result in
    took_more old.share c.new_frame.new.share e.emitted.frame e.emitted.refused old.frames old.missed counted.0 counted.1
    e.ensures.taken e.ensures.counted e.ensures.spells c.count_frame.ensures.counts old.took

pub returns-clause-taken : goal.returns-clause-taken
returns-clause-taken g c = taken_more c.args.self.now.share c.new_frame.new.share c.in_ok-emitted.emitted.frame
    c.in_ok-emitted.ensures.taken
