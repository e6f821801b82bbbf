-- Nothing happened through the share but that a frame was handed out, if one was.
use Rattle.puffin.proofs.TakenFrames.{took_once}
use Rattle.puffin.proofs.light.shares.FrameTakerGathers.take.Goals as goal

pub returns : goal.returns
returns g c = took_once c.new_frame.result
    (λ e. e.frame) c.args.self.now.share c.new_frame.new.self.share c.new_frame.ensures.share_takes
    (λ same. same.0) c.new_frame.ensures.unchanged
