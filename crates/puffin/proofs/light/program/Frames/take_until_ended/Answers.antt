-- The last frame comes behind those of the calls before.
use Rattle.puffin.proofs.TakenFrames.{takes_none, takes_next, takes_last, takes_refused}
use Rattle.puffin.proofs.light.program.Frames.take_until_ended.Goals as goal

pub loop-init : goal.loop-init
loop-init g c = takes_none (g.Self.Frames.taken c.args.self.now)

pub loop-preserved : goal.loop-preserved
loop-preserved g c =
    let taken = g.Self.Frames.taken in let n = c.new_frame-taken in
    takes_next n.result (λ emitted. emitted.frame) (taken c.args.self.now) (taken c.loop.self)
    (taken n.new.self) c.loop.invariant n.ensures.spells n.ensures.taken n.ensures.unchanged

pub returns-then-not-works-clause-last : goal.returns-then-not-works-clause-last
returns-then-not-works-clause-last g c =
    let taken = g.Self.Frames.taken in let n = c.new_frame-taken in
    takes_last n.result (λ emitted. emitted.frame) (taken c.args.self.now) (taken c.loop.self)
    (taken n.new.self) c.loop.invariant n.ensures.taken

pub returns-then-not-works-clause-refused : goal.returns-then-not-works-clause-refused
returns-then-not-works-clause-refused g c =
    let taken = g.Self.Frames.taken in let n = c.new_frame-taken in
    takes_refused n.result (taken c.args.self.now) (taken c.loop.self) (taken n.new.self) c.loop.invariant n.ensures.unchanged
