-- The place of a list holds its frame, or nothing is there.
use Rattle.std.proofs.Common.{ap}
use Rattle.puffin_view.specs.View.FrameOf.{shared_frame, frame_of}
use Rattle.puffin_view.proofs.Selecting.{pushed_at, not_pushed_at, get_past, get_within}
use Rattle.puffin_view.proofs.profile_view.select.push_at.Goals as goal

pub returns-in_ok-push-in-Some-clause-ok : goal.returns-in_ok-push-in-Some-clause-ok
returns-in_ok-push-in-Some-clause-ok c =
    pushed_at shared_frame c.args.all.now.items c.push.new.self.items c.in_ok-try_clone-in-Some.field-0
    c.in-Some.frame.now c.args.frames.now c.args.place
    c.in_ok-push-in-Some.ensures.items (ap frame_of c.in_ok-try_clone-in-Some.ensures) (get_within c.args.frames.now
    c.args.place c.in-Some.frame.now c.in-Some.ensures.lookup.3.0 c.in-Some.ensures.lookup.1)

pub returns-in-None-clause-ok : goal.returns-in-None-clause-ok
returns-in-None-clause-ok c = not_pushed_at shared_frame c.args.all.now.items c.args.frames.now c.args.place
    (get_past c.args.frames.now c.args.place c.in-None.ensures.lookup.3)
