-- Frames without a rank are skipped; the first other one is given.
use Rattle.std.proofs.Common.{◌≡◌, true, false, map, ◌∷◌, ap}
use Rattle.puffin_view.specs.View.ViewedFrames.{index_of}
use Rattle.puffin_view.specs.View.FrameOf.{frame_of, shared_frame}
use Rattle.puffin_view.specs.View.Ranking.{rank_index, has_number}
use Rattle.puffin_view.specs.View.Listings.{frames_left, slowest_left}
use Rattle.puffin_view.proofs.Listing.{made, slow_given, slow_passed, is_slow}
use Rattle.puffin_view.proofs.profile_view.listings.SlowestFramesIterator.next.Goals as goal

steps : (c : goal.Then-has_index) → slowest_left c.args.self.now ≡ shared_frame c.in-Some.frame.now ∷ slowest_left
    (record { rest = c.next.new.self; slow = c.loop-frame.self.slow })
steps c =
    slow_given shared_frame (λ f. has_number (index_of f) (map rank_index c.loop-frame.self.slow.now.items))
    (frames_left c.loop-frame.self.rest) (frames_left c.next.new.self) (slowest_left c.args.self.now)
    c.in-Some.frame.now c.loop-frame.invariant c.in-Some.ensures.steps
    (is_slow c.loop-frame.self.slow.now.items c.frame_index.result (shared_frame c.in-Some.frame.now)
    (frame_of c.deref.result.now) c.has_index.result true c.frame_index.ensures (ap frame_of c.deref.ensures)
    c.has_index.ensures c.if-has_index.true)

pub returns-then-has_index-clause-steps : goal.returns-then-has_index-clause-steps
returns-then-has_index-clause-steps c = steps c

pub returns-then-has_index-clause-goes : goal.returns-then-has_index-clause-goes
returns-then-has_index-clause-goes c =
    made slowest_left c.args.self.now _ c.in-Some.frame (shared_frame c.in-Some.frame.now) (steps c)

pub loop-frame-preserved : goal.loop-frame-preserved
loop-frame-preserved c =
    slow_passed shared_frame (λ f. has_number (index_of f) (map rank_index c.loop-frame.self.slow.now.items))
    (frames_left c.loop-frame.self.rest) (frames_left c.next.new.self) (slowest_left c.args.self.now)
    c.in-Some.frame.now c.loop-frame.invariant c.in-Some.ensures.steps
    (is_slow c.loop-frame.self.slow.now.items c.frame_index.result (shared_frame c.in-Some.frame.now)
    (frame_of c.deref.result.now) c.has_index.result false c.frame_index.ensures (ap frame_of c.deref.ensures)
    c.has_index.ensures c.if-has_index.false)
