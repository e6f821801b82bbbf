-- Indices under which nothing is held are skipped; the first other one gives its frame.
use Rattle.std.proofs.Common.{◌≡◌, ◌∷◌}
use Rattle.std.specs.FinMap as fin
use Rattle.std.specs.VecDeque.Iter.{deque_iter_rest}
use Rattle.puffin_view.specs.View.FrameOf.{shared_frame}
use Rattle.puffin_view.specs.View.Listings.{recent_left}
use Rattle.puffin_view.proofs.Listing.{given, passed, made, got_some, got_none}
use Rattle.puffin_view.proofs.profile_view.listings.RecentFramesIterator.next.Goals as goal

steps : (c : goal.In-Some-get) → recent_left c.args.self.now ≡ shared_frame c.in-Some-get.frame.now ∷ recent_left
    (record { rest = c.next.new.self; held = c.loop-index.self.held })
steps c =
    given (fin.get c.loop-index.self.held.now) (deque_iter_rest c.loop-index.self.rest)
    (deque_iter_rest c.next.new.self) (recent_left c.args.self.now) c.in-Some.index.now
    (shared_frame c.in-Some-get.frame.now) c.loop-index.invariant c.in-Some.ensures.steps
    (got_some (λ a. shared_frame a.now) c.get.result (fin.get c.loop-index.self.held.now c.in-Some.index.now)
    c.in-Some-get.frame c.get.ensures c.in-Some-get.is)

pub returns-in-Some-get-clause-steps : goal.returns-in-Some-get-clause-steps
returns-in-Some-get-clause-steps c = steps c

pub returns-in-Some-get-clause-goes : goal.returns-in-Some-get-clause-goes
returns-in-Some-get-clause-goes c =
    made recent_left c.args.self.now _ c.in-Some-get.frame (shared_frame c.in-Some-get.frame.now) (steps c)

pub loop-index-preserved : goal.loop-index-preserved
loop-index-preserved c =
    passed (fin.get c.loop-index.self.held.now) (deque_iter_rest c.loop-index.self.rest)
    (deque_iter_rest c.next.new.self) (recent_left c.args.self.now) c.in-Some.index.now c.loop-index.invariant
    c.in-Some.ensures.steps
    (got_none (λ a. shared_frame a.now) c.get.result (fin.get c.loop-index.self.held.now c.in-Some.index.now)
    c.get.ensures c.in_default-get.is)
