use Rattle.std.proofs.Common.{◌≡◌, length}
use Rattle.puffin_view.specs.View.Listings.{frames_left, slowest_left}
use Rattle.puffin_view.proofs.profile_view.listings.SlowestFramesIterator.next.Given as goal

-- a frame that isn't slow is passed over
abbrev pub invariant-loop-frame : goal.invariant-loop-frame
invariant-loop-frame l = slowest_left l.self ≡ slowest_left l.fn.self

abbrev pub decreases-loop-frame : goal.decreases-loop-frame
decreases-loop-frame l = length (frames_left l.self.rest)
