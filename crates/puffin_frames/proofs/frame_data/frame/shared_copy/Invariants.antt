use Rattle.std.proofs.Common.{◌≡◌, take}
use Rattle.puffin_threads.specs.Details.{shared_details}
use Rattle.puffin_frames.proofs.frame_data.frame.shared_copy.Given as goal

-- the details so far are copied
abbrev pub invariant-details : goal.invariant-details
invariant-details l = shared_details l.copy.items ≡ shared_details (take l.one-index l.details.items)
