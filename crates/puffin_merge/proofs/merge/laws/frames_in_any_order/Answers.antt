use Rattle.puffin_merge.proofs.AnyOrder.{merge-any_order}
use Rattle.puffin_merge.proofs.FramesReordered.{merged-any_order}
use Rattle.puffin_merge.proofs.merge.laws.frames_in_any_order.Goals as goal

pub returns-clause-frames : goal.returns-clause-frames
returns-clause-frames c = merged-any_order

pub returns-clause-scopes : goal.returns-clause-scopes
returns-clause-scopes c = merge-any_order
