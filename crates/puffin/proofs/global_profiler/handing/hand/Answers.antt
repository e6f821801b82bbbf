-- A boxed sink that accepted, and one that refused. A view's outcome needs no proof.
use Rattle.std.specs.Arc.{arc_value}
use Rattle.puffin.proofs.HandingOn.{handed-accepted, handed-refused}
use Rattle.puffin.proofs.global_profiler.handing.hand.Goals as goal

pub returns-in-Ok-hand_to_box : goal.returns-in-Ok-hand_to_box
returns-in-Ok-hand_to_box g c =
    handed-accepted (λ b. (goal.FrameSink-dyn g (b.vtable, b.value)).accepts) (arc_value c.args.frame.now) _ c.args.sink.now _ _ _
    c.in-Ok.ensures c.in-Boxed.is c.in-Ok-hand_to_box.is c.hand_to_box.ensures

pub returns-in-Err : goal.returns-in-Err
returns-in-Err g c =
    handed-refused (λ b. (goal.FrameSink-dyn g (b.vtable, b.value)).accepts) (arc_value c.args.frame.now) _ c.args.sink.now _ _ _ _
    c.in-Ok.ensures c.in-Boxed.is c.in-Err.is c.hand_to_box.ensures
