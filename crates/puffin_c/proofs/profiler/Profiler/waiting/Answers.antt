-- Only a frame that waits is copied, so it is there if the copy fails.
use Rattle.std.proofs.Common.{◌≡◌, ap}
use Rattle.std.specs.Prelude.{Some}
use Rattle.std.specs.Arc.{arc_value}
use Rattle.std.specs.Option.{option_map}
use Rattle.puffin_frames.specs.declared.frame_data.frame.FrameData.{FrameData}
use Rattle.puffin_c.specs.declared.profiler.Waiting.{Waiting}
use Rattle.puffin_c.specs.Profiling.{waiting_frame}
use Rattle.puffin_c.proofs.Refusals.{on_err}
use Rattle.puffin_c.proofs.profiler.Profiler.waiting.Goals as goal

pub returns-in_err-clone-in-Some-clause-err : goal.returns-in_err-clone-in-Some-clause-err
returns-in_err-clone-in-Some-clause-err c =
    on_err c.from_residual.result ((x : FrameData) × (waiting_frame c.args.self.now ≡ Some x))
    (arc_value c.in-Some.waiting.frame, ap (option_map (λ (w : Waiting). arc_value w.frame)) c.in-Some.is)
