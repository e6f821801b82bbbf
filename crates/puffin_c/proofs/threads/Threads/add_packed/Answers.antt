-- The streams that are added are those of the frame's contents.
use Rattle.std.proofs.Common.{ap, ◌∙◌}
use Rattle.std.specs.Arc.{arc_value}
use Rattle.puffin_threads.specs.Thread.ThreadKey.{by_key}
use Rattle.puffin_frames.specs.declared.frame_data.unpacked.UnpackedFrameData.{UnpackedFrameData}
use Rattle.puffin_frames.specs.Frame.Contents.{streams_held}
use Rattle.puffin_c.specs.Threads.{with_frame}
use Rattle.puffin_c.proofs.threads.Threads.add_packed.Goals as goal

pub returns-clause-ok : goal.returns-clause-ok
returns-clause-ok c = (
  streams_held (arc_value c.in_ok-data.data),
  c.in_ok-data.ensures.unpacked,
  c.in_ok-add.ensures.ok
      ∙ ap (λ (f : UnpackedFrameData). with_frame (by_key c.args.self.now.totals.entries) (streams_held f))
      c.deref.ensures,
)
