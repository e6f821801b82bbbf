-- The frame was kept, if it is among the slowest.
--
-- A time that fits `i64` is the one that its 64 bits stand for (`to_z-of_z`).
use Rattle.std.proofs.Common.{[], refl, ◌∙◌, w64, arith}
use Rattle.std.proofs.lemmas.Int.{ints, to_z-of_z}
use Rattle.puffin_look.specs.OpenFrame.{open_of}
use Rattle.puffin_look.proofs.SlowKept.{frame_kept}
use Rattle.puffin_look.proofs.slow_frames.SlowFramesListing.add.Goals as goal

pub returns-clause-ok : goal.returns-clause-ok
returns-clause-ok c = (
  [],
  refl,
  frame_kept c.args.self.now _ (open_of c.args.frame.now)
      _ c.in_ok-text.ensures.ok (to_z-of_z w64 c.duration_ns.result (omega (arith, ints))
      ∙ c.duration_ns.ensures) c.in_ok-keep.ensures refl refl refl refl,
)
