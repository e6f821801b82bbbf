-- The row of the frame was kept, if it is slow enough.
use Rattle.std.proofs.Common.{[], take, refl, ap, ◌∙◌}
use Rattle.puffin_look.specs.Slowest.{with_row}
use Rattle.puffin_look.specs.declared.frames.FrameRow.{FrameRow}
use Rattle.puffin_look.proofs.slowest.SlowestListing.add.Goals as goal

pub returns-clause-ok : goal.returns-clause-ok
returns-clause-ok c = (
  [],
  refl,
  record {
    none = refl;
    limit = refl;
    rows = c.in_ok-keep.ensures ∙ ap (λ (r : FrameRow). take c.args.self.now.limit (with_row c.args.self.now.rows.items r)) c.new.ensures;
  },
)
