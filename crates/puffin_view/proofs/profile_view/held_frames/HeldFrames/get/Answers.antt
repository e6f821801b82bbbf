-- A look-up in the rows is one in the map that they stand for.
use Rattle.std.proofs.Common.{sym, ap, ◌∙◌}
use Rattle.puffin_view.specs.inner.Rows.{rows_of}
use Rattle.puffin_view.proofs.HoldingViews.{seen_copied, get-held_of}
use Rattle.puffin_view.proofs.profile_view.held_frames.HeldFrames.get.Goals as goal

pub returns : goal.returns
returns c = seen_copied c.get.result _ c.get.ensures ∙ sym (get-held_of (rows_of c.self.inside.frames) c.args.index)
    ∙ ap (λ m. Rattle.std.specs.FinMap.get m c.args.index) c.self.view_is
