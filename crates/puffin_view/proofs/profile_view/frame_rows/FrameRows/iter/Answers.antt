-- The frames are the values of the map and then the row.
use Rattle.std.proofs.Common.{◌++◌, sym, ◌∙◌}
use Rattle.puffin_view.proofs.RowPlaces.{values-rows}
use Rattle.puffin_view.proofs.profile_view.frame_rows.FrameRows.iter.Goals as goal

pub returns : goal.returns
returns c =
    let s = c.args.self.now in
    (λ j. c.values.ensures.rest j ++ c.iter.ensures.rest j) ∙ sym (values-rows s.older.entries s.newest.items)
