-- An index above all others goes to the end of the row, which stays in order.
use Rattle.std.proofs.Common.{[], ◌∷◌, ◌++◌, ap, ◌∙◌}
use Rattle.puffin_view.proofs.RowPlaces.{sorted-pushed}
use Rattle.puffin_view.proofs.profile_view.frame_rows.FrameRows.push.Goals as goal

pub invariant_of-self-2 : goal.invariant_of-self-2
invariant_of-self-2 c =
    let s = c.args.self.now in
    let more = c.push_back_reserved.ensures.items
    ∙ ap (λ row. row ++ c.args.frame ∷ []) c.in_ok-reserve.ensures.items in
    record {
      in_order = sorted-pushed s.older.entries s.newest.items c.push_back_reserved.new.self.items c.args.frame
          more c.requires s.in_order;
    }
