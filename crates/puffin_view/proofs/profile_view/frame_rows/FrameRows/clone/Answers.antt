-- The copied map and the copied row have the same indices and frames.
use Rattle.puffin_view.specs.inner.Rows.{rows_of}
use Rattle.puffin_view.proofs.RowPlaces.{zipped, sorted-cloned}
use Rattle.puffin_view.proofs.profile_view.frame_rows.FrameRows.clone.Goals as goal

pub returns-clause-ok : goal.returns-clause-ok
returns-clause-ok c =
    let s = c.args.self.now in
    zipped s.older.entries c.in_ok-clone.field-0.entries s.newest.items c.in_ok-clone-2.field-0.items
    c.in_ok-clone.ensures.cases c.in_ok-clone-2.ensures.cases.0

pub invariant_of-result : goal.invariant_of-result
invariant_of-result c =
    let s = c.args.self.now in
    let same = zipped s.older.entries c.in_ok-clone.field-0.entries s.newest.items c.in_ok-clone-2.field-0.items
    c.in_ok-clone.ensures.cases c.in_ok-clone-2.ensures.cases.0 in
    record { in_order = sorted-cloned (rows_of s) _ same s.in_order }
