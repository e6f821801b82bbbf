-- The first frame of the row becomes the last of the map, or stays, so the frames in order are the same.
use Rattle.std.proofs.Common.{◌≡◌, ap, ◌∙◌, sym, subst}
use Rattle.std.specs.List.Sorted.{IsStrictlySortedBy}
use Rattle.std.specs.Map.{keys_of}
use Rattle.std.specs.Ordering.{nat_cmp}
use Rattle.puffin_view.specs.View.ViewedFrames.{index_of}
use Rattle.puffin_view.specs.View.FrameOf.{frame_of, shared_frame}
use Rattle.puffin_view.proofs.RowPlaces.{aside}
use Rattle.puffin_view.proofs.profile_view.frame_rows.FrameRows.set_aside.Goals as goal

pub returns-in_default-insert : goal.returns-in_default-insert
returns-in_default-insert c =
    let s = c.args.self.now in
    let index : c.frame_index-index.result ≡ index_of (shared_frame c.in-Some.frame) =
    c.frame_index-index.ensures ∙ ap (λ f. index_of (frame_of f)) c.deref.ensures in
    aside s.older.entries c.insert.new.self.entries s.newest.items c.pop_front.new.self.items c.in-Some.frame
    c.frame_index-index.result index c.in-Some.ensures.items c.in_default-insert.ensures.entries s.in_order

pub invariant_of-self-in_default-insert : goal.invariant_of-self-in_default-insert
invariant_of-self-in_default-insert c =
    let s = c.args.self.now in
    let index : c.frame_index-index.result ≡ index_of (shared_frame c.in-Some.frame) =
    c.frame_index-index.ensures ∙ ap (λ f. index_of (frame_of f)) c.deref.ensures in
    let same =
    aside s.older.entries c.insert.new.self.entries s.newest.items c.pop_front.new.self.items c.in-Some.frame
    c.frame_index-index.result index c.in-Some.ensures.items c.in_default-insert.ensures.entries s.in_order in
    record { in_order = subst (λ es. IsStrictlySortedBy nat_cmp (keys_of es)) (sym same) s.in_order }
