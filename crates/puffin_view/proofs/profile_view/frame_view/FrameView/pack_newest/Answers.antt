-- The newest frame is held packed, under the same index. So both lists have it packed, and all else is as it was.
use Rattle.std.proofs.Common.{◌≡◌, refl, sym, ap, ◌∙◌, map, Some}
use Rattle.std.specs.Arc.{arc_value}
use Rattle.std.specs.Option.{option_map, is_some}
use Rattle.puffin_frames.specs.Frame.Contents.{holding_of}
use Rattle.puffin_view.specs.View.Ranking.{last_in, rank_index}
use Rattle.puffin_view.specs.View.{View, with_packed}
use Rattle.puffin_view.specs.View.ViewedFrames.{Frame, index_of, packed_alone}
use Rattle.puffin_view.specs.View.Known.{view_of, with_frames}
use Rattle.puffin_view.specs.View.FrameOf.{frame_of, shared_frame}
use Rattle.puffin_view.specs.inner.Store.{AreStored, frames_under}
use Rattle.puffin_view.proofs.HoldingViews.{packed_copied, packed_already}
use Rattle.puffin_view.proofs.JoiningPending.{known_as, packed_newest, newest_is_packed}
use Rattle.puffin_view.proofs.Storing.{newest_there, stored_as, view_as}
use Rattle.puffin_view.proofs.StoringPacked.{stored-already}
use Rattle.puffin_view.proofs.profile_view.frame_view.FrameView.pack_newest.Goals as goal

abbrev newest : goal.After-replace → Frame
newest c = shared_frame c.in-Some.newest.now

newest_is : (c : goal.After-replace) → last_in (view_of c.args.self.now).recent ≡ Some (newest c)
newest_is c = sym c.latest_frame.ensures ∙ ap (option_map (λ a. shared_frame a.now)) c.in-Some.is

abbrev before : goal.After-replace → View
before c =
    let s = c.self.inside in
    record {
      recent = frames_under s.held s.recent.items;
      slow = frames_under s.held (map rank_index s.slow.items);
      last = s.last;
      max_recent = s.max_recent;
      max_slow = s.max_slow;
      packs = s.pack_frames;
    }

same : (c : goal.After-replace) → before c ≡ view_of c.args.self.now
same c = ap view_of c.self.view_is

packs : (c : goal.After-replace) → shared_frame c.in_ok-packed.packed ≡ packed_alone (newest c)
packs c =
    ap frame_of c.in_ok-packed.ensures.ok ∙ packed_copied c.deref-2.result.now c.in_ok-packed_copy.field-0
    c.in_ok-packed_copy.ensures.held c.in_ok-packed_copy.ensures.fields
    ∙ ap (λ f. packed_alone (frame_of f)) c.deref-2.ensures

stored : (c : goal.After-replace)
    → AreStored c.replace.new.self c.self.inside.recent.items c.self.inside.slow.items c.self.inside.last
    (with_packed (index_of (newest c)) (before c)).recent (with_packed (index_of (newest c)) (before c)).slow
stored c =
    packed_newest c.self.inside.held c.replace.new.self c.self.inside.recent.items c.self.inside.slow.items
    c.self.inside.last (before c).recent (before c).slow (newest c) (shared_frame c.in_ok-packed.packed)
    c.self.invariant (ap (λ v. last_in v.recent) (same c) ∙ newest_is c) (packs c) c.replace.ensures

pub invariant_of-self : goal.invariant_of-self
invariant_of-self c =
    stored_as c.replace.new.self c.self.inside.recent.items c.self.inside.slow.items c.self.inside.last _ _ (stored c)

pub returns-clause-ok : goal.returns-clause-ok
returns-clause-ok c =
    known_as _ _ _ _ c.self.view_is (view_as c.replace.new.self c.self.inside.recent.items c.self.inside.slow.items
    c.self.inside.last c.self.inside.max_recent c.self.inside.max_slow c.self.inside.pack_frames
    (with_packed (index_of (newest c)) (before c)) (stored c) refl refl refl refl
    ∙ newest_is_packed (view_of c.args.self.now) (before c) (newest c) (newest_is c) (same c))

pub replace-requires : goal.replace-requires
replace-requires c =
    let s = c.self.inside in
    let f : Frame = shared_frame c.in-Some.newest.now in
    let found : last_in (view_of c.args.self.now).recent ≡ Some f =
    sym c.latest_frame.ensures ∙ ap (option_map (λ a. shared_frame a.now)) c.in-Some.is in
    let packed : shared_frame c.in_ok-packed.packed ≡ packed_alone f =
    ap frame_of c.in_ok-packed.ensures.ok ∙ packed_copied c.deref-2.result.now c.in_ok-packed_copy.field-0
    c.in_ok-packed_copy.ensures.held c.in_ok-packed_copy.ensures.fields
    ∙ ap (λ f. packed_alone (frame_of f)) c.deref-2.ensures in
    newest_there s.held s.recent.items s.slow.items s.last (frames_under s.held s.recent.items)
    (frames_under s.held (map rank_index s.slow.items)) f (index_of (shared_frame c.in_ok-packed.packed))
    c.self.invariant (ap (λ v. last_in v.frames.recent) c.self.view_is ∙ found) (ap index_of packed)

-- ---- a newest frame that is packed already

abbrev kept : goal.Then-not-has_unpacked → Frame
kept c = shared_frame c.in-Some.newest.now

kept_is : (c : goal.Then-not-has_unpacked) → last_in (view_of c.args.self.now).recent ≡ Some (kept c)
kept_is c = sym c.latest_frame.ensures ∙ ap (option_map (λ a. shared_frame a.now)) c.in-Some.is

abbrev as_it_stands : goal.Then-not-has_unpacked → View
as_it_stands c =
    let s = c.self.inside in
    record {
      recent = frames_under s.held s.recent.items;
      slow = frames_under s.held (map rank_index s.slow.items);
      last = s.last;
      max_recent = s.max_recent;
      max_slow = s.max_slow;
      packs = s.pack_frames;
    }

alone : (c : goal.Then-not-has_unpacked) → kept c ≡ packed_alone (kept c)
alone c = packed_already (arc_value c.in-Some.newest.now) (ap (λ f. is_some (holding_of f).unpacked)
    (sym c.deref.ensures) ∙ sym c.has_unpacked.ensures ∙ c.if-not-has_unpacked.true)

pub returns-then-not-has_unpacked-clause-ok : goal.returns-then-not-has_unpacked-clause-ok
returns-then-not-has_unpacked-clause-ok c =
    let s = c.self.inside in
    let v : View = as_it_stands c in
    let newest : last_in v.recent ≡ Some (kept c) = ap (λ w. last_in w.frames.recent) c.self.view_is ∙ kept_is c in
    ap (with_frames c.args.self.now) (sym (ap view_of c.self.view_is)
    ∙ view_as s.held s.recent.items s.slow.items s.last s.max_recent s.max_slow s.pack_frames
    (with_packed (index_of (kept c)) v) (stored-already s.held s.recent.items s.slow.items s.last v.recent v.slow
    (kept c) c.self.invariant newest (alone c)) refl refl refl refl
    ∙ newest_is_packed (view_of c.args.self.now) v (kept c) (kept_is c) (ap view_of c.self.view_is))
