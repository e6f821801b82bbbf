-- The frame is held under its index, which is above all others. It joins both lists, and what is cut from both is dropped.
use Rattle.std.proofs.Common.{◌≡◌, refl, sym, ap, ◌∙◌, ◌++◌, ◌∷◌, [], map, take, length, ◌-◌, ℕ, subst, Some}
use Rattle.std.specs.FinMap as fin
use Rattle.puffin_view.specs.View.{View, joined_by, is_past}
use Rattle.puffin_view.specs.View.ViewedFrames.{Frame, index_of}
use Rattle.puffin_view.specs.View.Known.{view_of}
use Rattle.puffin_view.specs.View.FrameOf.{frame_of, shared_frame}
use Rattle.puffin_view.specs.inner.Ranks.{ranks_after, ranks_gone}
use Rattle.puffin_view.specs.View.FrameRanks.{rank_of}
use Rattle.puffin_view.specs.View.Ranking.{rank_index}
use Rattle.puffin_view.specs.inner.Store.{AreStored, frames_under}
use Rattle.puffin_view.proofs.JoiningPending.{known_as, none_past, stored_joined, pushed_rising, entered_in_order, entered_ranked, lets_as}
use Rattle.puffin_view.proofs.Storing.{stored_as, view_as}
use Rattle.puffin_view.proofs.profile_view.frame_view.FrameView.join.Goals as goal

abbrev frame : goal.After-cut_recent → Frame
frame c = shared_frame c.args.frame

abbrev before : goal.After-cut_recent → View
before c =
    let s = c.self.inside in
    record {
      recent = frames_under s.held s.recent.items;
      slow = frames_under s.held (map rank_index s.slow.items);
      last = s.last;
      max_recent = s.max_recent;
      max_slow = s.max_slow;
      packs = s.pack_frames;
    }

same : (c : goal.After-cut_recent) → before c ≡ view_of c.args.self.now
same c = ap view_of c.self.view_is

rank_is : (c : goal.After-cut_recent) → c.of-rank.result ≡ rank_of (frame c)
rank_is c = c.of-rank.ensures ∙ ap (λ f. rank_of (frame_of f)) c.deref.ensures

stored : (c : goal.After-cut_recent)
    → AreStored c.cut_recent.new.held c.cut_recent.new.recent.items c.enter_slow.new.slow.items
    (Some (index_of (frame c))) (joined_by (before c) (frame c)).recent (joined_by (before c) (frame c)).slow
stored c =
    let s = c.self.inside in
    stored_joined (before c) (frame c) s.held c.push.new.self s.recent.items c.push_back_reserved.new.self.items
    s.slow.items
    c.self.invariant (ap (λ v. is_past v (index_of (frame c))) (same c) ∙ c.requires) c.in_ok-push.ensures.ok
    (c.push_back_reserved.ensures.items ∙ ap (λ is. is ++ c.of-rank.result.frame_index ∷ [])
    c.in_ok-reserve.ensures.items ∙ ap (λ r. s.recent.items ++ rank_index r ∷ []) (rank_is c))
    c.enter_slow.new.held c.enter_slow.new.slow.items
    (c.enter_slow.ensures.slow ∙ ap (λ rs. ranks_after s.max_slow rs c.of-rank.result) c.in_ok-reserve-2.ensures.items
    ∙ ap (ranks_after s.max_slow s.slow.items) (rank_is c))
    (lets_as c.push.new.self c.enter_slow.new.held c.push_back_reserved.new.self.items
    c.push_back_reserved.new.self.items (map rank_index (ranks_gone s.max_slow c.reserve-2.new.self.items
    c.of-rank.result)) (map rank_index (ranks_gone s.max_slow s.slow.items (rank_of (frame c)))) refl
    (ap (λ rs. map rank_index (ranks_gone s.max_slow rs c.of-rank.result)) c.in_ok-reserve-2.ensures.items
    ∙ ap (λ r. map rank_index (ranks_gone s.max_slow s.slow.items r)) (rank_is c)) c.enter_slow.ensures.held)
    c.cut_recent.new.held c.cut_recent.new.recent.items
    c.cut_recent.ensures.recent
    (lets_as c.enter_slow.new.held c.cut_recent.new.held
    (map rank_index c.enter_slow.new.slow.items) (map rank_index c.enter_slow.new.slow.items)
    (take (length c.push_back_reserved.new.self.items - s.max_recent) c.push_back_reserved.new.self.items)
    (take (length c.push_back_reserved.new.self.items - s.max_recent) c.push_back_reserved.new.self.items) refl refl
    c.cut_recent.ensures.held)

pub invariant_of-self-2 : goal.invariant_of-self-2
invariant_of-self-2 c =
    let P : ℕ → Type 0 =
    λ i. AreStored c.cut_recent.new.held c.cut_recent.new.recent.items c.enter_slow.new.slow.items (Some i)
    (joined_by (before c) (frame c)).recent (joined_by (before c) (frame c)).slow in
    stored_as c.cut_recent.new.held c.cut_recent.new.recent.items c.enter_slow.new.slow.items
    (Some c.of-rank.result.frame_index) _ _ (subst P (sym (ap rank_index (rank_is c))) (stored c))

pub returns-clause-ok : goal.returns-clause-ok
returns-clause-ok c =
    let s = c.self.inside in
    let P : ℕ → Type 0 =
    λ i. AreStored c.cut_recent.new.held c.cut_recent.new.recent.items c.enter_slow.new.slow.items (Some i)
    (joined_by (before c) (frame c)).recent (joined_by (before c) (frame c)).slow in
    known_as _ _ _ _ c.self.view_is
    (view_as c.cut_recent.new.held c.cut_recent.new.recent.items c.enter_slow.new.slow.items
    (Some c.of-rank.result.frame_index) s.max_recent s.max_slow s.pack_frames (joined_by (before c) (frame c))
    (subst P (sym (ap rank_index (rank_is c))) (stored c)) (ap (λ r. Some (rank_index r)) (rank_is c)) refl refl refl
    ∙ ap (λ v. joined_by v (frame c)) (same c))

pub enter_slow-requires-clause-rising : goal.enter_slow-requires-clause-rising
enter_slow-requires-clause-rising c =
    let s = c.self.inside in
    let v : View = record {
      recent = frames_under s.held s.recent.items;
      slow = frames_under s.held (map rank_index
          s.slow.items);
      last = s.last;
      max_recent = s.max_recent;
      max_slow = s.max_slow;
      packs = s.pack_frames;
    } in
    let f : Frame = shared_frame c.args.frame in
    let rank : c.of-rank.result ≡ rank_of f = c.of-rank.ensures ∙ ap (λ f. rank_of (frame_of f)) c.deref.ensures in
    pushed_rising v f s.held c.push.new.self s.recent.items c.push_back_reserved.new.self.items s.slow.items
    c.self.invariant (ap (λ v. is_past v.frames (index_of f)) c.self.view_is ∙ c.requires) c.in_ok-push.ensures.ok
    (c.push_back_reserved.ensures.items ∙ ap (λ is. is ++ c.of-rank.result.frame_index ∷ [])
    c.in_ok-reserve.ensures.items ∙ ap (λ r. s.recent.items ++ rank_index r ∷ []) rank)

pub cut_recent-requires-clause-sorted : goal.cut_recent-requires-clause-sorted
cut_recent-requires-clause-sorted c =
    let s = c.self.inside in
    let v : View = record {
      recent = frames_under s.held s.recent.items;
      slow = frames_under s.held (map rank_index
          s.slow.items);
      last = s.last;
      max_recent = s.max_recent;
      max_slow = s.max_slow;
      packs = s.pack_frames;
    } in
    let f : Frame = shared_frame c.args.frame in
    let rank : c.of-rank.result ≡ rank_of f = c.of-rank.ensures ∙ ap (λ f. rank_of (frame_of f)) c.deref.ensures in
    entered_in_order v f s.held c.push.new.self s.recent.items c.push_back_reserved.new.self.items s.slow.items
    c.self.invariant (ap (λ v. is_past v.frames (index_of f)) c.self.view_is ∙ c.requires) c.in_ok-push.ensures.ok
    (c.push_back_reserved.ensures.items ∙ ap (λ is. is ++ c.of-rank.result.frame_index ∷ [])
    c.in_ok-reserve.ensures.items ∙ ap (λ r. s.recent.items ++ rank_index r ∷ []) rank)
    c.enter_slow.new.held c.enter_slow.new.slow.items
    (c.enter_slow.ensures.slow ∙ ap (λ rs. ranks_after s.max_slow rs c.of-rank.result) c.in_ok-reserve-2.ensures.items
    ∙ ap (ranks_after s.max_slow s.slow.items) rank)
    (lets_as c.push.new.self c.enter_slow.new.held c.push_back_reserved.new.self.items
    c.push_back_reserved.new.self.items (map rank_index (ranks_gone s.max_slow c.reserve-2.new.self.items
    c.of-rank.result)) (map rank_index (ranks_gone s.max_slow s.slow.items (rank_of f))) refl
    (ap (λ rs. map rank_index (ranks_gone s.max_slow rs c.of-rank.result)) c.in_ok-reserve-2.ensures.items
    ∙ ap (λ r. map rank_index (ranks_gone s.max_slow s.slow.items r)) rank) c.enter_slow.ensures.held)

pub cut_recent-requires-clause-ranked : goal.cut_recent-requires-clause-ranked
cut_recent-requires-clause-ranked c =
    let s = c.self.inside in
    let v : View = record {
      recent = frames_under s.held s.recent.items;
      slow = frames_under s.held (map rank_index
          s.slow.items);
      last = s.last;
      max_recent = s.max_recent;
      max_slow = s.max_slow;
      packs = s.pack_frames;
    } in
    let f : Frame = shared_frame c.args.frame in
    let rank : c.of-rank.result ≡ rank_of f = c.of-rank.ensures ∙ ap (λ f. rank_of (frame_of f)) c.deref.ensures in
    entered_ranked v f s.held c.push.new.self s.recent.items c.push_back_reserved.new.self.items s.slow.items
    c.self.invariant (ap (λ v. is_past v.frames (index_of f)) c.self.view_is ∙ c.requires) c.in_ok-push.ensures.ok
    (c.push_back_reserved.ensures.items ∙ ap (λ is. is ++ c.of-rank.result.frame_index ∷ [])
    c.in_ok-reserve.ensures.items ∙ ap (λ r. s.recent.items ++ rank_index r ∷ []) rank)
    c.enter_slow.new.held c.enter_slow.new.slow.items
    (c.enter_slow.ensures.slow ∙ ap (λ rs. ranks_after s.max_slow rs c.of-rank.result) c.in_ok-reserve-2.ensures.items
    ∙ ap (ranks_after s.max_slow s.slow.items) rank)
    (lets_as c.push.new.self c.enter_slow.new.held c.push_back_reserved.new.self.items
    c.push_back_reserved.new.self.items (map rank_index (ranks_gone s.max_slow c.reserve-2.new.self.items
    c.of-rank.result)) (map rank_index (ranks_gone s.max_slow s.slow.items (rank_of f))) refl
    (ap (λ rs. map rank_index (ranks_gone s.max_slow rs c.of-rank.result)) c.in_ok-reserve-2.ensures.items
    ∙ ap (λ r. map rank_index (ranks_gone s.max_slow s.slow.items r)) rank) c.enter_slow.ensures.held)

pub push-requires : goal.push-requires
push-requires c =
    let s = c.self.inside in
    let v : View = record {
      recent = frames_under s.held s.recent.items;
      slow = frames_under s.held (map rank_index
          s.slow.items);
      last = s.last;
      max_recent = s.max_recent;
      max_slow = s.max_slow;
      packs = s.pack_frames;
    } in
    let f : Frame = shared_frame c.args.frame in
    none_past v f s.held (fin.insert s.held (index_of f) f) s.recent.items (s.recent.items ++ index_of f ∷ [])
    s.slow.items c.self.invariant (ap (λ v. is_past v.frames (index_of f)) c.self.view_is ∙ c.requires) refl refl
