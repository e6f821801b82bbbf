-- A cut to none drops the frames that are in no other list.
use Rattle.std.proofs.Common.{refl, sym, ap, subst, ◌∙◌, []}
use Rattle.puffin_view.specs.View.{View, Holds}
use Rattle.puffin_view.specs.View.Known.{KnownView, view_of}
use Rattle.puffin_view.specs.inner.Store.{AreStored, frames_under}
use Rattle.puffin_view.proofs.JoiningPending.{slow_cut, known_as}
use Rattle.puffin_view.proofs.Searching.{stored_rising}
use Rattle.puffin_view.proofs.Taking.{Holds-emptied}
use Rattle.puffin_view.proofs.Storing.{stored_as, view_as}
use Rattle.puffin_view.proofs.profile_view.frame_view.FrameView.clear_slowest.Goals as goal

cut : (c : goal.After-cut_slow) → AreStored c.cut_slow.new.held c.self.inside.recent.items c.cut_slow.new.slow.items
    c.self.inside.last (frames_under c.self.inside.held c.self.inside.recent.items) []
cut c = slow_cut c.self.inside.held c.cut_slow.new.held c.self.inside.recent.items c.self.inside.slow.items
    c.cut_slow.new.slow.items c.self.inside.last 0 _ _ c.self.invariant c.cut_slow.ensures.held
    c.cut_slow.ensures.slow

pub invariant_of-self : goal.invariant_of-self
invariant_of-self c =
    stored_as c.cut_slow.new.held c.self.inside.recent.items c.cut_slow.new.slow.items c.self.inside.last _ [] (cut c)

pub returns-clause-frames : goal.returns-clause-frames
returns-clause-frames c =
    let s = c.self.inside in
    known_as _ _ _ _ c.self.view_is (view_as c.cut_slow.new.held s.recent.items c.cut_slow.new.slow.items s.last
    s.max_recent s.max_slow s.pack_frames
    (record {
      recent = frames_under s.held s.recent.items;
      slow = [];
      last = s.last;
      max_recent = s.max_recent;
      max_slow = s.max_slow;
      packs = s.pack_frames;
    }) (cut c) refl refl refl refl
    ∙ ap (λ (v : KnownView). record (view_of v) { slow = [] }) c.self.view_is)

pub returns-clause-holds : goal.returns-clause-holds
returns-clause-holds c cs ds h =
    let P : View → Type 0 = λ v. Holds cs [] v in
    subst P (sym (ap view_of (returns-clause-frames c)))
    (record { recent = h.recent; slow = (Holds-emptied (view_of c.args.self.now)).slow })

pub cut_slow-requires : goal.cut_slow-requires
cut_slow-requires c = stored_rising _ _ _ _ _ _ c.self.invariant
