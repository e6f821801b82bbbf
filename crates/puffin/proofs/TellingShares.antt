-- A frame that is handed out has what was due, and a share knows it.
use Rattle.std.proofs.Common.{◌≡◌, List, [], ◌∷◌, length, Some, None, refl, ap, subst, arith}
use Rattle.std.specs.Option.{unwrap_or}
use Rattle.std.specs.FinMap as map
use Rattle.std.specs.Arc.{arc_value}
use Rattle.std.specs.declared.sync.Arc.{Arc}
use Rattle.puffin_frames.specs.declared.frame_data.frame.FrameData.{FrameData}
use Rattle.puffin_frames.specs.Frame.Contents.{Streams, holding_of}
use Rattle.puffin_collector.specs.Collector.State.{Collected}
use Rattle.puffin_collector.specs.Collector.Collecting.{Collects}
use Rattle.puffin.specs.Happenings.{framed, History}
use Rattle.puffin.specs.Members.{Member, IsNewMember, Tells, unpacked_in}

-- what a frame has is what was pending
pub frame_due : {A : Type 0} (frame : Arc FrameData A) (old new : Collected) → Collects old (Some frame) new
    → holding_of (arc_value frame) ≡ record { packed = None; unpacked = Some old.streams }
frame_due frame old new collects = let (holds, _some_pending, _new_is) = collects in holds.held

-- the same, of its unpacked streams
pub unpacked_is : {A : Type 0} (frame : Arc FrameData A) (old new : Collected) → Collects old (Some frame) new
    → unpacked_in (arc_value frame) ≡ old.streams
unpacked_is frame old new collects =
    let (holds, _some_pending, _new_is) = collects in ap (λ x. unwrap_or x.unpacked map.empty) holds.held

-- and nothing is pending afterwards
pub none_pending : {A : Type 0} (frame : Arc FrameData A) (old new : Collected) → Collects old (Some frame) new
    → new.streams ≡ map.empty
none_pending frame old new collects =
    let (_holds, _some_pending, new_is) = collects in ap (λ (c : Collected). c.streams) new_is

-- what a share tells of a frame, it tells of the same streams
pub told_frame : (m new : Member) (a b : Streams) (before : History) → Tells m (framed a) before new → a ≡ b
    → Tells m (framed b) before new
told_frame m new a b before told is = subst (λ (s : Streams). Tells m (framed s) before new) is told

-- ---- a new share

pub none_in : {A : Type 0} (xs : List A) → length xs ≡ 0 → xs ≡ []
none_in [] none = refl
none_in (x ∷ xs) none = absurd (omega arith)

pub nothing_told : (m : Member) → IsNewMember m → m.own ≡ []
nothing_told m new = none_in m.own new.own
