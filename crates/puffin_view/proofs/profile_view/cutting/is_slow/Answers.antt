-- A frame is slow exactly if its own rank is among the ranks.
use Rattle.std.proofs.Common.{◌∙◌, sym, ap, refl, rules, FitsSigned, w64}
use Rattle.std.proofs.lemmas.Int.{to_z-of_z}
use Rattle.puffin_view.specs.View.ViewedFrames.{duration_of}
use Rattle.puffin_view.specs.View.FrameOf.{frame_of, shared_frame}
use Rattle.puffin_view.proofs.Searching.{any_at_index, none_at_index}
use Rattle.puffin_view.proofs.profile_view.cutting.is_slow.Goals as goal

pub returns-in-Some : goal.returns-in-Some
returns-in-Some c =
    let fits : FitsSigned w64 c.duration_ns.result = search rules in
    c.is_among.ensures
    ∙ any_at_index c.args.held.now (shared_frame c.in-Some.frame.now) c.args.index _ c.args.slow.now.items
    c.requires.ranked (sym c.in-Some.ensures) (to_z-of_z w64 c.duration_ns.result fits ∙ c.duration_ns.ensures
    ∙ ap (λ f. duration_of (frame_of f)) c.deref.ensures) refl

pub returns-in-None : goal.returns-in-None
returns-in-None c =
    none_at_index c.args.held.now c.args.index c.args.slow.now.items c.requires.ranked (sym c.in-None.ensures)
