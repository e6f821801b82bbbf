-- The frames that are held are those of both lists, each once.
use Rattle.std.proofs.Common.{ap, ◌∙◌}
use Rattle.std.specs.FinMap as fin
use Rattle.puffin_view.specs.View.Stats.{stats_of}
use Rattle.puffin_view.specs.View.{all_uniq}
use Rattle.puffin_view.proofs.Storing.{held_whole}
use Rattle.puffin_view.proofs.profile_view.frame_view.FrameView.stats.Goals as goal

pub returns : goal.returns
returns c =
    let s = c.self.inside in
    c.stats.ensures ∙ ap
    (λ m. stats_of (fin.values m)) (held_whole s.held s.recent.items s.slow.items s.last _ _ c.self.invariant)
    ∙ ap (λ v. stats_of (all_uniq v.frames)) c.self.view_is
