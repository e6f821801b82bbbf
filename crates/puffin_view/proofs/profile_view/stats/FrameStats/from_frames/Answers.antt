-- The fold counts each frame of the run.
use Rattle.std.proofs.Common.{◌≡◌, rules, of_calls, [], ◌∙◌}
use Rattle.puffin_view.specs.View.Stats.{stats_of}
use Rattle.puffin_view.proofs.CountingPieces.{with_lent, counted}
use Rattle.puffin_view.proofs.profile_view.stats.FrameStats.from_frames.Goals as goal

pub returns : goal.returns
returns g c =
    let p = c.fold.ensures.runs in
    let none : c.default.result ≡ stats_of [] = search rules in
    (p.0, p.1, p.2, p.3 with_lent (λ s a r f k. search (rules, of_calls)) ∙ counted c.default.result p.0.items none)
