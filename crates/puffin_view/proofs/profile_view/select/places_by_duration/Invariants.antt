use Rattle.std.proofs.Common.{◌≡◌, ◌++◌, map, drop}
use Rattle.puffin_view.specs.View.FrameOf.{frames_of}
use Rattle.puffin_view.specs.View.Selection.{ranks_from}
use Rattle.puffin_view.specs.inner.Selections.{rank_by_duration}
use Rattle.puffin_view.proofs.profile_view.select.places_by_duration.Given as goal

abbrev pub invariant-frames : goal.invariant-frames
invariant-frames l = map rank_by_duration l.places.items ++ ranks_from l.place (drop l.place (frames_of l.frames))
    ≡ ranks_from 0 (frames_of l.frames)
