use Rattle.std.proofs.Common.{◌≡◌, ◌++◌, map, drop, filter_map, slice_get}
use Rattle.puffin_view.specs.View.FrameOf.{frames_of}
use Rattle.puffin_view.specs.View.Selection.{rank_by_index}
use Rattle.puffin_view.proofs.profile_view.select.frames_at.Given as goal

abbrev pub invariant-loop-chosen : goal.invariant-loop-chosen
invariant-loop-chosen l = frames_of l.all.items
    ++ filter_map (λ r. slice_get (frames_of l.frames) r.place) (map rank_by_index (drop l.chosen-index l.places))
    ≡ filter_map (λ r. slice_get (frames_of l.frames) r.place) (map rank_by_index l.places)
