-- The places that a selection sorts, as ranks.
use Rattle.puffin_view.specs.declared.profile_view.select.ByDuration.{ByDuration}
use Rattle.puffin_view.specs.View.Selection.{Rank}

-- a `ByDuration` of the code, as a rank
abbrev pub rank_by_duration : ByDuration → Rank
rank_by_duration at = record { duration = at.duration_ns.0; index = at.frame_index; place = at.place }
