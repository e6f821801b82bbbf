-- What contracts see of a reporter to a shared profiler, and of a view of its frames.
use Rattle.std.specs.Prelude.{ℕ}
use Rattle.puffin.specs.declared.global_profiler.global_frame_view.GlobalFrameView.{GlobalFrameView}
use Rattle.puffin.specs.declared.global_profiler.shared_reporter.SharedReporter.{SharedReporter}
use Rattle.puffin.specs.Members.{Member}

-- what the reporter's share counts and knows
abbrev pub share_of : {L M R I : Type 0} {F : I → Type 0} → SharedReporter L M R I F → Member
share_of reporter = reporter.share

-- the view's number among the profiler's sinks
abbrev pub sink_id_of : GlobalFrameView → ℕ
sink_id_of view = view.sink_id
