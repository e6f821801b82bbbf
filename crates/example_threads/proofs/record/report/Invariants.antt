-- The texts so far are reported, a scope each.
use Rattle.std.proofs.Common.{◌≡◌, take, string_bytes}
use Rattle.example_threads.specs.Recorded.{texts_of}
use Rattle.example_threads.proofs.Opening.{HasOpened}
use Rattle.example_threads.proofs.record.report.Given as goal

abbrev pub invariant-loop-text : goal.invariant-loop-text
invariant-loop-text g l = (l.id ≡ 7)
    × HasOpened l.thread.state l.reporter.share (string_bytes l.job.name) (take l.text-index (texts_of l.job))
