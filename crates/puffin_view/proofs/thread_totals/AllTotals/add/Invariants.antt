-- The totals have the streams in front of those that are left.
use Rattle.puffin_threads.specs.Thread.ThreadKey.{by_key}
use Rattle.puffin_view.proofs.ThreadsTotaled.{Added}
use Rattle.puffin_view.proofs.thread_totals.AllTotals.add.Given as goal

abbrev pub invariant-streams : goal.invariant-streams
invariant-streams l = Added (by_key l.initial.self.totals.entries) l.frame.thread_streams.entries l.thread-iterator
    (by_key l.self.totals.entries)
