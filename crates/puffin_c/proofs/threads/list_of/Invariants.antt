-- The rows and names so far and those of the threads that are left are all of them.
use Rattle.puffin_threads.specs.Thread.ThreadKey.{key_entries}
use Rattle.puffin_c.specs.Threads.{thread_rows, thread_names}
use Rattle.puffin_c.proofs.ThreadsCounted.{AllRows, AllNames}
use Rattle.puffin_c.proofs.threads.list_of.Given as goal

abbrev pub invariant-threads : goal.invariant-threads
invariant-threads l =
    AllRows l.list.rows.items l.list.names.items l.thread-iterator (thread_rows 0 (key_entries l.threads.totals.entries))
    × AllNames l.list.names.items l.thread-iterator (thread_names (key_entries l.threads.totals.entries))
