-- The threads found so far and those named among the threads that are left are all that are named.
use Rattle.std.proofs.Common.{◌≡◌, ◌++◌, map, filter}
use Rattle.puffin_threads.specs.Thread.ThreadKey.{key_of, key_entries}
use Rattle.puffin_look.specs.ThreadNames.{is_named}
use Rattle.puffin_look.proofs.thread_names.threads_with.Given as goal

abbrev pub invariant-threads : goal.invariant-threads
invariant-threads l =
    map key_of l.found.items ++ filter (is_named l.naming l.word) (map (λ e. e.0) (key_entries l.thread-iterator))
    ≡ filter (is_named l.naming l.word) (map (λ e. e.0) (key_entries l.threads.totals.entries))
