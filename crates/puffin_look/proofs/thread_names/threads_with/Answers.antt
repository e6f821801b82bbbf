-- The threads so far that the word names, and in the end all of them.
use Rattle.std.proofs.Common.{rules}
use Rattle.std.specs.Map.{keys_of}
use Rattle.std.specs.List.Sorted.{IsStrictlySortedBy}
use Rattle.puffin_threads.specs.Thread.ThreadKey.{thread_cmp}
use Rattle.puffin_look.proofs.ThreadsNamed.{found_all}
use Rattle.puffin_look.proofs.thread_names.threads_with.Goals as goal

pub returns-clause-ok : goal.returns-clause-ok
returns-clause-ok c =
    let sorted : IsStrictlySortedBy thread_cmp (keys_of c.args.threads.now.totals.entries) = search rules in
    found_all _ _ _ _ c.in-None.ensures.steps.0 c.threads.invariant sorted
