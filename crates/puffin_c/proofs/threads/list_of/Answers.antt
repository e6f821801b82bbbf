-- A thread's row and name come behind those so far.
use Rattle.std.proofs.Common.{rules}
use Rattle.std.proofs.lemmas.Map.Iter.{rest_more}
use Rattle.std.specs.Map.{keys_of}
use Rattle.std.specs.Map.Iter.{deref_pair}
use Rattle.std.specs.List.Sorted.{IsStrictlySortedBy}
use Rattle.puffin_threads.specs.Thread.ThreadKey.{thread_cmp}
use Rattle.puffin_c.proofs.ThreadsCounted.{rows_more, names_more, rows_done, names_done}
use Rattle.puffin_c.proofs.threads.list_of.Goals as goal

pub threads-preserved : goal.threads-preserved
threads-preserved c =
    let left = rest_more deref_pair _ _ _ _ c.in-Some.is c.next.ensures.steps in
    let (rows_so_far, names_so_far) = c.threads.invariant in (
      rows_more _ _ _ _ _ _ _ _ _ left c.in_ok-push.ensures.rows c.in_ok-push.ensures.names rows_so_far,
      names_more _ _ _ _ _ _ _ left c.in_ok-push.ensures.names names_so_far,
    )

pub returns-clause-rows : goal.returns-clause-rows
returns-clause-rows c =
    let sorted : IsStrictlySortedBy thread_cmp (keys_of c.args.threads.now.totals.entries) = search rules in
    let (rows_so_far, names_so_far) = c.threads.invariant in
    rows_done _ _ _ _ c.in-None.ensures.steps.0 rows_so_far sorted

pub returns-clause-names : goal.returns-clause-names
returns-clause-names c =
    let sorted : IsStrictlySortedBy thread_cmp (keys_of c.args.threads.now.totals.entries) = search rules in
    let (rows_so_far, names_so_far) = c.threads.invariant in
    names_done _ _ _ c.in-None.ensures.steps.0 names_so_far sorted
