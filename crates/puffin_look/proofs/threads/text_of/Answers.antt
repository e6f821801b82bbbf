-- The lines are those of the threads, one after the other.
use Rattle.std.proofs.Common.{rules}
use Rattle.std.proofs.lemmas.Map.Iter.{rest_more}
use Rattle.std.proofs.lemmas.Result.{IfOk-weaker}
use Rattle.std.specs.Map.{keys_of}
use Rattle.std.specs.Map.Iter.{deref_pair}
use Rattle.std.specs.List.Sorted.{IsStrictlySortedBy}
use Rattle.puffin_threads.specs.Thread.ThreadKey.{thread_cmp}
use Rattle.puffin_look.proofs.ThreadsLined.{line_more, lines_done}
use Rattle.puffin_look.proofs.threads.text_of.Goals as goal

pub threads-preserved : goal.threads-preserved
threads-preserved c =
    let left = rest_more deref_pair _ _ _ _ c.in-Some.is c.next.ensures.steps in
    line_more c.args.form _ _ _ _ _ _ _ left c.in_ok-push_row.ensures c.threads.invariant

pub returns : goal.returns
returns c =
    let sorted : IsStrictlySortedBy thread_cmp (keys_of c.args.threads.now.totals.entries) = search rules in
    IfOk-weaker c.closed.result
    _ _ (λ text is. lines_done c.args.form _ text.items _ _ c.in-None.ensures.steps.0 c.threads.invariant is sorted)
    c.closed.ensures
