-- A thread's stream comes behind those so far, with its name before its bytes.
use Rattle.std.proofs.Common.{rules, ap, ◌∙◌, ◌++◌, ◌∷◌, [], length}
use Rattle.std.proofs.lemmas.Map.Iter.{rest_more}
use Rattle.std.specs.Map.{keys_of}
use Rattle.std.specs.Map.Iter.{deref_pair}
use Rattle.std.specs.List.Sorted.{IsStrictlySortedBy}
use Rattle.puffin_data.specs.Honesty.{facts_of}
use Rattle.puffin_threads.specs.Thread.ThreadKey.{key_of, thread_cmp}
use Rattle.puffin_c.specs.Lists.{stream_row, stream_bytes}
use Rattle.puffin_c.proofs.StreamLists.{rows_more, bytes_more, rows_done, bytes_done}
use Rattle.puffin_c.proofs.streams.list_of.Goals as goal

pub streams-preserved : goal.streams-preserved
streams-preserved c =
    let left = rest_more deref_pair _ _ _ _ c.in-Some.is c.next.ensures.steps in
    let longer = c.in_ok-push.ensures.bytes
    ∙ ap (λ i. c.streams.list.bytes.items ++ stream_bytes (key_of c.in-Some.thread.now, facts_of i))
    c.deref.ensures in
    let row = c.in_ok-push.ensures.rows
    ∙ ap (λ i. c.streams.list.rows.items
    ++ stream_row (length c.streams.list.bytes.items) (key_of c.in-Some.thread.now, facts_of i) ∷ [])
    c.deref.ensures in
    let (rows_so_far, bytes_so_far) = c.streams.invariant in (
      rows_more _ _ _ _ _ _ _ _ left row longer rows_so_far,
      bytes_more _ _ _ _ _ _ left longer bytes_so_far,
    )

pub returns-clause-rows : goal.returns-clause-rows
returns-clause-rows c =
    let sorted : IsStrictlySortedBy thread_cmp (keys_of c.args.frame.now.thread_streams.entries) = search rules in
    let (rows_so_far, bytes_so_far) = c.streams.invariant in
    rows_done _ _ _ _ c.in-None.ensures.steps.0 rows_so_far sorted

pub returns-clause-bytes : goal.returns-clause-bytes
returns-clause-bytes c =
    let sorted : IsStrictlySortedBy thread_cmp (keys_of c.args.frame.now.thread_streams.entries) = search rules in
    let (rows_so_far, bytes_so_far) = c.streams.invariant in
    bytes_done _ _ _ c.in-None.ensures.steps.0 bytes_so_far sorted
