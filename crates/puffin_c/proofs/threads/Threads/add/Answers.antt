-- The frame's streams are added one after the other, in the order of their threads.
use Rattle.std.proofs.Common.{rules, ap, ◌∙◌}
use Rattle.std.proofs.lemmas.Map.Iter.{rest_more}
use Rattle.std.specs.Map.{keys_of}
use Rattle.std.specs.Map.Iter.{deref_pair}
use Rattle.std.specs.List.Sorted.{IsStrictlySortedBy}
use Rattle.puffin_data.specs.Honesty.{facts_of}
use Rattle.puffin_threads.specs.Thread.ThreadKey.{by_key, key_of, thread_cmp}
use Rattle.puffin_c.specs.Threads.{with_stream}
use Rattle.puffin_c.proofs.ThreadsCounted.{add_more, all_added}
use Rattle.puffin_c.proofs.threads.Threads.add.Goals as goal

pub streams-preserved : goal.streams-preserved
streams-preserved c =
    let left = rest_more deref_pair _ _ _ _ c.in-Some.is c.next.ensures.steps in
    add_more _ _ _ _ _ _ left
    (c.in_ok-add_stream.ensures.ok
    ∙ ap (λ i. with_stream (by_key c.streams.self.totals.entries) (key_of c.in-Some.thread.now, facts_of i))
    c.deref.ensures) c.streams.invariant

pub returns-clause-ok : goal.returns-clause-ok
returns-clause-ok c =
    let sorted : IsStrictlySortedBy thread_cmp (keys_of c.args.frame.now.thread_streams.entries) = search rules in
    all_added _ _ _ _ c.in-None.ensures.steps.0 c.streams.invariant sorted
