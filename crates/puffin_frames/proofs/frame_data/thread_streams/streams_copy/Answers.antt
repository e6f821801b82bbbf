-- One more entry is copied to the end of the copies.
use Rattle.std.proofs.Common.{rules}
use Rattle.std.specs.Map.{keys_of}
use Rattle.std.specs.Map.Iter.{deref_pair}
use Rattle.std.specs.List.Sorted.{IsStrictlySortedBy}
use Rattle.std.proofs.lemmas.Map.Iter.{rest_more}
use Rattle.puffin_threads.specs.Thread.ThreadKey.{thread_cmp}
use Rattle.puffin_frames.proofs.Listed.{copy_more}
use Rattle.puffin_frames.proofs.frame_data.thread_streams.streams_copy.Goals as goal

pub streams-preserved-in_ok-_before : goal.streams-preserved-in_ok-_before
streams-preserved-in_ok-_before c =
    let sorted : IsStrictlySortedBy thread_cmp (keys_of c.args.streams.now.entries) = search rules in
    let left = rest_more deref_pair _ _ _ _ c.in-Some.is c.next.ensures.steps in
    copy_more _ _ _ _ _ _ _ _ _ sorted c.streams.invariant left c.in_ok-clone.ensures.ok c.in_ok-try_clone.ensures
    c.in_ok-_before.ensures.entries

pub streams-preserved : goal.streams-preserved
streams-preserved c =
    let sorted : IsStrictlySortedBy thread_cmp (keys_of c.args.streams.now.entries) = search rules in
    let left = rest_more deref_pair _ _ _ _ c.in-Some.is c.next.ensures.steps in
    copy_more _ _ _ _ _ _ _ _ _ sorted c.streams.invariant left c.in_ok-clone.ensures.ok c.in_ok-try_clone.ensures
    c.in_ok-_before.ensures.entries
