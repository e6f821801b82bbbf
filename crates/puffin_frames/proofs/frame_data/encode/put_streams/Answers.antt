-- One more of the map's entries is written; at the end all have been, and they are sorted as a map's entries are.
use Rattle.std.proofs.Common.{◌<◌, ◌^◌, length, ap, rules, arith}
use Rattle.std.proofs.lemmas.List.{length-map}
use Rattle.std.proofs.lemmas.Map.Iter.{rest_more}
use Rattle.std.specs.Map.{keys_of}
use Rattle.std.specs.Map.Iter.{deref_pair}
use Rattle.std.specs.List.Sorted.{IsStrictlySortedBy}
use Rattle.puffin_data.specs.Value.Layout.{pair}
use Rattle.puffin_threads.specs.Thread.ThreadKey.{thread_cmp}
use Rattle.puffin_frames.specs.inner.Pairs.{pairs_of}
use Rattle.puffin_frames.specs.Packet.Structs.{key_layout, facts_layout}
use Rattle.puffin_frames.proofs.Appending.{one_more, next_of, two, all_written}
use Rattle.puffin_frames.proofs.Listed.{listed-sorted}
use Rattle.puffin_frames.proofs.FormsOfAll.{Fits, stored_in, ordered_in}
use Rattle.puffin_frames.proofs.frame_data.encode.put_streams.Goals as goal

pub streams-preserved : goal.streams-preserved
streams-preserved c =
    let left = rest_more deref_pair _ _ _ _ c.in-Some.is c.next.ensures.steps in
    one_more (pair key_layout (facts_layout c.args.packed))
    Fits _ _ _ _ _ _
    (next_of _ _ _ _ _ _ _ (ap pairs_of left) c.streams.invariant)
    (two _ _ _ _ _ c.in_ok-put_thread.ensures.ok (rw c.deref.ensures at c.in_ok-put_facts.ensures.ok))
    (c.put_thread.ensures.fits, rw c.deref.ensures at c.put_facts.ensures.fits)

pub returns-clause-fit : goal.returns-clause-fit
returns-clause-fit c =
    let sorted : IsStrictlySortedBy thread_cmp (keys_of c.args.streams.now.entries) = search rules in
    let short : length (pairs_of c.args.streams.now.entries) < 2 ^ 64 =
    simp length-map (omega (arith, c.len.ensures.small, c.len.ensures.len)) in
    let last = next_of _ _ _ _ _ _ _ (ap pairs_of c.in-None.ensures.steps.0) c.streams.invariant in
    let pairs = pairs_of c.args.streams.now.entries in (
      (short, stored_in c.args.packed pairs c.requires (all_written _ _ _ _ _ last).1),
      ordered_in c.args.packed pairs c.requires (listed-sorted c.args.streams.now.entries sorted),
    )
