-- A thread above all before it goes to the end of the map, so what was read so far is the front of what the reading gives.
use Rattle.std.proofs.Common.{◌≡◌, ◌++◌, ◌∷◌, [], true, ap, ◌∙◌}
use Rattle.std.specs.Arc.{arc_value}
use Rattle.std.specs.FinMap.{is_sorted}
use Rattle.puffin_data.specs.Honesty.{StreamFacts, facts_of}
use Rattle.puffin_data.specs.Value.Decoding.{times_at}
use Rattle.puffin_data.proofs.lemmas.Loops.{one_more}
use Rattle.puffin_threads.specs.Thread.ThreadKey.{key_of, key_cmp}
use Rattle.puffin_frames.specs.Packet.Structs.{stream_at}
use Rattle.puffin_frames.specs.inner.Pairs.{pairs_of}
use Rattle.puffin_frames.proofs.Listed.{insert-last, listed-push}
use Rattle.puffin_frames.proofs.frame_data.decode.read_counted_streams.Goals as goal

pub streams-preserved : goal.streams-preserved
streams-preserved c =
    let es = c.streams.streams.entries in
    let k = c.in_ok-thread.thread in
    let a = c.in_ok-new.field-0 in
    let sorted : is_sorted key_cmp (pairs_of es ++ (key_of k, facts_of (arc_value a)) ∷ []) ≡ true = c.comes_last.ensures.yes (facts_of (arc_value a)) c.streams.invariant.sorted c.if-not-comes_last.false in
    let pushed = ap pairs_of (c.in_ok-_before.ensures.entries ∙ insert-last es k a (facts_of (arc_value a)) [] sorted) ∙ listed-push es k a in
    let whole : pairs_of c.insert.new.self.entries ≡ pairs_of es ++ (key_of k, facts_of c.in_ok-thread.info) ∷ [] =
    pushed ∙ ap (λ (r : StreamFacts). pairs_of es ++ (key_of k, r) ∷ []) (ap facts_of c.in_ok-new.ensures.ok) in
    record {
      so_far = rw whole (one_more (stream_at c.args.packed) (pairs_of es) c.args.count c.streams.counter c.streams.cursor (key_of k, facts_of c.in_ok-thread.info) c.read_stream.new.cursor (times_at (stream_at c.args.packed) c.args.count c.args.cursor.now) c.streams-test.true c.in_ok-thread.ensures c.streams.invariant.so_far);
      sorted = rw pushed sorted;
    }
