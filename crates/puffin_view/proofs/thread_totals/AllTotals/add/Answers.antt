-- The loop has added the streams so far, in the order of their threads.
use Rattle.std.proofs.Common.{[], rules, refl, ap, subst, sym, ◌∙◌}
use Rattle.std.proofs.lemmas.Map.Iter.{rest_more}
use Rattle.std.proofs.lemmas.Result.{err_from_is_err_and}
use Rattle.std.specs.Map.{keys_of}
use Rattle.std.specs.Map.Iter.{deref_pair}
use Rattle.std.specs.List.Sorted.{IsStrictlySortedBy}
use Rattle.puffin_data.specs.Honesty.{facts_of}
use Rattle.puffin_threads.specs.Thread.ThreadKey.{by_key, key_of, thread_cmp}
use Rattle.puffin_view.specs.ThreadTotals.{with_stream, HasSome}
use Rattle.puffin_frames.specs.Frame.Contents.{streams_held}
use Rattle.puffin_view.proofs.ThreadsTotaled.{one_added, all_added, some_added}
use Rattle.puffin_view.proofs.thread_totals.AllTotals.add.Goals as goal

pub streams-init : goal.streams-init
streams-init c = record { before = []; whole = search rules; totals = refl }

pub streams-preserved : goal.streams-preserved
streams-preserved c =
    let left = rest_more deref_pair _ _ _ _ c.in-Some.is c.next.ensures.steps in
    one_added _ _ _ _ _ _ _ left (c.in_ok-add_stream.ensures.ok
    ∙ ap (λ i. with_stream (by_key c.streams.self.totals.entries) (key_of c.in-Some.thread.now, facts_of i))
    c.deref.ensures) c.streams.invariant

pub returns-clause-ok : goal.returns-clause-ok
returns-clause-ok c =
    let sorted : IsStrictlySortedBy thread_cmp (keys_of c.args.frame.now.thread_streams.entries) = search rules in
    all_added _ _ _ _ c.in-None.ensures.steps.0 c.streams.invariant sorted

pub returns-in_err-add_stream-clause-err : goal.returns-in_err-add_stream-clause-err
returns-in_err-add_stream-clause-err c =
    let sorted : IsStrictlySortedBy thread_cmp (keys_of c.args.frame.now.thread_streams.entries) = search rules in
    let answer = err_from_is_err_and c.from_residual.result c.from_residual.ensures.1 in
    rw answer.1 (subst (λ es. HasSome (by_key c.args.self.now.totals.entries) (streams_held c.args.frame.now)
    (by_key es)) (sym c.in_err-add_stream.ensures.err) (some_added _ _ _ _ c.streams.invariant sorted))
