-- What was traced is the frame.
--
-- The loop's invariant says which streams were traced, `left` that those that are left are the next one and the rest. The streams of a
-- frame are `sorted` by thread, so they are the entries of its map (`entries_held`).
use Rattle.std.proofs.Common.{rules, ◌≡◌, ◌++◌, map, inl, inr, refl, ap, subst, ◌∙◌, w64, arith}
use Rattle.std.proofs.lemmas.Int.{ints, to_z-of_z}
use Rattle.std.proofs.lemmas.Result.{err_from_is_err_and}
use Rattle.std.proofs.lemmas.Map.Iter.{rest_more}
use Rattle.std.specs.Map.{keys_of}
use Rattle.std.specs.Map.Iter.{deref_pair}
use Rattle.std.specs.List.Sorted.{IsStrictlySortedBy}
use Rattle.puffin_data.specs.Honesty.{StreamFacts, facts_of}
use Rattle.puffin_data.specs.Walk.{IsFault}
use Rattle.puffin_threads.specs.Thread.ThreadKey.{key_of, thread_cmp}
use Rattle.puffin_look.specs.OpenFrame.{open_of}
use Rattle.puffin_look.specs.Trace.{frame_event}
use Rattle.puffin_look.specs.inner.Tracings.{AddsStream}
use Rattle.puffin_view.proofs.lemmas.FrameStreams.{entry_of, entries_held}
use Rattle.puffin_look.proofs.Traced.{tracing_at, tracing_more, tracing_unread, frame_traced}
use Rattle.puffin_look.proofs.trace.TraceListing.add.Goals as goal

pub streams-init : goal.streams-init
streams-init c =
    let same : c.into_iter-thread-iterator.result ≡ c.args.frame.now.thread_streams.entries = search rules in
    tracing_at _ _ _ (ap (map entry_of) same)

pub streams-preserved : goal.streams-preserved
streams-preserved c =
    let left = ap (map entry_of) (rest_more deref_pair _ _ _ _ c.in-Some.is c.next.ensures.steps) in
    tracing_more _ _ _ _ _ _ _ left c.streams.invariant
    (subst (λ (r : StreamFacts). AddsStream c.streams.self c.add_stream.new.self (key_of c.in-Some.thread.now) r)
    (ap facts_of c.deref.ensures) c.in_ok-add_stream.ensures.ok)

pub returns-in_err-add_stream-clause-err : goal.returns-in_err-add_stream-clause-err
returns-in_err-add_stream-clause-err c =
    let (cause, is_err, same_cause) = err_from_is_err_and c.from_residual-in_err-add_stream.result
    c.from_residual-in_err-add_stream.ensures.1 in
    let sorted : IsStrictlySortedBy thread_cmp (keys_of c.args.frame.now.thread_streams.entries) = search rules in
    let left = ap (map entry_of) (rest_more deref_pair _ _ _ _ c.in-Some.is c.next.ensures.steps) in
    let fault_of = subst (λ (r : StreamFacts). IsFault r.form r.bytes c.in_err-add_stream.field-0.0) (ap facts_of c.deref.ensures) in
    rw (is_err, same_cause) (elim (c.in_err-add_stream.ensures.err) [
      | inl memory ↦ inl memory
      | inr fault ↦ inr (tracing_unread _ _ _ _ _ _ (open_of c.args.frame.now) _ left c.streams.invariant
          (entries_held c.args.frame.now.thread_streams.entries sorted) (fault_of fault))
    ])

pub returns-clause-ok : goal.returns-clause-ok
returns-clause-ok c =
    let sorted : IsStrictlySortedBy thread_cmp (keys_of c.args.frame.now.thread_streams.entries) = search rules in
    let origin = to_z-of_z w64 c.args.self.now.events.overview.now.start (omega (arith, ints)) in
    let text = c.in_ok-push_frame.ensures ∙ (λ i. c.args.self.now.events.text.items ++ frame_event (origin i) c.args.frame.now.meta) in
    frame_traced c.args.self.now
    (record c.args.self.now { events = record c.args.self.now.events { text = c.push_frame.new.text } })
    _ (open_of c.args.frame.now) _ _ text refl refl (ap (map entry_of) c.in-None.ensures.steps.0) c.streams.invariant
    (entries_held c.args.frame.now.thread_streams.entries sorted)
