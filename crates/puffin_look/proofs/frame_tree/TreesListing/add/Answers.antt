-- What was shown is the frame's wanted threads.
--
-- The loop's invariant says which streams were shown, `left` that those that are left are the next one and the rest. The streams of a frame
-- are `sorted` by thread, so they are the entries of its map (`entries_held`).
use Rattle.std.proofs.Common.{rules, ◌≡◌, map, inl, inr, refl, ap, subst}
use Rattle.std.proofs.lemmas.Result.{err_from_is_err_and}
use Rattle.std.proofs.lemmas.Map.Iter.{rest_more}
use Rattle.std.specs.Map.{keys_of}
use Rattle.std.specs.Map.Iter.{deref_pair}
use Rattle.std.specs.List.Sorted.{IsStrictlySortedBy}
use Rattle.puffin_data.specs.Honesty.{StreamFacts, facts_of}
use Rattle.puffin_data.specs.Walk.{IsFault}
use Rattle.puffin_threads.specs.Thread.ThreadKey.{key_of, thread_cmp}
use Rattle.puffin_look.specs.OpenFrame.{open_of}
use Rattle.puffin_look.specs.inner.FrameTrees.{StepsTree}
use Rattle.puffin_view.proofs.lemmas.FrameStreams.{entry_of, entries_held}
use Rattle.puffin_look.proofs.TreesShown.{showing_at, showing_more, showing_unread, frame_shown, frame_unread}
use Rattle.puffin_look.proofs.frame_tree.TreesListing.add.Goals as goal

pub streams-init : goal.streams-init
streams-init c =
    let same : c.into_iter-thread-iterator.result ≡ c.args.frame.now.thread_streams.entries = search rules in
    showing_at _ _ _ (ap (map entry_of) same)

pub streams-preserved : goal.streams-preserved
streams-preserved c =
    let left = ap (map entry_of) (rest_more deref_pair _ _ _ _ c.in-Some.is c.next.ensures.steps) in
    showing_more _ _ _ _ _ _ _ left c.streams.invariant
    (subst (λ (r : StreamFacts). StepsTree c.streams.self c.add_stream.new.self (key_of c.in-Some.thread.now) r)
    (ap facts_of c.deref.ensures) c.in_ok-add_stream.ensures.ok)

pub returns-in_err-add_stream-clause-err : goal.returns-in_err-add_stream-clause-err
returns-in_err-add_stream-clause-err c =
    let (cause, is_err, same_cause) = err_from_is_err_and c.from_residual-in_err-add_stream.result
    c.from_residual-in_err-add_stream.ensures.1 in
    let sorted : IsStrictlySortedBy thread_cmp (keys_of c.args.frame.now.thread_streams.entries) = search rules in
    let left = ap (map entry_of) (rest_more deref_pair _ _ _ _ c.in-Some.is c.next.ensures.steps) in
    let fault_of = subst (λ (r : StreamFacts). IsFault r.form r.bytes c.in_err-add_stream.field-0.0) (ap facts_of c.deref.ensures) in
    rw (is_err, same_cause) (elim (c.in_err-add_stream.ensures.err) [
      | inl memory ↦ inl memory
      | inr (wanted, fault) ↦ inr (frame_unread c.args.self.now
          (open_of c.args.frame.now) _ _ (entries_held c.args.frame.now.thread_streams.entries sorted)
          (showing_unread _ _ _ _ _ _ _ left c.streams.invariant wanted (fault_of fault)))
    ])

pub returns-clause-ok : goal.returns-clause-ok
returns-clause-ok c =
    let sorted : IsStrictlySortedBy thread_cmp (keys_of c.args.frame.now.thread_streams.entries) = search rules in
    frame_shown c.args.self.now _ _ (open_of c.args.frame.now) _ _ c.in_ok-push_head.ensures refl refl refl refl
    (ap (map entry_of) c.in-None.ensures.steps.0) c.streams.invariant
    (entries_held c.args.frame.now.thread_streams.entries sorted)
