-- What was made is the frame.
--
-- The loop's invariant says which streams were made, `left` that those that are left are the next one and the rest. The streams of a frame
-- are `sorted` by thread, so they are the entries of its map (`entries_held`).
use Rattle.std.proofs.Common.{rules, ◌≡◌, List, ℕ, map, ◌++◌, inl, inr, ap, subst, sym, ◌∙◌, w64, arith}
use Rattle.std.proofs.lemmas.Int.{ints, to_z-of_z}
use Rattle.std.proofs.lemmas.Result.{err_from_is_err_and}
use Rattle.std.proofs.lemmas.Map.Iter.{rest_more}
use Rattle.std.specs.Map.{keys_of}
use Rattle.std.specs.Map.Iter.{deref_pair}
use Rattle.std.specs.List.Sorted.{IsStrictlySortedBy}
use Rattle.puffin_data.specs.Forest.{Forest}
use Rattle.puffin_data.specs.Forest.Spelling.{Spells}
use Rattle.puffin_data.specs.Honesty.{StreamFacts, facts_of}
use Rattle.puffin_data.specs.Walk.{IsFault}
use Rattle.puffin_threads.specs.Thread.ThreadKey.{key_of, thread_cmp}
use Rattle.puffin_look.specs.Trees.{Entry, AreUnread}
use Rattle.puffin_look.specs.Page.{head_json, thread_json}
use Rattle.puffin_look.specs.inner.Pages.{HasMoreRows}
use Rattle.puffin_view.proofs.lemmas.FrameStreams.{entry_of, entries_held}
use Rattle.puffin_look.proofs.PagesMade.{making_at, making_more, making_unread, frame_made}
use Rattle.puffin_look.proofs.page.json_of.Goals as goal

pub streams-init : goal.streams-init
streams-init c =
    let same : c.into_iter-thread-iterator.result ≡ c.args.frame.now.thread_streams.entries = search rules in
    let head = c.in_ok-push_head.ensures ∙ ap (λ (t : List ℕ). t ++ head_json c.args.frame.now.meta) c.new.ensures.items in
    making_at c.args.frame.now.meta
    _ _ _ head (to_z-of_z w64 c.args.frame.now.meta.range_ns.0 (omega (arith, ints))) (ap (map entry_of) same)

pub streams-preserved : goal.streams-preserved
streams-preserved c =
    let left = ap (map entry_of) (rest_more deref_pair _ _ _ _ c.in-Some.is c.next.ensures.steps) in
    let (forest, spells, rows) = subst
    (λ (r : StreamFacts). (f : Forest) × Spells r.form r.bytes f × HasMoreRows c.streams.rows c.add_stream.new.self
    (thread_json c.streams.rows.begin (key_of c.in-Some.thread.now, f))) (ap facts_of c.deref.ensures)
    c.in_ok-add_stream.ensures.ok in
    making_more c.args.frame.now.meta _ _ _ _ _ _ forest left c.streams.invariant spells rows

pub returns-in_err-add_stream-clause-err : goal.returns-in_err-add_stream-clause-err
returns-in_err-add_stream-clause-err c =
    let (cause, is_err, same_cause) = err_from_is_err_and c.from_residual-in_err-add_stream.result
    c.from_residual-in_err-add_stream.ensures.1 in
    let sorted : IsStrictlySortedBy thread_cmp (keys_of c.args.frame.now.thread_streams.entries) = search rules in
    let left = ap (map entry_of) (rest_more deref_pair _ _ _ _ c.in-Some.is c.next.ensures.steps) in
    let fault_of = subst (λ (r : StreamFacts). IsFault r.form r.bytes c.in_err-add_stream.field-0.0) (ap facts_of c.deref.ensures) in
    rw (is_err, same_cause) (elim (c.in_err-add_stream.ensures.err) [
      | inl memory ↦ inl memory
      | inr fault ↦ inr (subst (λ (es : List Entry). AreUnread es c.in_err-add_stream.field-0.0)
          (sym (entries_held c.args.frame.now.thread_streams.entries sorted))
          (making_unread c.args.frame.now.meta _ _ _ _ _ _ left c.streams.invariant (fault_of fault)))
    ])

pub returns-clause-ok : goal.returns-clause-ok
returns-clause-ok c =
    let sorted : IsStrictlySortedBy thread_cmp (keys_of c.args.frame.now.thread_streams.entries) = search rules in
    frame_made c.args.frame.now.meta _ _ _ _ _ (ap (map entry_of) c.in-None.ensures.steps.0) c.streams.invariant
    (entries_held c.args.frame.now.thread_streams.entries sorted) c.in_ok-extend_from_slice.ensures.items
