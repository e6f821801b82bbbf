-- The totals of threads, stream by stream.
use Rattle.std.proofs.Common.{◌≡◌, List, [], ◌∷◌, ◌++◌, map, Option, Some, None, refl, ap, sym, ◌∙◌, append_assoc, append-nil}
use Rattle.std.proofs.lemmas.List.{map-append}
use Rattle.std.proofs.lemmas.List.Sums.{fold_push}
use Rattle.std.specs.Prelude.{fold, unwrap_or}
use Rattle.std.specs.Option.{option_map}
use Rattle.std.specs.FinMap as tree
use Rattle.std.specs.Map.{keys_of, lookup}
use Rattle.std.specs.BTreeMap.{is_at, insert_entry}
use Rattle.std.specs.List.Sorted.{IsStrictlySortedBy}
use Rattle.puffin_data.specs.Honesty.{StreamFacts}
use Rattle.puffin_threads.specs.declared.thread_profiler.thread_info.ThreadInfo.{ThreadInfo}
use Rattle.puffin_threads.specs.Thread.ThreadKey.{key_of, key_cmp, thread_cmp, by_key}
use Rattle.puffin_threads.proofs.lemmas.ThreadKeys.{key_cmp_total}
use Rattle.puffin_threads.proofs.lemmas.EntriesSeen.{get-seen}
use Rattle.puffin_frames.specs.Frame.Contents.{shared_streams}
use Rattle.puffin_frames.proofs.lemmas.Keyed.{by_key-insert}
use Rattle.puffin_view.specs.declared.thread_totals.ThreadTotals.{ThreadTotals}
use Rattle.puffin_view.specs.ThreadTotals.{Totals, no_totals, totals_with, with_stream, HasSome}
use Rattle.puffin_view.proofs.lemmas.FrameStreams.{Held, entry_of, entries_held}

same_option : {X : Type 0} (o : Option X) → option_map (λ x. x) o ≡ o
same_option None = refl
same_option (Some x) = refl

-- what a map of threads has under a thread
pub got : {X : Type 0} (es : List (ThreadInfo × X)) (thread : ThreadInfo) (o : Option X)
    → o ≡ lookup (is_at (thread_cmp thread)) es → tree.get (by_key es) (key_of thread) ≡ o
got es thread o is = get-seen key_of (λ x. x) key_cmp key_cmp_total es (key_of thread) ∙ same_option _ ∙ sym is

-- one stream more
pub stream_added : (old new : List (ThreadInfo × ThreadTotals)) (copy thread : ThreadInfo)
    (before after : ThreadTotals) (r : StreamFacts) → new ≡ insert_entry thread_cmp old copy after
    → key_of copy ≡ key_of thread
    → before ≡ unwrap_or (tree.get (by_key old) (key_of thread)) no_totals → after ≡ totals_with before r
    → by_key new ≡ with_stream (by_key old) (key_of thread, r)
stream_added old new copy thread before after r is same had with =
    ap by_key is ∙ by_key-insert old copy after ∙ (λ i. tree.insert (by_key old) (same i) (with i))
    ∙ ap (λ (t : ThreadTotals). tree.insert (by_key old) (key_of thread) (totals_with t r)) had

-- the totals have the streams in front of those that are left
pub record Added (old : Totals) (all left : List Held) (new : Totals) : Type 0 where
  pub before : List Held
  pub whole : all ≡ before ++ left
  pub totals : new ≡ fold with_stream old (map entry_of before)

-- one more stream was added
pub one_added : (old mid new : Totals) (all left rest : List Held) (e : Held) → left ≡ e ∷ rest
    → new ≡ with_stream mid (entry_of e) → Added old all left mid → Added old all rest new
one_added old mid new all left rest e is step added = record {
  before = added.before ++ e ∷ [];
  whole = added.whole ∙ ap (λ (es : List Held). added.before ++ es) is ∙ sym (append_assoc added.before (e ∷ []) rest);
  totals = step
      ∙ ap (λ (m : Totals). with_stream m (entry_of e)) added.totals
      ∙ sym (ap (fold with_stream old) (map-append entry_of added.before (e ∷ []))
      ∙ fold_push with_stream old (map entry_of added.before) (entry_of e));
}

-- all streams of the frame were added
pub all_added : (old new : Totals) (all left : List Held) → left ≡ [] → Added old all left new
    → IsStrictlySortedBy thread_cmp (keys_of all) → new ≡ fold with_stream old (tree.entries (shared_streams all))
all_added old new all left none added sorted =
    let whole : all ≡ added.before =
    added.whole ∙ ap (λ (es : List Held). added.before ++ es) none ∙ append-nil added.before in
    added.totals ∙ ap (λ (es : List Held). fold with_stream old (map entry_of es)) (sym whole)
    ∙ ap (fold with_stream old) (sym (entries_held all sorted))

-- the streams so far were added, and the others not
pub some_added : (old new : Totals) (all left : List Held) → Added old all left new
    → IsStrictlySortedBy thread_cmp (keys_of all) → HasSome old (shared_streams all) new
some_added old new all left added sorted = (
  map entry_of added.before,
  map entry_of left,
  entries_held all sorted ∙ ap (map entry_of) added.whole ∙ map-append entry_of added.before left,
  added.totals,
)
