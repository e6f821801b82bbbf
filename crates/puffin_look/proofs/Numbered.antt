-- The numbers of threads in a trace.
use Rattle.std.proofs.Common.{◌≡◌, ℕ, ◌+◌, List, ◌++◌, length, Option, Some, None, Result, Ok, Err, refl, ap, sym, ◌∙◌, append-nil}
use Rattle.std.specs.Prelude.{IfOk}
use Rattle.std.specs.FinMap as tree
use Rattle.std.specs.Map.{keys_of}
use Rattle.std.specs.BTreeMap.{insert_entry}
use Rattle.std.specs.List.Sorted.{IsStrictlySortedBy}
use Rattle.std.proofs.lemmas.List.{length-map}
use Rattle.puffin_threads.specs.declared.thread_profiler.thread_info.ThreadInfo.{ThreadInfo}
use Rattle.puffin_threads.specs.Thread.ThreadKey.{ThreadKey, key_of, thread_cmp, by_key}
use Rattle.puffin_frames.proofs.lemmas.Keyed.{by_key-insert, entries-by_key}
use Rattle.puffin_look.specs.Trace.{number_or, number_of, numbered_or, naming_or}
use Rattle.puffin_look.specs.inner.Tracings.{NumbersThread, AddsThread}
use Rattle.puffin_look.specs.declared.trace.Trace.{Trace}

-- a thread that has a number keeps it, and no event is added
pub known_thread : (v : Trace) (key : ThreadKey) (tid : ℕ) → tree.get (by_key v.numbers.entries) key ≡ Some tid
    → (tid ≡ number_of (by_key v.numbers.entries) key) × AddsThread v v key
known_thread v key tid is =
    let numbers = by_key v.numbers.entries in (
      sym (ap (number_or numbers) is),
      record {
        text = sym (append-nil v.events.text.items) ∙ sym (ap (λ (o : Option ℕ). v.events.text.items ++ naming_or numbers key o) is);
        overview = refl;
        numbers = sym (ap (numbered_or numbers key) is);
      },
    )

-- a thread without one gets the next number, and an event with its name
pub new_thread : {E : Type 0} (v u : Trace) (key : ThreadKey) (r : Result ℕ E) → tree.get (by_key v.numbers.entries) key ≡ None
    → IfOk r (λ tid. (tid ≡ tree.len (by_key v.numbers.entries) + 1) × NumbersThread v u key tid)
    → IfOk r (λ tid. (tid ≡ number_of (by_key v.numbers.entries) key) × AddsThread v u key)
new_thread v u key (Ok tid) none (is_next, named) =
    let numbers = by_key v.numbers.entries in (
      is_next ∙ sym (ap (number_or numbers) none),
      record {
        text = named.text ∙ ap (λ (k : ℕ). v.events.text.items ++ Rattle.puffin_look.specs.Trace.thread_event k key) is_next
            ∙ sym (ap (λ (o : Option ℕ). v.events.text.items ++ naming_or numbers key o) none);
        overview = named.overview;
        numbers = named.numbers ∙ ap (tree.insert numbers key) is_next ∙ sym (ap (numbered_or numbers key) none);
      },
    )
new_thread v u key (Err e) none h = tt

-- how many threads have numbers
pub numbers_len : (es : List (ThreadInfo × ℕ)) → IsStrictlySortedBy thread_cmp (keys_of es) → tree.len (by_key es) ≡ length es
numbers_len es sorted = tree.len-entries (by_key es) ∙ ap length (entries-by_key es sorted) ∙ length-map es _

-- a number that is inserted under a copy of a thread is the thread's
pub thread_inserted : (old new : List (ThreadInfo × ℕ)) (copy thread : ThreadInfo) (tid : ℕ)
    → new ≡ insert_entry thread_cmp old copy tid → key_of copy ≡ key_of thread
    → by_key new ≡ tree.insert (by_key old) (key_of thread) tid
thread_inserted old new copy thread tid is same =
    ap by_key is ∙ by_key-insert old copy tid ∙ ap (λ (k : ThreadKey). tree.insert (by_key old) k tid) same
