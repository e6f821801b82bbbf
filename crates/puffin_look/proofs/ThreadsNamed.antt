-- Threads that are found by their names.
use Rattle.std.proofs.Common.{◌≡◌, Bool, false, ℕ, List, [], ◌++◌, map, filter, Option, Result, ap, sym, ◌∙◌, append-nil}
use Rattle.std.specs.Map.{keys_of}
use Rattle.std.specs.List.Sorted.{IsStrictlySortedBy}
use Rattle.std.specs.FinMap as tree
use Rattle.puffin_data.specs.declared.file_error.FileError.{FileError}
use Rattle.puffin_threads.specs.declared.thread_profiler.thread_info.ThreadInfo.{ThreadInfo}
use Rattle.puffin_threads.specs.Thread.ThreadKey.{ThreadKey, thread_cmp, by_key, key_entries}
use Rattle.puffin_frames.proofs.lemmas.Keyed.{entries-by_key}
use Rattle.puffin_view.specs.declared.thread_totals.ThreadTotals.{ThreadTotals}
use Rattle.puffin_view.specs.declared.thread_totals.AllTotals.{AllTotals}
use Rattle.puffin_view.specs.ThreadTotals.{Totals}
use Rattle.puffin_look.specs.ThreadNames.{threads_named, AreNamed}
use Rattle.puffin_look.specs.inner.Taken.{fails_outside}
use Rattle.puffin_look.proofs.ThreadsPrinted.{Ends, read_to_end}

abbrev Entry : Type 0
Entry = ThreadInfo × ThreadTotals

abbrev keys_in : List Entry → List ThreadKey
keys_in es = map (λ e. e.0) (key_entries es)

-- nothing is left to look at
pub found_all : (f : ThreadKey → Bool) (found : List ThreadKey) (all it : List Entry) → it ≡ []
    → found ++ filter f (keys_in it) ≡ filter f (keys_in all) → IsStrictlySortedBy thread_cmp (keys_of all)
    → found ≡ filter f (map (λ e. e.0) (tree.entries (by_key all)))
found_all f found all it none so_far sorted =
    sym (append-nil found) ∙ sym (ap (λ (es : List Entry). found ++ filter f (keys_in es)) none) ∙ so_far
    ∙ ap (λ (es : List (ThreadKey × ThreadTotals)). filter f (map (λ e. e.0) es)) (sym (entries-by_key all sorted))

module _ (old new : AllTotals) (unread left before mid : Option (List ℕ)) (empty : by_key old.totals.entries ≡ tree.empty)
    (word : List ℕ) (found : List ThreadKey)
    (is : found ≡ threads_named word (map (λ e. e.0) (tree.entries (by_key new.totals.entries)))) where
  -- found among the threads of these totals
  named_in : (totals : Totals) → by_key new.totals.entries ≡ totals → found ≡ threads_named word (map (λ e. e.0) (tree.entries totals))
  named_in totals same = is ∙ ap (λ (m : Totals). threads_named word (map (λ e. e.0) (tree.entries m))) same

  -- found among the threads of the frames that were read
  pub named : (r : Result (Unit {0}) FileError) → fails_outside r ≡ false → Ends old new unread left before mid empty r
      → AreNamed word unread left found
  named r quiet ending =
      let (read, end) = read_to_end old new unread left before mid empty r quiet ending in
      record {
        stored = read.stored;
        begins = read.begins;
        frames = read.frames;
        opens = read.opens;
        end = end;
        are = named_in _ read.totals;
      }
