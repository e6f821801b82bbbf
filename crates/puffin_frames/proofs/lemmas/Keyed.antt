-- A map of threads, seen by the threads' infos.
use Rattle.std.proofs.Common.{◌≡◌, List, [], ◌∷◌, map, refl, sym, ap, subst, ◌∙◌}
use Rattle.std.specs.declared.cmp.Ordering.{Ordering}
use Rattle.std.specs.declared.cmp.Ordering.TheVariants.{Less, Equal, Greater}
use Rattle.std.specs.Ordering.{match_ordering}
use Rattle.std.specs.Map.{keys_of, values_of}
use Rattle.std.specs.List.Sorted.{IsStrictlySortedBy}
use Rattle.std.specs.BTreeMap.{insert_entry}
use Rattle.std.specs.FinMap.{insert, entries, values}
use Rattle.puffin_threads.specs.declared.thread_profiler.thread_info.ThreadInfo.{ThreadInfo}
use Rattle.std.proofs.lemmas.Map.Made.{keys_of-map_values}
use Rattle.puffin_data.specs.Honesty.{facts_of}
use Rattle.puffin_data.specs.declared.data.info.StreamInfo.{StreamInfo}
use Rattle.puffin_frames.specs.Frame.Contents.{records, streams_of}
use Rattle.puffin_threads.specs.Thread.ThreadKey.{key_cmp, key_of, thread_cmp, key_entries, by_key}
use Rattle.puffin_threads.proofs.lemmas.ThreadKeys.{key_cmp_total, key_cmp-one}
use Rattle.puffin_threads.proofs.lemmas.EntriesSeen.{insert-seen, entries-seen}

module _ {X : Type 0} where
  -- an insertion into the map is one by infos
  pub by_key-insert : (entries : List (ThreadInfo × X)) (thread : ThreadInfo) (value : X) →
      by_key (insert_entry thread_cmp entries thread value) ≡ insert (by_key entries) (key_of thread) value
  by_key-insert entries thread value = insert-seen key_of (λ x. x) key_cmp key_cmp_total key_cmp-one entries thread value

  -- what is in order stays so
  pub entries-by_key : (given : List (ThreadInfo × X)) →
      IsStrictlySortedBy thread_cmp (keys_of given) →
      entries (by_key given) ≡ key_entries given
  entries-by_key given sorted = entries-seen key_of (λ x. x) key_cmp key_cmp_total given sorted

  values-key_entries : (entries : List (ThreadInfo × X)) → map (λ e. e.1) (key_entries entries) ≡ values_of entries
  values-key_entries [] = refl
  values-key_entries (e ∷ es) = ap (λ xs. e.1 ∷ xs) (values-key_entries es)

  pub values-by_key : (entries : List (ThreadInfo × X)) →
      IsStrictlySortedBy thread_cmp (keys_of entries) →
      values (by_key entries) ≡ values_of entries
  values-by_key entries sorted = ap (map (λ e. e.1)) (entries-by_key entries sorted) ∙ values-key_entries entries

-- what is recorded, in place of the streams themselves
sorted-records : (entries : List (ThreadInfo × StreamInfo)) →
    IsStrictlySortedBy thread_cmp (keys_of entries) →
    IsStrictlySortedBy thread_cmp (keys_of (records entries))
sorted-records entries sorted =
    subst (λ (ks : List ThreadInfo). IsStrictlySortedBy thread_cmp ks) (sym (keys_of-map_values facts_of entries)) sorted

values-records : (entries : List (ThreadInfo × StreamInfo)) → values_of (records entries) ≡ map facts_of (values_of entries)
values-records [] = refl
values-records (e ∷ es) = ap (λ rs. facts_of e.1 ∷ rs) (values-records es)

-- an insertion among entries whose values are read by g
module _ {X Y : Type 0} (g : X → Y) where
  read_at_order :
      (order : Ordering) (thread : ThreadInfo) (value : X) (entry : ThreadInfo × X) (entries : List (ThreadInfo × X)) →
      map (λ f. (f.0, g f.1)) (insert_entry thread_cmp entries thread value)
      ≡ insert_entry thread_cmp (map (λ f. (f.0, g f.1)) entries) thread (g value) →
      map (λ f. (f.0, g f.1)) (match_ordering order
      ((thread, value) ∷ (entry ∷ entries)) ((entry.0, value) ∷ entries)
      (entry ∷ insert_entry thread_cmp entries thread value))
      ≡ match_ordering order ((thread, g value) ∷ ((entry.0, g entry.1) ∷ map (λ f. (f.0, g f.1)) entries))
      ((entry.0, g value) ∷ map (λ f. (f.0, g f.1)) entries)
      ((entry.0, g entry.1) ∷ insert_entry thread_cmp (map (λ f. (f.0, g f.1)) entries) thread (g value))
  read_at_order Less thread value entry entries later = refl
  read_at_order Equal thread value entry entries later = refl
  read_at_order Greater thread value entry entries later = ap (λ fs. (entry.0, g entry.1) ∷ fs) later

  pub read-insert : (entries : List (ThreadInfo × X)) (thread : ThreadInfo) (value : X) →
      map (λ f. (f.0, g f.1)) (insert_entry thread_cmp entries thread value)
      ≡ insert_entry thread_cmp (map (λ f. (f.0, g f.1)) entries) thread (g value)
  read-insert [] thread value = refl
  read-insert (entry ∷ es) thread value =
      read_at_order (thread_cmp thread entry.0) thread value entry es (read-insert es thread value)

pub entries-streams_of : (given : List (ThreadInfo × StreamInfo)) →
    IsStrictlySortedBy thread_cmp (keys_of given) →
    entries (streams_of given) ≡ key_entries (records given)
entries-streams_of given sorted = entries-by_key (records given) (sorted-records given sorted)

pub values-streams_of : (entries : List (ThreadInfo × StreamInfo)) →
    IsStrictlySortedBy thread_cmp (keys_of entries) →
    values (streams_of entries) ≡ map facts_of (values_of entries)
values-streams_of entries sorted = values-by_key (records entries) (sorted-records entries sorted) ∙ values-records entries

pub streams_of-insert : (entries : List (ThreadInfo × StreamInfo)) (thread : ThreadInfo) (info : StreamInfo) →
    streams_of (insert_entry thread_cmp entries thread info)
    ≡ insert (streams_of entries) (key_of thread) (facts_of info)
streams_of-insert entries thread info =
    ap by_key (read-insert facts_of entries thread info) ∙ by_key-insert (records entries) thread (facts_of info)
