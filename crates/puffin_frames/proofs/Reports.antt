-- Appending what is reported to the streams of a map.
use Rattle.std.proofs.Common.{◌≡◌, length, List, [], ◌∷◌, Bool, true, false, cond, None, Some, Result, Ok, Err, IfErr, ◌+◌, ◌^◌, ◌<◌, ◌≤◌, ◌↔◌, ◌≢◌, refl, sym, ap, subst, ◌∙◌, arith}
use Rattle.std.specs.declared.cmp.Ordering.{Ordering}
use Rattle.std.specs.declared.cmp.Ordering.TheVariants.{Less, Equal, Greater}
use Rattle.std.specs.Ordering.{is_eq, match_ordering}
use Rattle.std.specs.Map.{keys_of, lookup, set_value}
use Rattle.std.specs.Option.{option_map, unwrap_or}
use Rattle.std.specs.List.Sorted.{IsStrictlySortedBy}
use Rattle.std.specs.BTreeMap.{insert_entry, is_at}
use Rattle.std.specs.FinMap.{FinMap, get, insert, find, get-insert, get-from_entries, same_map}
use Rattle.std.specs.Arc.{arc_value}
use Rattle.std.specs.declared.sync.Arc.{Arc}
use Rattle.std.proofs.lemmas.Map.{lookup-none}
use Rattle.std.proofs.lemmas.Map.Keys.{sorted_tail}
use Rattle.std.proofs.lemmas.Map.Entries.{none_below_head}
use Rattle.std.proofs.lemmas.Map.Made.{lookup-map_values}
use Rattle.puffin_data.specs.declared.error.Error.{Error}
use Rattle.puffin_data.specs.declared.error.Error.TheVariants.{TooLarge, Memory, UnlikeForms}
use Rattle.puffin_data.specs.Honesty.{StreamFacts, facts_of, AreUnlike, joined_facts}
use Rattle.puffin_data.specs.declared.data.info.StreamInfo.{StreamInfo}
use Rattle.puffin_threads.specs.declared.thread_profiler.thread_info.ThreadInfo.{ThreadInfo}
use Rattle.puffin_threads.specs.Thread.ThreadKey.{ThreadKey, key_of, key_cmp, thread_cmp, has_same_key, key_entries, by_key}
use Rattle.puffin_frames.specs.Frame.Contents.{records, without_sharing, shared_streams, stream_under, reported_to, no_scopes}
use Rattle.puffin_threads.proofs.lemmas.ThreadKeys.{key_cmp_total, key_cmp-one, has_same_key-one, thread_cmp_total}
use Rattle.puffin_frames.proofs.lemmas.Keyed.{read-insert, streams_of-insert}

module _ {X : Type 0} where
  -- a write over the value of a key that is there is an insertion
  set_at_order : (order : Ordering) (thread : ThreadInfo) (old new : X) (entry : ThreadInfo × X)
      (entries : List (ThreadInfo × X)) →
      thread_cmp thread entry.0 ≡ order → IsStrictlySortedBy thread_cmp (keys_of (entry ∷ entries)) →
      cond (is_eq order) (Some entry.1) (lookup (is_at (thread_cmp thread)) entries) ≡ Some old →
      (lookup (is_at (thread_cmp thread)) entries ≡ Some old →
      set_value (is_at (thread_cmp thread)) entries new ≡ insert_entry thread_cmp entries thread new) →
      cond (is_eq order) ((entry.0, new) ∷ entries) (entry ∷ set_value (is_at (thread_cmp thread)) entries new)
      ≡ match_ordering order ((thread, new) ∷ (entry ∷ entries)) ((entry.0, new) ∷ entries)
      (entry ∷ insert_entry thread_cmp entries thread new)
  set_at_order Less thread old new entry entries is sorted found later =
      let none =
      lookup-none (is_at (thread_cmp thread)) entries
      (none_below_head thread_cmp_total thread entry entries sorted is).1 in
      absurd cc
  set_at_order Equal thread old new entry entries is sorted found later = refl
  set_at_order Greater thread old new entry entries is sorted found later =
      ap (λ entries_after. entry ∷ entries_after) (later found)

  -- the same for all entries
  set_is_insert : (entries : List (ThreadInfo × X)) (thread : ThreadInfo) (old new : X) →
      IsStrictlySortedBy thread_cmp (keys_of entries) → lookup (is_at (thread_cmp thread)) entries ≡ Some old →
      set_value (is_at (thread_cmp thread)) entries new ≡ insert_entry thread_cmp entries thread new
  set_is_insert [] thread old new sorted found = absurd cc
  set_is_insert (entry ∷ es) thread old new sorted found =
      set_at_order (thread_cmp thread entry.0) thread old new entry es refl sorted found
      (set_is_insert es thread old new (sorted_tail thread_cmp entry.0 _ sorted))

  -- a look-up by a thread's key is one by the thread
  find-key_entries : (entries : List (ThreadInfo × X)) (thread : ThreadInfo) →
      find key_cmp (key_of thread) (key_entries entries) ≡ lookup (is_at (thread_cmp thread)) entries
  find-key_entries [] thread = refl
  find-key_entries (entry ∷ es) thread =
      ap (λ o. cond (is_eq (thread_cmp thread entry.0)) (Some entry.1) o) (find-key_entries es thread)

  -- an insertion of what is there changes nothing
  at_test : (streams : FinMap key_cmp X) (thread other : ThreadKey) (value : X) (b : Bool) →
      has_same_key other thread ≡ b → get streams thread ≡ Some value →
      cond b (Some value) (get streams other) ≡ get streams other
  at_test streams thread other value true same found = sym (ap (get streams) (has_same_key-one other thread same) ∙ found)
  at_test streams thread other value false same found = refl

  insert-same : (streams : FinMap key_cmp X) (thread : ThreadKey) (value : X) →
      get streams thread ≡ Some value →
      insert streams thread value ≡ streams
  insert-same streams thread value found =
      same_map key_cmp_total key_cmp-one (insert streams thread value) streams
      (λ other. get-insert key_cmp_total streams thread value other
      ∙ at_test streams thread other value (has_same_key other thread) refl found)

module _ {A : Type 0} where
  -- what the streams of a map have under a thread is what the map has there
  pub get-shared : (entries : List (ThreadInfo × Arc StreamInfo A)) (thread : ThreadInfo) →
      get (shared_streams entries) (key_of thread)
      ≡ option_map facts_of (option_map arc_value (lookup (is_at (thread_cmp thread)) entries))
  get-shared entries thread =
      get-from_entries key_cmp_total (key_entries (records (without_sharing entries))) (key_of thread)
      ∙ find-key_entries (records (without_sharing entries)) thread
      ∙ lookup-map_values facts_of (is_at (thread_cmp thread)) (without_sharing entries)
      ∙ ap (option_map facts_of) (lookup-map_values arc_value (is_at (thread_cmp thread)) entries)

  -- an insertion into the map is one into its streams
  pub shared-insert : (entries : List (ThreadInfo × Arc StreamInfo A)) (thread : ThreadInfo) (arc : Arc StreamInfo A) →
      shared_streams (insert_entry thread_cmp entries thread arc)
      ≡ insert (shared_streams entries) (key_of thread) (facts_of (arc_value arc))
  shared-insert entries thread arc =
      ap (λ fs. by_key (records fs)) (read-insert arc_value entries thread arc)
      ∙ streams_of-insert (without_sharing entries) thread (arc_value arc)

  -- what is under a key that is there, and under one that isn't
  pub under_there : (entries : List (ThreadInfo × Arc StreamInfo A)) (thread : ThreadInfo) (old : Arc StreamInfo A) →
      lookup (is_at (thread_cmp thread)) entries ≡ Some old →
      stream_under (shared_streams entries) (key_of thread) ≡ facts_of (arc_value old)
  under_there entries thread old found =
      ap (λ o. unwrap_or o no_scopes) (get-shared entries thread
      ∙ ap (λ o. option_map facts_of (option_map arc_value o)) found)

  pub none_under : (entries : List (ThreadInfo × Arc StreamInfo A)) (thread : ThreadInfo) →
      lookup (is_at (thread_cmp thread)) entries ≡ None →
      stream_under (shared_streams entries) (key_of thread) ≡ no_scopes
  none_under entries thread none =
      ap (λ o. unwrap_or o no_scopes) (get-shared entries thread
      ∙ ap (λ o. option_map facts_of (option_map arc_value o)) none)

  -- a value was written in the place of the one that was found under a thread
  pub record WritesAt (entries : List (ThreadInfo × Arc StreamInfo A)) (thread : ThreadInfo)
      (old new : Arc StreamInfo A) (written_entries : List (ThreadInfo × Arc StreamInfo A)) : Type 0 where
    pub sorted : IsStrictlySortedBy thread_cmp (keys_of entries)
    pub found : lookup (is_at (thread_cmp thread)) entries ≡ Some old
    pub after : written_entries ≡ set_value (is_at (thread_cmp thread)) entries new

  -- so the write is an insertion into the streams
  pub written : (entries : List (ThreadInfo × Arc StreamInfo A)) (thread : ThreadInfo) (old new : Arc StreamInfo A)
      (after : List (ThreadInfo × Arc StreamInfo A)) →
      WritesAt entries thread old new after →
      shared_streams after ≡ insert (shared_streams entries) (key_of thread) (facts_of (arc_value new))
  written entries thread old new after write =
      ap shared_streams (write.after ∙ set_is_insert entries thread old new write.sorted write.found)
      ∙ shared-insert entries thread new

  -- and they had the old info there
  pub there : (entries : List (ThreadInfo × Arc StreamInfo A)) (thread : ThreadInfo) (old new : Arc StreamInfo A)
      (after : List (ThreadInfo × Arc StreamInfo A)) →
      WritesAt entries thread old new after →
      get (shared_streams entries) (key_of thread) ≡ Some (facts_of (arc_value old))
  there entries thread old new after write =
      get-shared entries thread ∙ ap (λ o. option_map facts_of (option_map arc_value o)) write.found

  -- a report that extends what is there
  pub reported_over : (entries : List (ThreadInfo × Arc StreamInfo A)) (thread : ThreadInfo) (old new : Arc StreamInfo A)
      (after : List (ThreadInfo × Arc StreamInfo A)) (info : StreamFacts) →
      WritesAt entries thread old new after → facts_of (arc_value new) ≡ joined_facts (facts_of (arc_value old)) info →
      shared_streams after ≡ reported_to (shared_streams entries) (key_of thread) info
  reported_over entries thread old new after info write more =
      written entries thread old new after write
      ∙ ap (insert (shared_streams entries) (key_of thread))
      (more ∙ ap (λ o. joined_facts (unwrap_or o no_scopes) info) (sym (there entries thread old new after write)))

  -- a refusal that leaves what is there
  pub refused_over : (entries : List (ThreadInfo × Arc StreamInfo A)) (thread : ThreadInfo) (old new : Arc StreamInfo A)
      (after : List (ThreadInfo × Arc StreamInfo A)) →
      WritesAt entries thread old new after → facts_of (arc_value new) ≡ facts_of (arc_value old) →
      shared_streams after ≡ shared_streams entries
  refused_over entries thread old new after write same =
      written entries thread old new after write
      ∙ ap (insert (shared_streams entries) (key_of thread)) same
      ∙ insert-same (shared_streams entries) (key_of thread) (facts_of (arc_value old))
      (there entries thread old new after write)

  -- a report under a thread that had none
  pub reported_first : (entries : List (ThreadInfo × Arc StreamInfo A)) (thread : ThreadInfo) (arc : Arc StreamInfo A)
      (fs : List (ThreadInfo × Arc StreamInfo A)) (info : StreamFacts) →
      lookup (is_at (thread_cmp thread)) entries ≡ None → fs ≡ insert_entry thread_cmp entries thread arc →
      facts_of (arc_value arc) ≡ joined_facts no_scopes info →
      shared_streams fs ≡ reported_to (shared_streams entries) (key_of thread) info
  reported_first entries thread arc fs info none after more =
      let absent = get-shared entries thread ∙ ap (λ o. option_map facts_of (option_map arc_value o)) none in
      ap shared_streams after ∙ shared-insert entries thread arc
      ∙ ap (insert (shared_streams entries) (key_of thread))
      (more ∙ ap (λ o. joined_facts (unwrap_or o no_scopes) info) (sym absent))

-- ---- when a report is refused

-- when appending a report to what is there is refused: unlike forms, and then a number of scopes that doesn't fit
pub record IsRefusedBy {A : Type 0} (result : Result A Error) (there report : StreamFacts) : Type 0 where
  pub unlike : (result ≡ Err UnlikeForms) ↔ AreUnlike there report
  pub too_large : (result ≡ Err TooLarge)
      ↔ ((AreUnlike there report → ⊥) × (2 ^ 64 ≤ there.num_scopes + report.num_scopes))

-- what has no bytes is like all
pub none_unlike : (info facts : StreamFacts) → info ≡ no_scopes → AreUnlike info facts → ⊥
none_unlike info facts none (has_bytes, _, _) =
    let no_bytes = ap (λ (any : StreamFacts). length any.bytes) none in omega (arith, no_bytes, has_bytes)

module _ {A : Type 0} where
  -- the same of equal results and equal infos
  pub refused_as : (r answer : Result A Error) (info v facts : StreamFacts) →
      r ≡ answer → info ≡ v → IsRefusedBy answer info facts →
      IsRefusedBy r v facts
  refused_as r answer info v facts is same refused =
      subst (λ (new : StreamFacts). IsRefusedBy r new facts) same
      (subst (λ (s : Result A Error). IsRefusedBy s info facts) (sym is) refused)

  -- what fails only for memory fails for no other cause
  pub not_unlike : (r : Result A Error) → IfErr r (λ e. e ≡ Memory) → r ≢ Err UnlikeForms
  not_unlike (Ok x) memory same = absurd cc
  not_unlike (Err e) memory same = cc

  pub not_too_large : (r : Result A Error) → IfErr r (λ e. e ≡ Memory) → r ≢ Err TooLarge
  not_too_large (Ok x) memory same = absurd cc
  not_too_large (Err e) memory same = cc

  -- a report under a thread that had none, which is refused for another cause or accepted
  pub not_refused : (r : Result A Error) (info facts : StreamFacts) →
      r ≢ Err UnlikeForms → r ≢ Err TooLarge → info ≡ no_scopes → facts.num_scopes < 2 ^ 64 →
      IsRefusedBy r info facts
  not_refused r info facts unlike large none fits =
      let zero = ap (λ (n : StreamFacts). n.num_scopes) none in
      record {
        unlike = (λ is. absurd (unlike is), λ apart. absurd (none_unlike info facts none apart));
        too_large = (λ is. absurd (large is), λ (_, over). absurd (omega (arith, zero, fits, over)));
      }
