-- A report keeps the layout of streams.
use Rattle.std.proofs.Common.{◌≡◌, ◌^◌, ◌<◌, List, [], ◌∷◌, length, Some, cond, refl, sym, ap, subst, ◌∙◌, arith}
use Rattle.std.specs.declared.cmp.Ordering.{Ordering}
use Rattle.std.specs.declared.cmp.Ordering.TheVariants.{Less, Equal, Greater}
use Rattle.std.specs.Ordering.{is_eq}
use Rattle.std.specs.Map.{keys_of}
use Rattle.std.specs.List.{AllByRecursion}
use Rattle.std.specs.List.Sorted.{IsStrictlySortedBy}
use Rattle.std.specs.BTreeMap.{insert_entry, is_at}
use Rattle.std.specs.FinMap.{entries, insert, find, put, empty, len-empty, len-entries, entries-insert, get-entries}
use Rattle.std.specs.FinMap.Entries.{by_order}
use Rattle.std.specs.Arc.{arc_value}
use Rattle.std.specs.declared.sync.Arc.{Arc}
use Rattle.std.proofs.lemmas.List.{length-map}
use Rattle.std.proofs.lemmas.Map.{length-set_value, keys-set_value}
use Rattle.puffin_data.specs.Honesty.{StreamFacts, facts_of}
use Rattle.puffin_data.specs.Value.Layout.{AreItems}
use Rattle.puffin_data.specs.declared.data.info.StreamInfo.{StreamInfo}
use Rattle.puffin_threads.specs.declared.thread_profiler.thread_info.ThreadInfo.{ThreadInfo}
use Rattle.puffin_threads.specs.Thread.ThreadKey.{ThreadKey, key_of, key_cmp, thread_cmp}
use Rattle.puffin_threads.proofs.lemmas.ThreadKeys.{key_cmp_total, key_cmp-one}
use Rattle.puffin_frames.specs.Packet.Structs.{IsThreadKey, AreCounts}
use Rattle.puffin_frames.specs.Frame.Streams.{Streams, shared_streams}
use Rattle.puffin_frames.specs.Frame.Holding.{HaveLayout}
use Rattle.puffin_frames.proofs.FormsOfAll.{Fits}
use Rattle.puffin_frames.proofs.Listed.{listed-sorted, entries-listed, no_length}
use Rattle.puffin_frames.proofs.Reports.{WritesAt, written, there, shared-insert}

-- the streams of no thread
pub none_laid_out : HaveLayout (empty {X = StreamFacts} {R = key_cmp})
none_laid_out =
    let none : entries (empty {X = StreamFacts} {R = key_cmp}) ≡ [] =
    no_length _ (sym (len-entries (empty {X = StreamFacts} {R = key_cmp})) ∙ len-empty key_cmp StreamFacts) in
    subst (λ (es : List (ThreadKey × StreamFacts)). AreItems Fits es) (sym none) (omega arith, tt)

-- an entry in its place among others
by_place : (order : Ordering) (key : ThreadKey) (info : StreamFacts) (entry : ThreadKey × StreamFacts)
    (pairs later : List (ThreadKey × StreamFacts)) →
    IsThreadKey key → AreCounts info → Fits entry → AllByRecursion Fits pairs → AllByRecursion Fits later →
    AllByRecursion Fits (by_order order ((key, info) ∷ entry ∷ pairs) ((entry.0, info) ∷ pairs) (entry ∷ later))
by_place Less key info entry pairs later thread counts one rest all = ((thread, counts), (one, rest))
by_place Equal key info entry pairs later thread counts one rest all = ((one.0, counts), rest)
by_place Greater key info entry pairs later thread counts one rest all = (one, all)

all_put : (key : ThreadKey) (info : StreamFacts) (pairs : List (ThreadKey × StreamFacts)) →
    IsThreadKey key → AreCounts info → AllByRecursion Fits pairs →
    AllByRecursion Fits (put key_cmp key info pairs)
all_put key info [] thread counts all = ((thread, counts), tt)
all_put key info (entry ∷ others) thread counts all =
    by_place (key_cmp key entry.0) key info entry others (put key_cmp key info others) thread counts all.0 all.1
    (all_put key info others thread counts all.1)

-- a thread that is there
by_test : (order : Ordering) (thread : ThreadKey) (found_info : StreamFacts) (entry : ThreadKey × StreamFacts)
    (pairs : List (ThreadKey × StreamFacts)) →
    key_cmp thread entry.0 ≡ order → Fits entry → (find key_cmp thread pairs ≡ Some found_info → IsThreadKey thread) →
    cond (is_eq order) (Some entry.1) (find key_cmp thread pairs) ≡ Some found_info →
    IsThreadKey thread
by_test Less thread found_info entry pairs is one later found = later found
by_test Equal thread found_info entry pairs is one later found = subst IsThreadKey (sym (key_cmp-one thread entry.0 is)) one.0
by_test Greater thread found_info entry pairs is one later found = later found

thread_there : (thread : ThreadKey) (found_info : StreamFacts) (pairs : List (ThreadKey × StreamFacts)) →
    find key_cmp thread pairs ≡ Some found_info → AllByRecursion Fits pairs →
    IsThreadKey thread
thread_there thread found_info [] found all = absurd cc
thread_there thread found_info (entry ∷ others) found all =
    by_test (key_cmp thread entry.0) thread found_info entry others refl all.0
    (λ later. thread_there thread found_info others later all.1) found

inserted : (streams : Streams) (key : ThreadKey) (info : StreamFacts) →
    length (entries (insert streams key info)) < 2 ^ 64 → IsThreadKey key → AreCounts info → HaveLayout streams →
    HaveLayout (insert streams key info)
inserted streams key info short thread counts laid_out = (
  short,
  subst (λ (es : List (ThreadKey × StreamFacts)). AllByRecursion Fits es)
      (sym (entries-insert key_cmp_total streams key info)) (all_put key info (entries streams) thread counts laid_out.1),
)

module _ {A : Type 0} where
  short_as : (after : List (ThreadInfo × Arc StreamInfo A)) →
      IsStrictlySortedBy thread_cmp (keys_of after) → length after < 2 ^ 64 →
      length (entries (shared_streams after)) < 2 ^ 64
  short_as after sorted short = rw (entries-listed after (listed-sorted after sorted)) (simp length-map short)

  length_seen : (shared : List (ThreadInfo × Arc StreamInfo A)) →
      IsStrictlySortedBy thread_cmp (keys_of shared) →
      length (entries (shared_streams shared)) ≡ length shared
  length_seen shared sorted = ap length (entries-listed shared (listed-sorted shared sorted)) ∙ simp length-map

  -- a stream that grows under a thread that is there
  pub layout_over : (shared : List (ThreadInfo × Arc StreamInfo A)) (thread : ThreadInfo) (old new : Arc StreamInfo A)
      (after : List (ThreadInfo × Arc StreamInfo A)) →
      WritesAt shared thread old new after → AreCounts (facts_of (arc_value new)) → HaveLayout (shared_streams shared) →
      HaveLayout (shared_streams after)
  layout_over shared thread old new after write counts before =
      let put = written shared thread old new after write in
      let key_fits =
      thread_there (key_of thread) (facts_of (arc_value old)) (entries (shared_streams shared))
      (sym (get-entries (shared_streams shared) (key_of thread)) ∙ there shared thread old new after write) before.1 in
      let sorted : IsStrictlySortedBy thread_cmp (keys_of after) =
      subst (λ (ks : List ThreadInfo). IsStrictlySortedBy thread_cmp ks)
      (sym (ap keys_of write.after ∙ keys-set_value (is_at (thread_cmp thread)) shared new)) write.sorted in
      let same = ap length write.after ∙ length-set_value (is_at (thread_cmp thread)) shared new in
      let short : length (entries (insert (shared_streams shared) (key_of thread) (facts_of (arc_value new)))) < 2 ^ 64 =
      subst (λ (m : Streams). length (entries m) < 2 ^ 64) put
      (omega (arith, length_seen shared write.sorted, length_seen after sorted, same, before.0)) in
      subst HaveLayout (sym put) (inserted (shared_streams shared) (key_of thread)
      (facts_of (arc_value new)) short key_fits counts before)

  -- the first stream of a thread
  pub layout_first : (shared : List (ThreadInfo × Arc StreamInfo A)) (thread : ThreadInfo) (arc : Arc StreamInfo A)
      (later : List (ThreadInfo × Arc StreamInfo A)) →
      later ≡ insert_entry thread_cmp shared thread arc → IsStrictlySortedBy thread_cmp (keys_of later) →
      length later < 2 ^ 64 → IsThreadKey (key_of thread) → AreCounts (facts_of (arc_value arc)) →
      HaveLayout (shared_streams shared) →
      HaveLayout (shared_streams later)
  layout_first shared thread arc later after sorted short key_fits counts before =
      let put : shared_streams later ≡ insert (shared_streams shared) (key_of thread) (facts_of (arc_value arc)) =
      ap shared_streams after ∙ shared-insert shared thread arc in
      let few : length (entries (insert (shared_streams shared) (key_of thread) (facts_of (arc_value arc)))) < 2 ^ 64 =
      subst (λ (m : Streams). length (entries m) < 2 ^ 64) put (omega (arith, length_seen later sorted, short)) in
      subst HaveLayout (sym put) (inserted (shared_streams shared) (key_of thread)
      (facts_of (arc_value arc)) few key_fits counts before)
