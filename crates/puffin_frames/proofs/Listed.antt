-- The streams of a map as the list of their pairs, in the order of their threads.
use Rattle.std.proofs.Common.{◌≡◌, suc, ◌-◌, Bool, true, false, ◌&&◌, List, [], ◌∷◌, ◌++◌, length, Some, refl, sym, ap, subst, ◌∙◌, append_assoc, arith}
use Rattle.std.specs.Prelude.{T, slice_get}
use Rattle.std.proofs.lemmas.Option.{same_Some}
use Rattle.std.specs.declared.cmp.Ordering.{Ordering}
use Rattle.std.specs.declared.cmp.Ordering.TheVariants.{Less, Equal, Greater}
use Rattle.std.specs.Ordering.{is_lt, match_ordering, ordering_reverse}
use Rattle.std.specs.Cmp.{IsTotalOrder}
use Rattle.std.specs.Map.{keys_of}
use Rattle.std.specs.List.{AllByRecursion}
use Rattle.std.specs.List.Sorted.{IsStrictlySortedBy}
use Rattle.std.specs.BTreeMap.{insert_entry}
use Rattle.std.specs.Arc.{arc_value}
use Rattle.std.specs.declared.sync.Arc.{Arc}
use Rattle.std.specs.FinMap.{is_sorted, entries, from_entries, from_sorted, entries-insert, entries-from_sorted, same_entries_map, put, empty, len-entries, len-empty}
use Rattle.std.specs.FinMap.Entries.{below_all, by_order}
use Rattle.std.proofs.lemmas.Map.Keys.{sorted_head, sorted_tail}
use Rattle.puffin_data.specs.Honesty.{StreamFacts, facts_of}
use Rattle.puffin_data.specs.declared.data.info.StreamInfo.{StreamInfo}
use Rattle.puffin_threads.specs.declared.thread_profiler.thread_info.ThreadInfo.{ThreadInfo}
use Rattle.puffin_frames.specs.Frame.Contents.{shared_streams}
use Rattle.puffin_frames.specs.inner.Pairs.{pairs_of}
use Rattle.puffin_threads.specs.Thread.ThreadKey.{ThreadKey, key_cmp, key_of, thread_cmp}
use Rattle.puffin_threads.proofs.lemmas.ThreadKeys.{key_cmp_total, thread_cmp_total}

-- facts about tests
pub and-first : (a b : Bool) → (a && b) ≡ true → a ≡ true
and-first true b e = refl
and-first false b e = e

pub and-second : (a b : Bool) → (a && b) ≡ true → b ≡ true
and-second true b e = e
and-second false b e = absurd cc

pub and-both : (a b : Bool) → a ≡ true → b ≡ true → (a && b) ≡ true
and-both a b p q = rw (p, q) refl

pub holds : (b : Bool) → b ≡ true → T b
holds b e = subst T (sym e) tt

pub is_so : (b : Bool) → T b → b ≡ true
is_so true so = refl
is_so false so = absurd so

is_less : (o : Ordering) → is_lt o ≡ true → o ≡ Less
is_less Less e = refl
is_less Equal e = absurd cc
is_less Greater e = absurd cc

module _ {A : Type 0} where
  -- a thread below all of a map's threads is below all of its list's
  listed-below : (least : ThreadInfo) (entries : List (ThreadInfo × Arc StreamInfo A)) →
      AllByRecursion (λ y. thread_cmp least y ≡ Less) (keys_of entries) →
      below_all key_cmp (key_of least) (pairs_of entries) ≡ true
  listed-below least [] above = refl
  listed-below least (entry ∷ es) above =
      and-both (is_lt (thread_cmp least entry.0)) (below_all key_cmp (key_of least) (pairs_of es)) (ap is_lt above.0)
      (listed-below least es above.1)

  -- entries in the order of their threads are listed in order
  pub listed-sorted : (entries : List (ThreadInfo × Arc StreamInfo A)) →
      IsStrictlySortedBy thread_cmp (keys_of entries) →
      is_sorted key_cmp (pairs_of entries) ≡ true
  listed-sorted [] sorted = refl
  listed-sorted (entry ∷ es) sorted =
      and-both (below_all key_cmp (key_of entry.0) (pairs_of es)) (is_sorted key_cmp (pairs_of es))
      (listed-below entry.0 es (sorted_head thread_cmp entry.0 _ sorted))
      (listed-sorted es (sorted_tail thread_cmp entry.0 _ sorted))

  pub listed-push : (entries : List (ThreadInfo × Arc StreamInfo A)) (thread : ThreadInfo) (info : Arc StreamInfo A) →
      pairs_of (entries ++ (thread, info) ∷ []) ≡ pairs_of entries ++ (key_of thread, facts_of (arc_value info)) ∷ []
  listed-push [] thread info = refl
  listed-push (entry ∷ es) thread info =
      ap (λ (pairs : List (ThreadKey × StreamFacts)). (key_of entry.0, facts_of (arc_value entry.1)) ∷ pairs)
      (listed-push es thread info)

-- a key below all of a list is below each in it, and stays below all with one more
below_at : (least thread : ThreadKey) (info : StreamFacts) (pairs rest : List (ThreadKey × StreamFacts)) →
    below_all key_cmp least (pairs ++ (thread, info) ∷ rest) ≡ true →
    key_cmp least thread ≡ Less
below_at least thread info [] rest below = is_less _ (and-first _ _ below)
below_at least thread info (pair ∷ es) rest below = below_at least thread info es rest (and-second _ _ below)

below_middle : (least thread : ThreadKey) (info : StreamFacts) (pairs : List (ThreadKey × StreamFacts)) →
    below_all key_cmp least pairs ≡ true → key_cmp least thread ≡ Less →
    below_all key_cmp least (pairs ++ (thread, info) ∷ []) ≡ true
below_middle least thread info [] below less = and-both _ _ (ap is_lt less) refl
below_middle least thread info (pair ∷ es) below less =
    and-both _ _ (and-first _ _ below) (below_middle least thread info es (and-second _ _ below) less)

module _ {A : Type 0} where
  -- a thread above all others goes to the end
  pub insert-last : (entries : List (ThreadInfo × Arc StreamInfo A)) (thread : ThreadInfo) (arc : Arc StreamInfo A)
      (info : StreamFacts) (rest : List (ThreadKey × StreamFacts)) →
      is_sorted key_cmp (pairs_of entries ++ (key_of thread, info) ∷ rest) ≡ true →
      insert_entry thread_cmp entries thread arc ≡ entries ++ (thread, arc) ∷ []
  insert-last [] thread arc info rest sorted = refl
  insert-last (entry ∷ es) thread arc info rest sorted =
      let below : thread_cmp entry.0 thread ≡ Less =
      below_at (key_of entry.0) (key_of thread) info (pairs_of es) rest (and-first _ _ sorted) in
      let above : thread_cmp thread entry.0 ≡ Greater =
      thread_cmp_total.antisymm thread entry.0 ∙ ap ordering_reverse below in
      ap (λ order. match_ordering order ((thread, arc) ∷ entry ∷ es) ((entry.0, arc) ∷ es)
      (entry ∷ insert_entry thread_cmp es thread arc)) above
      ∙ ap (λ later. entry ∷ later) (insert-last es thread arc info rest (and-second _ _ sorted))

-- ---- maps from lists in order

pub no_length : {A : Type 0} (es : List A) → length es ≡ 0 → es ≡ []
no_length [] e = refl
no_length (x ∷ es) e = absurd (omega arith)

pub no_entries : {K X : Type 0} (R : K → K → Ordering) → entries (from_entries {X = X} {R = R} []) ≡ []
no_entries {K} {X} R = no_length _ (sym (len-entries (empty {X = X} {R = R})) ∙ len-empty R X)

module _ {K X : Type 0} {R : K → K → Ordering} (total : IsTotalOrder R) (nothing : entries (from_entries {X = X} {R = R} []) ≡ []) where
  -- a pair below all others is put first
  put-first : (key : K) (value : X) (pairs : List (K × X)) →
      below_all R key pairs ≡ true →
      put R key value pairs ≡ (key, value) ∷ pairs
  put-first key value [] below = refl
  put-first key value (pair ∷ pairs) below =
      ap (λ o. by_order o ((key, value) ∷ pair ∷ pairs) ((pair.0, value) ∷ pairs) (pair ∷ put R key value pairs))
      (is_less _ (and-first _ _ below))

  pub entries-sorted_list : (pairs : List (K × X)) → is_sorted R pairs ≡ true → entries (from_entries {R = R} pairs) ≡ pairs
  entries-sorted_list [] sorted = nothing
  entries-sorted_list (pair ∷ pairs) sorted =
      entries-insert total (from_entries pairs) pair.0 pair.1
      ∙ ap (put R pair.0 pair.1) (entries-sorted_list pairs (and-second _ _ sorted))
      ∙ put-first pair.0 pair.1 pairs (and-first _ _ sorted)

  pub from_entries-sorted_list : (pairs : List (K × X)) →
      is_sorted R pairs ≡ true →
      from_sorted {R = R} pairs ≡ from_entries pairs
  from_entries-sorted_list pairs sorted =
      same_entries_map (from_sorted pairs) (from_entries pairs)
      (entries-from_sorted R pairs (holds _ sorted) ∙ sym (entries-sorted_list pairs sorted))

-- the streams of a map are those of its list
pub streams-listed : {A : Type 0} (entries : List (ThreadInfo × Arc StreamInfo A)) →
    is_sorted key_cmp (pairs_of entries) ≡ true →
    from_sorted {R = key_cmp} (pairs_of entries) ≡ shared_streams entries
streams-listed entries sorted = from_entries-sorted_list key_cmp_total (no_entries key_cmp) (pairs_of entries) sorted

pub entries-listed : {A : Type 0} (shared : List (ThreadInfo × Arc StreamInfo A)) →
    is_sorted key_cmp (pairs_of shared) ≡ true →
    entries (shared_streams shared) ≡ pairs_of shared
entries-listed shared sorted = entries-sorted_list key_cmp_total (no_entries key_cmp) (pairs_of shared) sorted

-- ---- one more thread

alone : {X : Type 0} (y x : X) → y ≡ x → y ∷ [] ≡ x ∷ []
alone {X} y x e = ap (λ (z : X). z ∷ []) e

-- a list ends with its last item
last_split : {X : Type 0} (xs : List X) (x : X) →
    slice_get xs (length xs - 1) ≡ Some x →
    (front : List X) × (xs ≡ front ++ x ∷ [])
last_split [] x e = absurd cc
last_split (y ∷ []) x e = ([], alone y x (same_Some y x e))
last_split {X} (y ∷ z ∷ ys) x e =
    let k : length (y ∷ z ∷ ys) - 1 ≡ suc (length (z ∷ ys) - 1) = omega arith in
    let later : slice_get (z ∷ ys) (length (z ∷ ys) - 1) ≡ Some x = rw k at e in
    let rest = last_split (z ∷ ys) x later in
    (y ∷ rest.0, ap (λ (l : List X). y ∷ l) rest.1)

-- a pair above the last one keeps a list in order, and one in order is above it
sorted-push : (front : List (ThreadKey × StreamFacts)) (last thread : ThreadKey) (last_info info : StreamFacts) →
    is_sorted key_cmp (front ++ (last, last_info) ∷ []) ≡ true → key_cmp last thread ≡ Less →
    is_sorted key_cmp ((front ++ (last, last_info) ∷ []) ++ (thread, info) ∷ []) ≡ true
sorted-push [] last thread last_info info sorted above = and-both _ _ (and-both _ _ (ap is_lt above) refl) refl
sorted-push (pair ∷ front) last thread last_info info sorted above =
    let below : key_cmp pair.0 last ≡ Less = below_at pair.0 last last_info front [] (and-first _ _ sorted) in
    and-both _ _ (below_middle pair.0 thread info (front ++ (last, last_info) ∷ []) (and-first _ _ sorted)
    (key_cmp_total.trans pair.0 last thread below above))
    (sorted-push front last thread last_info info (and-second _ _ sorted) above)

is_above : (front rest : List (ThreadKey × StreamFacts)) (last thread : ThreadKey) (last_info info : StreamFacts) →
    is_sorted key_cmp ((front ++ (last, last_info) ∷ []) ++ (thread, info) ∷ rest) ≡ true →
    key_cmp last thread ≡ Less
is_above [] rest last thread last_info info sorted = is_less _ (and-first _ _ (and-first _ _ sorted))
is_above (pair ∷ front) rest last thread last_info info sorted =
    is_above front rest last thread last_info info (and-second _ _ sorted)

not_so : (b : Bool) → (b ≡ true → ⊥) → b ≡ false
not_so true never = absurd (never refl)
not_so false never = refl

module _ {A : Type 0} where
  -- the last entry of a map, as the last of its list
  listed-last : (entries : List (ThreadInfo × Arc StreamInfo A)) (last : ThreadInfo) (arc : Arc StreamInfo A) →
      slice_get entries (length entries - 1) ≡ Some (last, arc) →
      (front : List (ThreadKey × StreamFacts))
      × (pairs_of entries ≡ front ++ (key_of last, facts_of (arc_value arc)) ∷ [])
  listed-last entries last arc at =
      let split = last_split entries (last, arc) at in
      (pairs_of split.0, ap pairs_of split.1 ∙ listed-push split.0 last arc)

  -- a thread above the last one comes last
  pub rises_after : (entries : List (ThreadInfo × Arc StreamInfo A)) (last : ThreadInfo) (arc : Arc StreamInfo A)
      (thread : ThreadInfo) (info : StreamFacts) →
      is_sorted key_cmp (pairs_of entries) ≡ true → slice_get entries (length entries - 1) ≡ Some (last, arc) →
      is_lt (thread_cmp last thread) ≡ true →
      is_sorted key_cmp (pairs_of entries ++ (key_of thread, info) ∷ []) ≡ true
  rises_after entries last arc thread info sorted at above =
      let split = listed-last entries last arc at in
      let P : List (ThreadKey × StreamFacts) → Type 0 =
      λ (l : List (ThreadKey × StreamFacts)). is_sorted key_cmp l ≡ true →
      is_sorted key_cmp (l ++ (key_of thread, info) ∷ []) ≡ true in
      subst P (sym split.1) (λ in_order. sorted-push split.0 (key_of last) (key_of thread)
      (facts_of (arc_value arc)) info in_order
      (is_less _ above)) sorted

  -- and another one doesn't
  pub falls_after : (entries : List (ThreadInfo × Arc StreamInfo A)) (last : ThreadInfo) (arc : Arc StreamInfo A)
      (thread : ThreadInfo) (info : StreamFacts) (rest : List (ThreadKey × StreamFacts)) →
      slice_get entries (length entries - 1) ≡ Some (last, arc) → is_lt (thread_cmp last thread) ≡ false →
      is_sorted key_cmp (pairs_of entries ++ (key_of thread, info) ∷ rest) ≡ false
  falls_after entries last arc thread info rest at not =
      let split = listed-last entries last arc at in
      not_so _ (λ is_last.
      let above : key_cmp (key_of last) (key_of thread) ≡ Less =
      is_above split.0 rest (key_of last) (key_of thread) (facts_of (arc_value arc)) info
      (subst (λ (l : List (ThreadKey × StreamFacts)). is_sorted key_cmp (l ++ (key_of thread, info) ∷ rest) ≡ true) split.1
      is_last) in
      two_ways (sym (ap is_lt above) ∙ not))
    where
      two_ways : true ≡ false → ⊥
      two_ways e = absurd cc

-- a copy of the next stream goes to the end of the copies
pub copy_more : {A B : Type 0} (entries after : List (ThreadInfo × Arc StreamInfo A)) (thread copy : ThreadInfo)
    (arc : Arc StreamInfo B) (arc_copy : Arc StreamInfo A) (left rest all : List (ThreadInfo × Arc StreamInfo B)) →
    IsStrictlySortedBy thread_cmp (keys_of all) → pairs_of entries ++ pairs_of left ≡ pairs_of all →
    left ≡ (thread, arc) ∷ rest → key_of copy ≡ key_of thread → arc_value arc_copy ≡ arc_value arc →
    after ≡ insert_entry thread_cmp entries copy arc_copy →
    pairs_of after ++ pairs_of rest ≡ pairs_of all
copy_more entries after thread copy arc arc_copy left rest all sorted whole next same value put =
    let one : (ThreadKey × StreamFacts) = (key_of copy, facts_of (arc_value arc_copy)) in
    let there : pairs_of entries ++ one ∷ pairs_of rest ≡ pairs_of all =
    ap (λ (x : ThreadKey). pairs_of entries ++ (x, facts_of (arc_value arc_copy)) ∷ pairs_of rest) same
    ∙ (ap (λ (x : StreamInfo). pairs_of entries ++ (key_of thread, facts_of x) ∷ pairs_of rest) value
    ∙ (ap (λ l. pairs_of entries ++ pairs_of l) (sym next) ∙ whole)) in
    let order =
    subst (λ (l : List (ThreadKey × StreamFacts)). is_sorted key_cmp l ≡ true) (sym there)
    (listed-sorted all sorted) in
    let last = insert-last entries copy arc_copy (facts_of (arc_value arc_copy)) (pairs_of rest) order in
    let grown : pairs_of after ≡ pairs_of entries ++ one ∷ [] =
    ap pairs_of (put ∙ last) ∙ listed-push entries copy arc_copy in
    ap (λ (l : List (ThreadKey × StreamFacts)). l ++ pairs_of rest) grown
    ∙ (regrouped (pairs_of entries) one (pairs_of rest) ∙ there)
  where
    regrouped : (xs : List (ThreadKey × StreamFacts)) (x : ThreadKey × StreamFacts) (ys : List (ThreadKey × StreamFacts)) →
        (xs ++ x ∷ []) ++ ys ≡ xs ++ x ∷ ys
    regrouped xs x ys = simp append_assoc
