-- Honest streams, by their infos.
use Rattle.std.proofs.Common.{◌≡◌, ℕ, zero, suc, ◌<◌, List, [], ◌∷◌, map, Bool, true, false, T, cond, Option, None, Some, refl, sym, ap, subst, ◌∙◌, arith, ℤ, ◌≤ℤ◌, ◌<ℤ◌}
use mathlib.Core.Logic.{∥∥₁_map}
use Rattle.std.specs.declared.cmp.Ordering.{Ordering}
use Rattle.std.specs.declared.cmp.Ordering.TheVariants.{Less, Equal, Greater}
use Rattle.std.specs.Ordering.{is_eq, is_lt}
use Rattle.std.specs.Option.{unwrap_or}
use Rattle.std.specs.List.{AllByRecursion}
use Rattle.std.specs.FinMap.{get, empty, entries, values, find, is_sorted, entries_sorted, get-empty, get-entries, get-insert}
use Rattle.std.specs.FinMap.Entries.{below_all}
use Rattle.std.proofs.lemmas.Cmp.{tied_itself}
use Rattle.std.proofs.lemmas.Int.{ints, clamps}
use Rattle.std.proofs.lemmas.Grind.{merely, not_there}
use Rattle.puffin_data.specs.Forest.{Forest, append}
use Rattle.puffin_data.specs.Forest as forest
use Rattle.puffin_data.specs.Honesty.{StreamFacts, AreHonestFacts, AreUnlike, joined_facts}
use Rattle.puffin_threads.specs.Thread.ThreadKey.{ThreadKey, key_cmp, has_same_key}
use Rattle.puffin_frames.specs.Frame.Contents.{Streams, stream_under, reported_to, no_scopes, AreHonest}
use Rattle.puffin_frames.specs.Frame.Sums.{total_scopes, joined_start, joined_stop, joined_range, IsOrdered}
use Rattle.puffin_data.proofs.lemmas.Extended.{honest_joined}
use Rattle.puffin_data.proofs.lemmas.ForestRanges as forest_range
use Rattle.puffin_threads.proofs.lemmas.ThreadKeys.{key_cmp_total, key_cmp-one}
use Rattle.puffin_frames.proofs.lemmas.Measured.{first, second, less, total_scopes-one}
use Rattle.puffin_frames.proofs.lemmas.Ranges.{least_start-one, greatest_stop-one}

abbrev pub IsHonestSomehow : StreamFacts → Type 0
IsHonestSomehow r = ∥ ((f : Forest) × AreHonestFacts r f) ∥₁

-- an info without scopes is honest
none_honest : AreHonestFacts no_scopes forest.empty
none_honest = record {
  stream = record { whole = refl; fits = tt };
  counts = record { num_scopes = refl; depth = refl; least_start = refl; greatest_stop = refl };
}

pub none_is_honest : AreHonest empty
none_is_honest i r found = let none = get-empty {X = StreamFacts} key_cmp i in absurd cc

-- an honest report that is joined to an honest info makes an honest one
joined_honest : (found : Option StreamFacts) (info : StreamFacts) (f : Forest) →
    (AreUnlike (unwrap_or found no_scopes) info → ⊥) → AreHonestFacts info f →
    ((x : StreamFacts) → found ≡ Some x → IsHonestSomehow x) →
    IsHonestSomehow (joined_facts (unwrap_or found no_scopes) info)
joined_honest None info f like honest before =
    merely (append forest.empty f, honest_joined no_scopes info forest.empty f like none_honest honest)
joined_honest (Some x) info forest like honest before =
    ∥∥₁_map (before x refl) (λ p. (append p.0 forest, honest_joined x info p.0 forest like p.1 honest))

-- after a report an info is the joined one, or it was there before
at_test : (b : Bool) (joined info : StreamFacts) (there : Option StreamFacts) →
    IsHonestSomehow joined → (there ≡ Some info → IsHonestSomehow info) → cond b (Some joined) there ≡ Some info →
    IsHonestSomehow info
at_test true joined info there honest before found = let same : joined ≡ info = cc in subst IsHonestSomehow same honest
at_test false joined info there honest before found = before found

pub honest-report : (streams : Streams) (thread : ThreadKey) (info : StreamFacts) (forest : Forest) →
    (AreUnlike (stream_under streams thread) info → ⊥) → AreHonest streams → AreHonestFacts info forest →
    AreHonest (reported_to streams thread info)
honest-report streams thread info forest like honest is_honest other found_info found =
    let more = joined_facts (unwrap_or (get streams thread) no_scopes) info in
    at_test (has_same_key other thread) more found_info (get streams other)
    (joined_honest (get streams thread) info forest like is_honest (λ y. honest thread y))
    (honest other found_info) (sym (get-insert key_cmp_total streams thread more other) ∙ found)

-- ---- what holds at each info holds of each stream
none_at : (least : ThreadKey) (pairs : List (ThreadKey × StreamFacts)) →
    T (below_all key_cmp least pairs) →
    find key_cmp least pairs ≡ None
none_at least [] below = refl
none_at least (first_pair ∷ others) below =
    ap (λ o. cond (is_eq o) (Some first_pair.1) (find key_cmp least others))
    (less (key_cmp least first_pair.0) (first _ _ below))
    ∙ none_at least others (second (is_lt (key_cmp least first_pair.0)) _ below)

-- what is found behind the first pair is found in the whole list
past_first : (order : Ordering) (thread : ThreadKey) (info : StreamFacts) (first_pair : ThreadKey × StreamFacts)
    (pairs : List (ThreadKey × StreamFacts)) →
    key_cmp thread first_pair.0 ≡ order → T (below_all key_cmp first_pair.0 pairs) →
    find key_cmp thread pairs ≡ Some info →
    cond (is_eq order) (Some first_pair.1) (find key_cmp thread pairs) ≡ Some info
past_first Less thread info first_pair pairs is below found = found
past_first Equal thread info first_pair pairs is below found =
    let none = ap (λ k. find key_cmp k pairs) (key_cmp-one thread first_pair.0 is) ∙ none_at first_pair.0 pairs below in
    absurd cc
past_first Greater thread info first_pair pairs is below found = found

-- what holds of each info that is found holds of all infos
all_from_each : (P : StreamFacts → Type 0) (pairs : List (ThreadKey × StreamFacts)) →
    T (is_sorted key_cmp pairs) →
    ((thread : ThreadKey) (info : StreamFacts) → find key_cmp thread pairs ≡ Some info → P info) →
    AllByRecursion P (map (λ pair. pair.1) pairs)
all_from_each P [] sorted each = tt
all_from_each P (pair ∷ others) sorted each = (
  each pair.0 pair.1 (ap (λ o. cond (is_eq o) (Some pair.1) (find key_cmp pair.0 others)) (tied_itself key_cmp_total pair.0)),
  all_from_each P others (second (below_all key_cmp pair.0 others) _ sorted)
      (λ thread info found. each thread info
      (past_first (key_cmp thread pair.0) thread info pair others refl (first _ _ sorted) found)),
)

-- ---- the joined range
one_ordered : (info : StreamFacts) → IsHonestSomehow info → 0 < info.num_scopes → ¬ (info.range_ns.1 <ℤ info.range_ns.0)
one_ordered info honest some reversed =
    not_there honest (λ spelled.
    let is = spelled.1 in
    let ordered = forest_range.ordered info.form spelled.0 is.stream.fits (omega (arith, is.counts.num_scopes)) in
    omega (arith, ints, ordered, is.counts.least_start, is.counts.greatest_stop, reversed))

not_above : (a b : ℤ) → ¬ (b <ℤ a) → a ≤ℤ b
not_above a b not_less = grind (arith, ints)

-- nor is the joined range, whether or not the first info has a scope
ordered_from : (n : ℕ) (info : StreamFacts) (infos : List StreamFacts) →
    info.num_scopes ≡ n → IsHonestSomehow info → 0 < total_scopes (info ∷ infos) →
    (0 < total_scopes infos → joined_start infos ≤ℤ joined_stop infos) →
    joined_start (info ∷ infos) ≤ℤ joined_stop (info ∷ infos)
ordered_from zero info infos is honest some later =
    let rest = later (omega (arith, total_scopes-one info infos)) in
    omega (arith, ints, clamps, least_start-one info infos, greatest_stop-one info infos, rest)
ordered_from (suc n) info infos is honest some later =
    let here : info.range_ns.0 ≤ℤ info.range_ns.1 = not_above _ _ (one_ordered info honest (omega arith)) in
    omega (arith, ints, clamps, least_start-one info infos, greatest_stop-one info infos, here)

all_ordered : (infos : List StreamFacts) →
    AllByRecursion IsHonestSomehow infos → 0 < total_scopes infos →
    joined_start infos ≤ℤ joined_stop infos
all_ordered [] all some = absurd (omega arith)
all_ordered (info ∷ infos) all some = ordered_from info.num_scopes info infos refl all.0 some (all_ordered infos all.1)

pub ordered : (streams : Streams) →
    AreHonest streams → 0 < total_scopes (values streams) →
    IsOrdered (joined_range (values streams))
ordered streams honest some =
    all_ordered (values streams) (all_from_each IsHonestSomehow (entries streams) (entries_sorted streams)
    (λ thread info found. honest thread info (get-entries streams thread ∙ found))) some

-- ---- no scope
none_at_test : (b : Bool) (pair : ThreadKey × StreamFacts) (info : StreamFacts) (there : Option StreamFacts) →
    pair.1.num_scopes ≡ 0 → (there ≡ Some info → info.num_scopes ≡ 0) → cond b (Some pair.1) there ≡ Some info →
    info.num_scopes ≡ 0
none_at_test true pair info there nothing later found =
    let same : pair.1 ≡ info = cc in sym (ap (λ x. x.num_scopes) same) ∙ nothing
none_at_test false pair info there nothing later found = later found

-- in a sum of nothing each number is nothing
none_of : (pairs : List (ThreadKey × StreamFacts)) (thread : ThreadKey) (info : StreamFacts) →
    total_scopes (map (λ pair. pair.1) pairs) ≡ 0 → find key_cmp thread pairs ≡ Some info →
    info.num_scopes ≡ 0
none_of [] thread info nothing found = absurd cc
none_of (pair ∷ others) thread info nothing found =
    let sum = total_scopes-one pair.1 (map (λ f. f.1) others) in
    none_at_test (is_eq (key_cmp thread pair.0)) pair info (find key_cmp thread others)
    (omega (arith, sum, nothing)) (none_of others thread info (omega (arith, sum, nothing))) found

pub no_scopes_there : (streams : Streams) (thread : ThreadKey) (info : StreamFacts) →
    total_scopes (values streams) ≡ 0 → get streams thread ≡ Some info →
    info.num_scopes ≡ 0
no_scopes_there streams thread info nothing found =
    none_of (entries streams) thread info nothing (sym (get-entries streams thread) ∙ found)
