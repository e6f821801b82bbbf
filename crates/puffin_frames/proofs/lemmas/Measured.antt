-- How a report changes the totals and the joined range of the streams of a map.
use Rattle.std.proofs.Common.{◌≡◌, ℕ, ◌+◌, ◌≤◌, Option, length, List, [], ◌∷◌, map, Bool, true, false, ◌&&◌, T, cond, None, Some, refl, sym, ap, ◌∙◌, arith}
use Rattle.std.specs.declared.cmp.Ordering.{Ordering}
use Rattle.std.specs.declared.cmp.Ordering.TheVariants.{Less, Equal, Greater}
use Rattle.std.specs.Ordering.{is_eq, is_lt}
use Rattle.std.specs.Option.{unwrap_or}
use Rattle.std.specs.Int.{int_min, int_max}
use Rattle.std.specs.FinMap.{get, empty, entries, values, find, put, is_sorted, entries_sorted, entries-insert, get-entries}
use Rattle.std.specs.FinMap.Entries.{by_order, below_all}
use Rattle.std.proofs.lemmas.Int.{ints, clamps}
use Rattle.std.proofs.lemmas.List.{length-append}
use Rattle.puffin_data.specs.Honesty.{StreamFacts, joined_facts}
use Rattle.puffin_threads.specs.Thread.ThreadKey.{ThreadKey, key_cmp}
use Rattle.puffin_frames.specs.Frame.Contents.{Streams, stream_under, reported_to, no_scopes}
use Rattle.puffin_frames.specs.Frame.Sums.{total_bytes, total_scopes, joined_start, joined_stop}
use Rattle.puffin_threads.proofs.lemmas.ThreadKeys.{key_cmp_total}
use Rattle.puffin_threads.proofs.lemmas.EntriesSeen.{entries-empty}
use Rattle.puffin_frames.proofs.Joining.{bytes_from, scopes_from}
use Rattle.puffin_frames.proofs.lemmas.Ranges.{least_start-one, greatest_stop-one, least_in_range, greatest_in_range}

-- facts about tests
pub first : (a b : Bool) → T (a && b) → T a
first true b p = tt
first false b p = p

pub second : (a b : Bool) → T (a && b) → T b
second true b p = p
second false b p = absurd p

pub less : (o : Ordering) → T (is_lt o) → o ≡ Less
less Less p = refl
less Equal p = absurd p
less Greater p = absurd p

-- a key below all others isn't among them
none_below : (thread least : ThreadKey) (pairs : List (ThreadKey × StreamFacts)) →
    key_cmp thread least ≡ Less → T (below_all key_cmp least pairs) →
    find key_cmp thread pairs ≡ None
none_below thread least [] less_than below = refl
none_below thread least (pair ∷ others) less_than below =
    ap (λ o. cond (is_eq o) (Some pair.1) (find key_cmp thread others))
    (key_cmp_total.trans thread least pair.0 less_than (less (key_cmp least pair.0) (first _ _ below)))
    ∙ none_below thread least others less_than (second (is_lt (key_cmp least pair.0)) _ below)

-- what is found under a key in a list of pairs, with a report joined to it
abbrev with_report : Option StreamFacts → StreamFacts → StreamFacts
with_report found report = joined_facts (unwrap_or found no_scopes) report

-- the infos in a list of pairs
abbrev infos_of : List (ThreadKey × StreamFacts) → List StreamFacts
infos_of pairs = map (λ pair. pair.1) pairs

-- `all` measures a list of infos: the measures `one` of its infos are put together by `op`, and those of joined infos too. A first
-- report measures as much as itself, and the order in which measures are put together doesn't matter.
pub record IsMeasure {N : Type 0} (all : List StreamFacts → N) (one : StreamFacts → N) (op : N → N → N) : Type 0 where
  pub more : (info : StreamFacts) (infos : List StreamFacts) → all (info ∷ infos) ≡ op (one info) (all infos)
  pub joins : (info report : StreamFacts) → one (joined_facts info report) ≡ op (one info) (one report)
  pub fresh : (report : StreamFacts) (infos : List StreamFacts) →
      op (one (joined_facts no_scopes report)) (all infos) ≡ op (all infos) (one report)
  pub swap : (a b c : N) → op (op a b) c ≡ op (op a c) b
  pub assoc : (a b c : N) → op a (op b c) ≡ op (op a b) c

module _ {N : Type 0} {all : List StreamFacts → N} {one : StreamFacts → N} {op : N → N → N} (m : IsMeasure all one op) where
  -- by how the report's thread compares to that of the first pair: it comes before, it is that thread, or it comes later
  at_order : (order : Ordering) (thread : ThreadKey) (report : StreamFacts) (pair : ThreadKey × StreamFacts)
      (pairs : List (ThreadKey × StreamFacts)) →
      key_cmp thread pair.0 ≡ order → T (below_all key_cmp pair.0 pairs) →
      all (infos_of (put key_cmp thread (with_report (find key_cmp thread pairs) report) pairs))
      ≡ op (all (infos_of pairs)) (one report) →
      all (infos_of (by_order order ((
        thread,
        with_report (cond (is_eq order) (Some pair.1) (find key_cmp thread pairs)) report,
      ) ∷ (pair ∷ pairs))
      ((pair.0, with_report (cond (is_eq order) (Some pair.1) (find key_cmp thread pairs)) report) ∷ pairs)
      (pair ∷ put key_cmp thread (with_report (cond (is_eq order) (Some pair.1) (find key_cmp thread pairs)) report)
      pairs))) ≡ op (all (pair.1 ∷ infos_of pairs)) (one report)
  at_order Less thread report pair pairs before below later =
      ap (λ found. all (with_report found report ∷ (pair.1 ∷ infos_of pairs)))
      (none_below thread pair.0 pairs before below)
      ∙ m.more (joined_facts no_scopes report) (pair.1 ∷ infos_of pairs)
      ∙ m.fresh report (pair.1 ∷ infos_of pairs)
  at_order Equal thread report pair pairs same below later =
      m.more (joined_facts pair.1 report) (infos_of pairs)
      ∙ ap (λ n. op n (all (infos_of pairs))) (m.joins pair.1 report)
      ∙ m.swap (one pair.1) (one report) (all (infos_of pairs))
      ∙ ap (λ n. op n (one report)) (sym (m.more pair.1 (infos_of pairs)))
  at_order Greater thread report pair pairs above below later =
      m.more pair.1 (infos_of (put key_cmp thread (with_report (find key_cmp thread pairs) report) pairs))
      ∙ ap (op (one pair.1)) later
      ∙ m.assoc (one pair.1) (all (infos_of pairs)) (one report)
      ∙ ap (λ n. op n (one report)) (sym (m.more pair.1 (infos_of pairs)))

  in_entries : (thread : ThreadKey) (report : StreamFacts) (pairs : List (ThreadKey × StreamFacts)) →
      T (is_sorted key_cmp pairs) →
      all (infos_of (put key_cmp thread (with_report (find key_cmp thread pairs) report) pairs))
      ≡ op (all (infos_of pairs)) (one report)
  in_entries thread report [] sorted = m.more (joined_facts no_scopes report) [] ∙ m.fresh report []
  in_entries thread report (pair ∷ pairs) sorted =
      at_order (key_cmp thread pair.0) thread report pair pairs refl (first _ _ sorted)
      (in_entries thread report pairs (second (below_all key_cmp pair.0 pairs) _ sorted))

  -- the measure of what is there and is reported
  pub after_report : (streams : Streams) (thread : ThreadKey) (report : StreamFacts) →
      all (values (reported_to streams thread report)) ≡ op (all (values streams)) (one report)
  after_report streams thread report =
      ap (λ pairs. all (infos_of pairs))
      (entries-insert key_cmp_total streams thread (with_report (get streams thread) report)
      ∙ ap (λ found. put key_cmp thread (with_report found report) (entries streams)) (get-entries streams thread))
      ∙ in_entries thread report (entries streams) (entries_sorted streams)

-- ---- the four measures
bytes_from-add : (n : ℕ) (infos : List StreamFacts) → bytes_from n infos ≡ n + total_bytes infos
bytes_from-add n [] = omega arith
bytes_from-add n (info ∷ infos) =
    let here = bytes_from-add (n + length info.bytes) infos in
    let there = bytes_from-add (0 + length info.bytes) infos in
    omega (arith, here, there)

scopes_from-add : (n : ℕ) (infos : List StreamFacts) → scopes_from n infos ≡ n + total_scopes infos
scopes_from-add n [] = omega arith
scopes_from-add n (info ∷ infos) =
    let here = scopes_from-add (n + info.num_scopes) infos in
    let there = scopes_from-add (0 + info.num_scopes) infos in
    omega (arith, here, there)

pub total_bytes-one : (info : StreamFacts) (infos : List StreamFacts) →
    total_bytes (info ∷ infos) ≡ length info.bytes + total_bytes infos
total_bytes-one info infos = let sum = bytes_from-add (0 + length info.bytes) infos in omega (arith, sum)

pub total_scopes-one : (info : StreamFacts) (infos : List StreamFacts) →
    total_scopes (info ∷ infos) ≡ info.num_scopes + total_scopes infos
total_scopes-one info infos = let sum = scopes_from-add (0 + info.num_scopes) infos in omega (arith, sum)

pub bytes_measure : IsMeasure total_bytes (λ r. length r.bytes) (λ a b. a + b)
bytes_measure = record {
  more = total_bytes-one;
  joins = λ a b. length-append a.bytes b.bytes;
  fresh = λ r xs. omega arith;
  swap = λ a b c. omega arith;
  assoc = λ a b c. omega arith;
}

pub scopes_measure : IsMeasure total_scopes (λ r. r.num_scopes) (λ a b. a + b)
scopes_measure = record {
  more = total_scopes-one;
  joins = λ a b. refl;
  fresh = λ r xs. omega arith;
  swap = λ a b c. omega arith;
  assoc = λ a b c. omega arith;
}

pub starts_measure : IsMeasure joined_start (λ r. r.range_ns.0) int_min
starts_measure = record {
  more = least_start-one;
  joins = λ a b. refl;
  fresh = λ r xs. let top = least_in_range xs in omega (arith, ints, clamps, top);
  swap = λ a b c. omega (arith, ints, clamps);
  assoc = λ a b c. omega (arith, ints, clamps);
}

pub stops_measure : IsMeasure joined_stop (λ r. r.range_ns.1) int_max
stops_measure = record {
  more = greatest_stop-one;
  joins = λ a b. refl;
  fresh = λ r xs. let bottom = greatest_in_range xs in omega (arith, ints, clamps, bottom);
  swap = λ a b c. omega (arith, ints, clamps);
  assoc = λ a b c. omega (arith, ints, clamps);
}

-- ---- the scopes under one info
at_test_least : (b : Bool) (pair : ThreadKey × StreamFacts) (found : Option StreamFacts) (rest : ℕ) →
    (unwrap_or found no_scopes).num_scopes ≤ rest →
    (unwrap_or (cond b (Some pair.1) found) no_scopes).num_scopes ≤ pair.1.num_scopes + rest
at_test_least true pair found rest least = omega arith
at_test_least false pair found rest least = omega arith

found_least : (thread : ThreadKey) (pairs : List (ThreadKey × StreamFacts)) →
    (unwrap_or (find key_cmp thread pairs) no_scopes).num_scopes ≤ total_scopes (map (λ pair. pair.1) pairs)
found_least thread [] = omega arith
found_least thread (pair ∷ others) =
    let sum = total_scopes-one pair.1 (map (λ other. other.1) others) in
    let here =
    at_test_least (is_eq (key_cmp thread pair.0)) pair (find key_cmp thread others)
    (total_scopes (map (λ other. other.1) others))
    (found_least thread others) in
    omega (arith, sum, here)

pub under_one : (streams : Streams) (thread : ThreadKey) →
    (stream_under streams thread).num_scopes ≤ total_scopes (values streams)
under_one streams thread =
    let least = found_least thread (entries streams) in
    omega (arith, ap (λ o. (unwrap_or o no_scopes).num_scopes) (get-entries streams thread), least)

-- the streams of no thread
pub no_values : values (empty {X = StreamFacts} {R = key_cmp}) ≡ []
no_values = ap (map (λ e. e.1)) (entries-empty key_cmp)
