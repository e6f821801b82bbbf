-- The sums over all that is collected are those of all that is due, so that a report's refusal is one in the history's words.
use Rattle.std.proofs.Common.{◌≡◌, ℕ, inl, inr, ℤ, ◌<ℤ◌, Bool, true, false, cond, ◌&&◌, T, List, [], ◌∷◌, ◌++◌, length, map, Option, Some, None, refl, sym, ap, ◌∙◌, subst, arith, append-nil}
use Rattle.std.specs.declared.cmp.Ordering.{Ordering}
use Rattle.std.specs.declared.cmp.Ordering.TheVariants.{Less, Equal, Greater}
use Rattle.std.specs.Ordering.{is_lt, is_eq}
use Rattle.std.specs.List.{flat_map, sum_by}
use Rattle.std.proofs.lemmas.List.Concat.{flat_map-append}
use Rattle.std.proofs.lemmas.List.Sums.{sum_by-cons, sum_by_push}
use Rattle.std.specs.Int.{int_min, int_max}
use Rattle.std.specs.FinMap.{get, entries, entries_sorted, get-entries, values, empty, find, is_sorted, len-entries, len-empty}
use Rattle.std.specs.FinMap.Entries.{below_all}
use Rattle.std.proofs.lemmas.Bool.{cases_eq}
use Rattle.std.proofs.lemmas.Int.{ints, clamps}
use Rattle.std.proofs.lemmas.Grind.{not_there}
use mathlib.Core.Logic.{∥∥₁_map}
use Rattle.puffin_data.specs.declared.error.Error.{Error}
use Rattle.puffin_data.specs.Forest.{Forest}
use Rattle.puffin_data.specs.Honesty.{StreamFacts, AreHonestFacts}
use Rattle.puffin_data.specs.Forest.Tour.{Event}
use Rattle.puffin_data.specs.Forest.Words.{word_size, num_begun, least_open, greatest_close}
use Rattle.puffin_threads.specs.Thread.Events.{events_in}
use Rattle.puffin_threads.specs.Thread.ThreadKey.{ThreadKey, key_cmp, has_same_key}
use Rattle.puffin_threads.specs.Details.{Details, AllHaveIds}
use Rattle.puffin_frames.specs.Frame.Contents.{Streams, AreHonest, reported_to}
use Rattle.puffin_frames.specs.Frame.Sums.{total_bytes, total_scopes, joined_start, joined_stop}
use Rattle.puffin_collector.specs.Collector.State.{PendingFits, range_with, IsTooLong, IsUnlike, IsReportRefusal}
use Rattle.puffin_session.specs.Session.History.{Word, Opening, Action}
use Rattle.puffin_session.specs.Session.Deliveries.{Delivery, under}
use Rattle.puffin_session.specs.Session.Due.{due, total_under, IsUnlikeDue, events_of, bytes_delivered, scopes_delivered}
use Rattle.puffin_session.specs.Session.{SessionState, opening_of, StandsAfter, SpellsWord}
use Rattle.puffin_session.specs.Session.Replies.{DueFits, MayReport, IsDueRefusal}
use Rattle.puffin_session.specs.inner.Serving.{SumsTo}
use Rattle.puffin_session.proofs.Laws.{least_open-append, greatest_close-append, num_begun-tour, least_open-tour, greatest_close-tour, has_same_key-one, has_same_key-itself, events_in-spelling, after_report, bytes_measure, scopes_measure, starts_measure, stops_measure, total_bytes-one, total_scopes-one, least_start-one, greatest_stop-one}
use Rattle.puffin_session.proofs.Openings.{word_of_facts, due_of, due-opening}
use Rattle.puffin_session.proofs.SpelledWords.{size_of, unlike_due, unlike_pending}

-- ---- one stream

-- the numbers of a stream are those of the word that it spells
pub scopes_of : (r : StreamFacts) (word : Word) → SpellsWord r word → r.num_scopes ≡ num_begun word.events
scopes_of r word h = h.honest.counts.num_scopes ∙ sym (num_begun-tour h.forest) ∙ ap num_begun h.toured

start_of : (r : StreamFacts) (word : Word) → SpellsWord r word → r.range_ns.0 ≡ least_open word.events
start_of r word h = h.honest.counts.least_start ∙ sym (least_open-tour h.forest) ∙ ap least_open h.toured

stop_of : (r : StreamFacts) (word : Word) → SpellsWord r word → r.range_ns.1 ≡ greatest_close word.events
stop_of r word h = h.honest.counts.greatest_stop ∙ sym (greatest_close-tour h.forest) ∙ ap greatest_close h.toured

-- ---- one more report

events_with : (ds : List Delivery) (i : ThreadKey) (word : Word)
    → flat_map events_of (ds ++ (under i word ∷ [])) ≡ flat_map events_of ds ++ word.events
events_with ds i word =
    flat_map-append events_of ds (under i word ∷ [])
    ∙ ap (λ (w : List Event). flat_map events_of ds ++ w) (append-nil word.events)

-- the sums stay those of what is due
pub SumsTo-reported : (streams : Streams) (ds : List Delivery) (i : ThreadKey) (r : StreamFacts) (word : Word)
    → SumsTo streams ds → SpellsWord r word → SumsTo (reported_to streams i r) (ds ++ (under i word ∷ []))
SumsTo-reported streams ds i r word before spells =
    let events = flat_map events_of ds in
    record {
      bytes = omega (
        arith,
        after_report bytes_measure streams i r,
        before.bytes,
        size_of r word spells,
        sum_by_push bytes_delivered ds (under i word),
      );
      scopes = omega (
        arith,
        after_report scopes_measure streams i r,
        before.scopes,
        scopes_of r word spells,
        sum_by_push scopes_delivered ds (under i word),
      );
      start = after_report starts_measure streams i r
          ∙ ap (λ x. int_min x r.range_ns.0) before.start
          ∙ ap (int_min (least_open events)) (start_of r word spells)
          ∙ sym (ap least_open (events_with ds i word) ∙ least_open-append events word.events);
      stop = after_report stops_measure streams i r
          ∙ ap (λ x. int_max x r.range_ns.1) before.stop
          ∙ ap (int_max (greatest_close events)) (stop_of r word spells)
          ∙ sym (ap greatest_close (events_with ds i word) ∙ greatest_close-append events word.events);
    }

-- ---- before any report

no_length : (es : List (ThreadKey × StreamFacts)) → length es ≡ 0 → es ≡ []
no_length [] e = refl
no_length (x ∷ es) e = absurd (omega arith)

values_none : values (empty {X = StreamFacts} {R = key_cmp}) ≡ []
values_none = ap (map (λ e. e.1)) (no_length _ (sym (len-entries (empty {X = StreamFacts} {R = key_cmp})) ∙ len-empty key_cmp StreamFacts))

-- nothing sums to nothing
pub SumsTo-none : SumsTo empty []
SumsTo-none = record {
  bytes = ap total_bytes values_none;
  scopes = ap total_scopes values_none;
  start = ap joined_start values_none;
  stop = ap joined_stop values_none;
}

-- ---- at the opening: each entry of a sorted map is found, so its sums are those of its word

-- numbers that are equal where something is there are equal where it merely is
same_there : {P : Type 0} (a b : ℕ) → ∥ P ∥₁ → (P → a ≡ b) → a ≡ b
same_there a b there same = elim (cases_eq a b) [
  | inl e ↦ e
  | inr apart ↦ absurd (not_there there (λ p. apart (same p)))
]

between : (a b : ℤ) → ¬ (a <ℤ b) → ¬ (b <ℤ a) → a ≡ b
between a b not_below not_above = grind (arith, ints)

same_time_there : {P : Type 0} (a b : ℤ) → ∥ P ∥₁ → (P → a ≡ b) → a ≡ b
same_time_there a b there same =
    between a b (λ lt. not_there there (λ p. let e = same p in omega (arith, ints, lt, e)))
    (λ gt. not_there there (λ p. let e = same p in omega (arith, ints, gt, e)))

EachHonest : List (ThreadKey × StreamFacts) → Type 0
EachHonest [] = Unit {0}
EachHonest (e ∷ es) = ∥ ((f : Forest) × AreHonestFacts e.1 f) ∥₁ × EachHonest es

-- the parts of what is both
first : (a b : Bool) → T (a && b) → T a
first true b p = tt
first false b p = p

second : (a b : Bool) → T (a && b) → T b
second true b p = p
second false b p = absurd p

less : (o : Ordering) → T (is_lt o) → o ≡ Less
less Less p = refl
less Equal p = absurd p
less Greater p = absurd p

-- a key below all others isn't among them
find_below : (k : ThreadKey) (es : List (ThreadKey × StreamFacts)) → T (below_all key_cmp k es) → find key_cmp k es ≡ None
find_below k [] h = refl
find_below k (e ∷ es) h =
    ap (λ r. cond (is_eq r) (Some e.1) (find key_cmp k es))
    (less (key_cmp k e.0) (first (is_lt (key_cmp k e.0)) (below_all key_cmp k es) h))
    ∙ find_below k es (second (is_lt (key_cmp k e.0)) (below_all key_cmp k es) h)

abbrev AllFound : List (ThreadKey × StreamFacts) → Type 0
AllFound es = (i : ThreadKey) (r : StreamFacts) → find key_cmp i es ≡ Some r → ∥ ((f : Forest) × AreHonestFacts r f) ∥₁

found_later : (e : ThreadKey × StreamFacts) (es : List (ThreadKey × StreamFacts)) → T (below_all key_cmp e.0 es)
    → AllFound (e ∷ es) → AllFound es
found_later e es below all i r found = at_test (has_same_key i e.0) refl
  where
    none_some : (r : StreamFacts) → ◌≡◌ {A = Option StreamFacts} None (Some r) → ⊥
    none_some r e = cc

    at_test : (b : Bool) → has_same_key i e.0 ≡ b → ∥ ((f : Forest) × AreHonestFacts r f) ∥₁
    at_test true same =
        let gone : find key_cmp i es ≡ None =
        subst (λ k. find key_cmp k es ≡ None) (sym (has_same_key-one i e.0 same)) (find_below e.0 es below) in
        absurd (none_some r (sym gone ∙ found))
    at_test false other = all i r (ap (λ (b : Bool). cond b (Some e.1) (find key_cmp i es)) other ∙ found)

each_honest : (es : List (ThreadKey × StreamFacts)) → T (is_sorted key_cmp es) → AllFound es → EachHonest es
unfolding EachHonest
each_honest [] h all = tt
each_honest (e ∷ es) h all =
    let below = first (below_all key_cmp e.0 es) (is_sorted key_cmp es) h in (
      all e.0 e.1 (ap (λ (b : Bool). cond b (Some e.1) (find key_cmp e.0 es)) (has_same_key-itself e.0)),
      each_honest es (second (below_all key_cmp e.0 es) (is_sorted key_cmp es) h) (found_later e es below all),
    )

abbrev events_at : List (ThreadKey × StreamFacts) → List Event
events_at es = flat_map events_of (due_of es)

spells_itself : (r : StreamFacts) → ∥ ((f : Forest) × AreHonestFacts r f) ∥₁ → ∥ SpellsWord r (word_of_facts r) ∥₁
spells_itself r somehow =
    ∥∥₁_map somehow (λ (forest, honest). record {
      forest = forest;
      honest = honest;
      form = refl;
      toured = sym (ap (events_in r.form) honest.stream.whole ∙ events_in-spelling r.form forest honest.stream.fits);
    })

abbrev records_of : List (ThreadKey × StreamFacts) → List StreamFacts
records_of es = map (λ e. e.1) es

-- the sums over entries, each by itself
record EntriesSum (es : List (ThreadKey × StreamFacts)) : Type 0 where
  bytes : total_bytes (records_of es) ≡ sum_by bytes_delivered (due_of es)
  scopes : total_scopes (records_of es) ≡ sum_by scopes_delivered (due_of es)
  start : joined_start (records_of es) ≡ least_open (events_at es)
  stop : joined_stop (records_of es) ≡ greatest_close (events_at es)

entries_sum : (es : List (ThreadKey × StreamFacts)) → EachHonest es → EntriesSum es
unfolding EachHonest
entries_sum [] each = record { bytes = refl; scopes = refl; start = refl; stop = refl }
entries_sum (e ∷ es) (honest, others) =
    let later = entries_sum es others in
    let word = word_of_facts e.1 in
    let spells = spells_itself e.1 honest in
    let size = same_there (length e.1.bytes) (word_size word.form word.events) spells (size_of e.1 word) in
    let scopes = same_there e.1.num_scopes (num_begun word.events) spells (scopes_of e.1 word) in
    let start = same_time_there e.1.range_ns.0 (least_open word.events) spells (start_of e.1 word) in
    let stop = same_time_there e.1.range_ns.1 (greatest_close word.events) spells (stop_of e.1 word) in
    record {
      bytes = omega (
        arith,
        total_bytes-one e.1 (records_of es),
        later.bytes,
        size,
        sum_by-cons bytes_delivered (under e.0 word) (due_of es),
      );
      scopes = omega (
        arith,
        total_scopes-one e.1 (records_of es),
        later.scopes,
        scopes,
        sum_by-cons scopes_delivered (under e.0 word) (due_of es),
      );
      start = least_start-one e.1 (records_of es)
          ∙ ap (λ x. int_min x (joined_start (records_of es))) start
          ∙ ap (int_min (least_open word.events)) later.start
          ∙ sym (least_open-append word.events (events_at es));
      stop = greatest_stop-one e.1 (records_of es)
          ∙ ap (λ x. int_max x (joined_stop (records_of es))) stop
          ∙ ap (int_max (greatest_close word.events)) later.stop
          ∙ sym (greatest_close-append word.events (events_at es));
    }

-- what a session holds at its opening sums to what is due there
pub SumsTo-opening : (s : SessionState) → AreHonest s.collected.streams → SumsTo s.collected.streams (due (opening_of s) [])
SumsTo-opening s honest =
    let streams = s.collected.streams in
    let es = entries streams in
    let sums = entries_sum es (each_honest es (entries_sorted streams) (λ i r found. honest i r (get-entries streams i ∙ found))) in
    subst (λ (ds : List Delivery). SumsTo streams ds) (sym (due-opening s))
    (record { bytes = sums.bytes; scopes = sums.scopes; start = sums.start; stop = sums.stop })

-- ---- refusals in the history's words

min_comm : (x y : ℤ) → int_min x y ≡ int_min y x
min_comm x y = omega (arith, ints, clamps)

max_comm : (x y : ℤ) → int_max x y ≡ int_max y x
max_comm x y = omega (arith, ints, clamps)

module _ (o : Opening) (done : List Action) (now : SessionState) (i : ThreadKey) (r : StreamFacts) (word : Word)
    (stands : StandsAfter o done now) (sums : SumsTo now.collected.streams (due o done))
    (spells : SpellsWord r word) where
  abbrev events : List Event
  events = flat_map events_of (due o done)

  fits : PendingFits now.collected r → DueFits o done word
  fits h = record {
    bytes = omega (arith, h.bytes, sums.bytes, size_of r word spells);
    scopes = omega (arith, h.scopes, sums.scopes, scopes_of r word spells);
    reported = omega (arith, h.reported, stands.reported, scopes_of r word spells);
  }

  fits_back : DueFits o done word → PendingFits now.collected r
  fits_back h = record {
    bytes = omega (arith, h.bytes, sums.bytes, size_of r word spells);
    scopes = omega (arith, h.scopes, sums.scopes, scopes_of r word spells);
    reported = omega (arith, h.reported, stands.reported, scopes_of r word spells);
  }

  start_with : joined_start (r ∷ values now.collected.streams) ≡ least_open (events ++ word.events)
  start_with =
      least_start-one r (values now.collected.streams)
      ∙ ap (int_min r.range_ns.0) sums.start
      ∙ min_comm r.range_ns.0 (least_open events)
      ∙ ap (int_min (least_open events)) (start_of r word spells)
      ∙ sym (least_open-append events word.events)

  stop_with : joined_stop (r ∷ values now.collected.streams) ≡ greatest_close (events ++ word.events)
  stop_with =
      greatest_stop-one r (values now.collected.streams)
      ∙ ap (int_max r.range_ns.1) sums.stop
      ∙ max_comm r.range_ns.1 (greatest_close events)
      ∙ ap (int_max (greatest_close events)) (stop_of r word spells)
      ∙ sym (greatest_close-append events word.events)

  range : range_with now.collected r ≡ (least_open (events ++ word.events), greatest_close (events ++ word.events))
  range i = (start_with i, stop_with i)

  unlike : IsUnlike now.collected i r → IsUnlikeDue (due o done) i word
  unlike = unlike_due (get now.collected.streams i) (total_under (due o done) i) r word (stands.collected i) spells

  like : ¬ IsUnlike now.collected i r → ¬ IsUnlikeDue (due o done) i word
  like none apart =
      none
      (unlike_pending (get now.collected.streams i) (total_under (due o done) i) r word (stands.collected i) spells
      apart)

  pub MayReport-from : ¬ IsUnlike now.collected i r → PendingFits now.collected r
      → ¬ IsTooLong (range_with now.collected r) → MayReport o done i word
  MayReport-from none h short = (like none, fits h, λ long. short (subst IsTooLong (sym range) long))

  -- where all details have their ids
  pub IsRefusal-from : (ds : List Details) (e : Error) → AllHaveIds ds → IsReportRefusal now.collected i ds r e
      → IsDueRefusal o done i word e
  IsRefusal-from ds e ids (inl (is_missing, lacks)) = absurd (lacks ids)
  IsRefusal-from ds e ids (inr (inl (is_unlike, all, apart))) = inl (is_unlike, unlike apart)
  IsRefusal-from ds e ids (inr (inr (all, none, (inl (is_large, unfit))))) =
      inr (inl (is_large, like none, λ h. unfit (fits_back h)))
  IsRefusal-from ds e ids (inr (inr (all, none, (inr (inl (is_long, pending_fits, too_long)))))) =
      inr (inr (inl (is_long, like none, fits pending_fits, subst IsTooLong range too_long)))
  IsRefusal-from ds e ids (inr (inr (all, none, (inr (inr (memory, pending_fits, short)))))) =
      inr (inr (inr (memory, MayReport-from none pending_fits short)))
