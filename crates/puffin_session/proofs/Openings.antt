-- Before any command, a session is in the state of its opening: what is collected spells what is due.
use Rattle.std.proofs.Common.{◌≡◌, ℤ, Bool, true, false, cond, ◌&&◌, T, List, [], ◌∷◌, map, fold, unwrap_or, Option, Some, None, refl, sym, ap, ◌∙◌, subst, append-nil, arith}
use Rattle.std.specs.declared.cmp.Ordering.{Ordering}
use Rattle.std.specs.declared.cmp.Ordering.TheVariants.{Less, Equal, Greater}
use Rattle.std.specs.Ordering.{is_lt, is_eq}
use mathlib.Core.Logic.{∥∥₁_map}
use Rattle.std.specs.List.{list_any}
use Rattle.std.specs.Option.{option_map, option_or}
use Rattle.std.specs.FinMap.{get, entries, entries_sorted, get-entries, find, is_sorted}
use Rattle.std.specs.FinMap.Entries.{below_all}
use Rattle.puffin_data.specs.Honesty.{StreamFacts}
use Rattle.puffin_data.specs.Forest.Tour.{Event}
use Rattle.puffin_threads.specs.Thread.ThreadKey.{ThreadKey, key_cmp, has_same_key}
use Rattle.puffin_frames.specs.Frame.Contents.{Streams, AreHonest}
use Rattle.puffin_threads.specs.Thread.Events.{events_in}
use Rattle.puffin_session.specs.Session.History.{Word, since_last, thread_at}
use Rattle.puffin_session.specs.Session.Deliveries.{Marked, Delivery, under}
use Rattle.puffin_session.specs.Session.Due.{due, is_taken, no_word, joined_word, with_delivery, total_under}
use Rattle.puffin_session.specs.Session.{SessionState, word_in, opening_of, StandsAfter, SpellsIfAny, SpellsDue}
use Rattle.puffin_session.proofs.Laws.{has_same_key-one, events_in-spelling}
use Rattle.puffin_session.proofs.Telling.{details_registered-opening, due_details-opening}

-- ---- what is collected, as what is due

-- the word that a stream's bytes spell
abbrev pub word_of_facts : StreamFacts → Word
word_of_facts r = word_in r.form r.bytes

-- these streams, as words that are due
abbrev pub due_of : List (ThreadKey × StreamFacts) → List Delivery
due_of es = map (λ (d : ThreadKey × Word). under d.0 d.1) (map (λ (e : ThreadKey × StreamFacts). (e.0, word_of_facts e.1)) es)

first : (a b : Bool) → T (a && b) → T a
first true b p = tt
first false b p = p

second : (a b : Bool) → T (a && b) → T b
second true b p = p
second false b p = absurd p

less_apart : (o : Ordering) → T (is_lt o) → is_eq o ≡ false
less_apart Less p = refl
less_apart Equal p = absurd p
less_apart Greater p = absurd p

-- what is due under greater infos alone adds nothing
kept_below : (k : ThreadKey) (es : List (ThreadKey × StreamFacts)) (sofar : Option Word) → T (below_all key_cmp k es)
    → fold (with_delivery k) sofar (due_of es) ≡ sofar
kept_below k [] sofar h = refl
kept_below k (e ∷ es) sofar h =
    ap
    (λ b. fold (with_delivery k) (cond b (Some (joined_word (unwrap_or sofar no_word) (word_of_facts e.1))) sofar)
    (due_of es)) (less_apart (key_cmp k e.0) (first (is_lt (key_cmp k e.0)) (below_all key_cmp k es) h))
    ∙ kept_below k es sofar (second (is_lt (key_cmp k e.0)) (below_all key_cmp k es) h)

total_at : (i : ThreadKey) (e : ThreadKey × StreamFacts) (es : List (ThreadKey × StreamFacts)) (b : Bool)
    → has_same_key i e.0 ≡ b → T (below_all key_cmp e.0 es)
    → total_under (due_of es) i ≡ option_map word_of_facts (find key_cmp i es)
    → total_under (due_of (e ∷ es)) i ≡ option_map word_of_facts (cond b (Some e.1) (find key_cmp i es))
total_at i e es true same below later =
    ap (λ b. fold (with_delivery i) (cond b (Some (word_of_facts e.1)) None) (due_of es)) same
    ∙ subst (λ k. fold (with_delivery k) (Some (word_of_facts e.1)) (due_of es) ≡ Some (word_of_facts e.1))
    (sym (has_same_key-one i e.0 same)) (kept_below e.0 es (Some (word_of_facts e.1)) below)
total_at i e es false same below later = ap (λ b. fold (with_delivery i) (cond b (Some (word_of_facts e.1)) None) (due_of es)) same ∙ later

total_sorted : (i : ThreadKey) (es : List (ThreadKey × StreamFacts)) → T (is_sorted key_cmp es)
    → total_under (due_of es) i ≡ option_map word_of_facts (find key_cmp i es)
total_sorted i [] h = refl
total_sorted i (e ∷ es) h =
    total_at i e es (has_same_key i e.0) refl (first (below_all key_cmp e.0 es) (is_sorted key_cmp es) h)
    (total_sorted i es (second (below_all key_cmp e.0 es) (is_sorted key_cmp es) h))

spells_if_honest : (streams : Streams) (i : ThreadKey) → AreHonest streams → (a : Option StreamFacts)
    → get streams i ≡ a → SpellsIfAny a (option_map word_of_facts a)
spells_if_honest streams i honest None e = tt
spells_if_honest streams i honest (Some r) e =
    ∥∥₁_map (honest i r e) (λ (forest, honest). record {
      forest = forest;
      honest = honest;
      form = refl;
      toured =
          sym (ap (events_in r.form) honest.stream.whole ∙ events_in-spelling r.form forest honest.stream.fits);
    })

-- what is collected spells itself, as words that are due
pub SpellsDue-collected : (streams : Streams) → AreHonest streams → SpellsDue streams (due_of (entries streams))
SpellsDue-collected streams honest i =
    rw (total_sorted i (entries streams) (entries_sorted streams)
    ∙ ap (option_map word_of_facts) (sym (get-entries streams i)))
    (spells_if_honest streams i honest (get streams i) refl)

-- ---- no frame, and no report, before any command

no_frame : (ds : List (ThreadKey × Word))
    → (list_any is_taken (map (λ d. under d.0 d.1) ds) ≡ false)
    × (since_last is_taken (map (λ d. under d.0 d.1) ds) ≡ map (λ d. under d.0 d.1) ds)
no_frame [] = (refl, refl)
no_frame (d ∷ ds) = let (none, all) = no_frame ds in (none, rw none)

no_report : (word : List Event) → (list_any (λ (m : Marked). m.reported) (map (λ e. record { event = e; reported = false }) word) ≡ false)
    × (map (λ (m : Marked). m.event) (since_last (λ m. m.reported) (map (λ e. record { event = e; reported = false }) word)) ≡ word)
no_report [] = (refl, refl)
no_report (e ∷ word) = let (none, all) = no_report word in (none, rw none (ap (λ w. e ∷ w) (marks_back word)))
  where
    marks_back : (word : List Event) → map (λ (m : Marked). m.event) (map (λ e. record { event = e; reported = false }) word) ≡ word
    marks_back [] = refl
    marks_back (f ∷ later) = ap (λ w. f ∷ w) (marks_back later)

or_none : (a : Option ℤ) → option_or a None ≡ a
or_none None = refl
or_none (Some x) = refl

-- so it is what is due at the opening, where no action was done yet
pub due-opening : (s : SessionState) → due (opening_of s) [] ≡ due_of (entries s.collected.streams)
due-opening s =
    ap (since_last is_taken) (append-nil (due_of (entries s.collected.streams)))
    ∙ (no_frame (map (λ e. (e.0, word_of_facts e.1)) (entries s.collected.streams))).1

-- a session stands at its own opening
pub StandsAfter-opening : (s : SessionState) → AreHonest s.collected.streams → StandsAfter (opening_of s) [] s
StandsAfter-opening s honest = record {
  num_threads = refl;
  threads = λ t lt i. record {
    name = (thread_at (opening_of s) t).name;
    form = (thread_at (opening_of s) t).form;
    first_start = sym (or_none (thread_at (opening_of s) t).first_start) i;
    latest = (thread_at (opening_of s) t).latest;
    word = sym
        (ap (λ ms. map (λ (m : Marked). m.event) (since_last (λ m. m.reported) ms))
        (append-nil (map (λ e. record { event = e; reported = false }) (thread_at (opening_of s) t).word))
        ∙ (no_report (thread_at (opening_of s) t).word).1) i;
    details = sym (details_registered-opening (opening_of s) t) i;
  };
  collected = subst (λ ds. SpellsDue s.collected.streams ds) (sym (due-opening s)) (SpellsDue-collected s.collected.streams honest);
  index = omega arith;
  reported = omega arith;
  tells = record { collection = refl; new_details = sym (due_details-opening (opening_of s)); wants_all = refl };
}
