-- The first start in a thread's bytes is that in its events, and the times of its events never fall.
use Rattle.std.proofs.Common.{◌≡◌, ◌≢◌, ℕ, ◌-◌, ◌^◌, ℤ, pos, ◌≤ℤ◌, FitsSigned, w64, List, [], ◌∷◌, ◌++◌, length, Option, Some, None, refl, sym, ap, subst, ◌∙◌, arith}
use Rattle.std.specs.Option.{option_or, IfSome}
use Rattle.std.specs.Int.{int_min, int_max}
use Rattle.std.proofs.lemmas.Int.{ints, clamps}
use Rattle.puffin_data.specs.declared.data.form.Form.{Form}
use Rattle.puffin_data.specs.Forest.{Forest, IsForest, empty, node}
use Rattle.puffin_data.specs.Forest.Spelling.{spelling, begin_bytes, end_bytes}
use Rattle.puffin_data.specs.Forest.Tour.{Event, Open, Close, tour}
use Rattle.puffin_data.specs.Forest.Words.{open_after, least_open, greatest_close}
use Rattle.puffin_data.specs.Forest.Open.{Opened, opening_bytes, open_spelling, opening_word, open_word}
use Rattle.puffin_data.proofs.lemmas.WordMeasures.{least_open-opened, least_open-kept, greatest_close-closed, greatest_close-kept}
use Rattle.puffin_threads.specs.inner.FirstStart.{first_open, start_in, range_until}
use Rattle.puffin_threads.specs.inner.StoredThread.{AreOpenBy, IsInOrder}
use Rattle.puffin_threads.proofs.lemmas.Events.{start_there, append_none, regroup_node, regroup_opened}

-- laws of the first of several starts

pub or_none : (start : Option ℤ) → option_or start None ≡ start
or_none None = refl
or_none (Some t) = refl

pub or_or : (a b c : Option ℤ) → option_or (option_or a b) c ≡ option_or a (option_or b c)
or_or None b c = refl
or_or (Some t) b c = refl

some_or : (a b : Option ℤ) (t : ℤ) (c : Option ℤ) →
    option_or (option_or a (option_or b (Some t))) c ≡ option_or a (option_or b (Some t))
some_or None None t c = refl
some_or None (Some s) t c = refl
some_or (Some s) b t c = refl

pub or_again : (a b : Option ℤ) → option_or (option_or a b) b ≡ option_or a b
or_again None None = refl
or_again None (Some t) = refl
or_again (Some t) b = refl

pub first_open-append : (u v : List Event) → first_open (u ++ v) ≡ option_or (first_open u) (first_open v)
first_open-append [] v = refl
first_open-append (Open id text start ∷ u) v = refl
first_open-append (Close stop ∷ u) v = first_open-append u v

-- a word in which no scope opens has no start, which counts as the greatest number
none_opened : (word : List Event) → first_open word ≡ None → least_open word ≡ pos (2 ^ 63 - 1)
none_opened [] e = refl
none_opened (Open id text start ∷ word) e = cc
none_opened (Close stop ∷ word) e = none_opened word e

module _ (form : Form) where
  -- the start at the front of a forest's bytes is the first one of its tour
  forest_start : (forest : Forest) →
      IsForest form forest →
      (more : List ℕ) →
      start_in (spelling form forest ++ more) ≡ option_or (first_open (tour forest)) (start_in more)
  forest_start empty written more = refl
  forest_start (node span children others) written more =
      start_there form span.id (length (spelling form children)) span.start span.text _ _ written.0.start
      (regroup_node (begin_bytes form span.id span.start span.text (length (spelling form children))) (spelling form children)
      (end_bytes span.stop) (spelling form others) more)

  -- the same of the bytes of open scopes
  opening_start : (latest : ℤ) (opened : List Opened) →
      AreOpenBy form latest opened →
      (more : List ℕ) →
      start_in (opening_bytes form opened ++ more) ≡ option_or (first_open (opening_word opened)) (start_in more)
  opening_start latest [] started more = refl
  opening_start latest (scope ∷ outer) started more =
      let begin = begin_bytes form scope.id scope.start scope.text scope.size in
      ap start_in (regroup_opened (opening_bytes form outer) (spelling form scope.before) begin more)
      ∙ opening_start latest outer started.4 (spelling form scope.before ++ (begin ++ more))
      ∙ ap (option_or (first_open (opening_word outer)))
      (forest_start scope.before started.0.before (begin ++ more)
      ∙ ap (option_or (first_open (tour scope.before)))
      (start_there form scope.id scope.size scope.start scope.text more _ started.0.start refl))
      ∙ sym (some_or (first_open (opening_word outer)) (first_open (tour scope.before)) scope.start (start_in more))
      ∙ ap (λ (x : Option ℤ). option_or x (start_in more))
      (sym (first_open-append (opening_word outer) (tour scope.before ++ (Open scope.id scope.text scope.start ∷ []))
      ∙ ap (option_or (first_open (opening_word outer)))
      (first_open-append (tour scope.before) (Open scope.id scope.text scope.start ∷ []))))

  -- and of open scopes followed by closed ones
  pub open_start : (latest : ℤ) (opened : List Opened) (closed : Forest) →
      AreOpenBy form latest opened → IsForest form closed →
      start_in (open_spelling form opened closed) ≡ first_open (open_word opened closed)
  open_start latest opened closed started written =
      opening_start latest opened started (spelling form closed)
      ∙ ap (option_or (first_open (opening_word opened)))
      (ap start_in (sym (append_none (spelling form closed))) ∙ forest_start closed written []
      ∙ or_none (first_open (tour closed)))
      ∙ sym (first_open-append (opening_word opened) (tour closed))

-- without events, and after one more

pub none_in_order : (latest : ℤ) → pos 0 ≤ℤ latest → IsInOrder [] latest
none_in_order latest low = record { least = tt; greatest = omega (arith, ints, low); last = λ _ some. absurd (some refl) }

below : (at : ℤ) → FitsSigned w64 at → int_min (pos (2 ^ 63 - 1)) at ≡ at
below at fits = omega (arith, ints, clamps)

kept_least : (start latest at : ℤ) → start ≤ℤ latest → latest ≤ℤ at → int_min start at ≡ start
kept_least start latest at early later = omega (arith, ints, clamps)

raised : (stop latest at : ℤ) → stop ≤ℤ latest → latest ≤ℤ at → int_max stop at ≡ at
raised stop latest at early later = omega (arith, ints, clamps)

-- the first start stays the least one when a scope opens
opened_least : (word : List Event) (latest at : ℤ) (id : ℕ) (text : List ℕ) →
    latest ≤ℤ at → FitsSigned w64 at →
    (found : Option ℤ) →
    first_open word ≡ found → IfSome found (λ start. (least_open word ≡ start) × (start ≤ℤ latest)) →
    IfSome (option_or found (Some at)) (λ start. (least_open (word ++ (Open id text at ∷ [])) ≡ start) × (start ≤ℤ at))
opened_least word latest at id text later fits None none before = (
  least_open-opened word id text at fits
      ∙ ap (λ (least : ℤ). int_min least at) (none_opened word none)
      ∙ below at fits,
  omega (arith, ints),
)
opened_least word latest at id text later fits (Some start) first before =
    let (least_is, early) = before in (
      least_open-opened word id text at fits
          ∙ ap (λ (least : ℤ). int_min least at) least_is
          ∙ kept_least start latest at early later,
      omega (arith, ints, early, later),
    )

pub opened_in_order : (word : List Event) (latest at : ℤ) (id : ℕ) (text : List ℕ) →
    latest ≤ℤ at → FitsSigned w64 at → open_after 0 (word ++ (Open id text at ∷ [])) ≢ 0 → IsInOrder word latest →
    IsInOrder (word ++ (Open id text at ∷ [])) at
opened_in_order word latest at id text later fits more in_order = record {
  least =
      subst (λ (o : Option ℤ). IfSome o (λ start. (least_open (word ++ (Open id text at ∷ [])) ≡ start) × (start ≤ℤ at)))
      (sym (first_open-append word (Open id text at ∷ [])))
      (opened_least word latest at id text later fits (first_open word) refl in_order.least);
  greatest = let low = in_order.greatest in let same = greatest_close-kept word id text at in omega (arith, ints);
  last = λ none _. absurd (more none);
}

-- and when one closes
closed_least : (word : List Event) (latest at : ℤ) →
    latest ≤ℤ at →
    (found : Option ℤ) →
    IfSome found (λ start. (least_open word ≡ start) × (start ≤ℤ latest)) →
    IfSome found (λ start. (least_open (word ++ (Close at ∷ [])) ≡ start) × (start ≤ℤ at))
closed_least word latest at later None before = tt
closed_least word latest at later (Some start) before =
    let (least_is, early) = before in (least_open-kept word at ∙ least_is, omega (arith, ints, early, later))

pub closed_in_order : (word : List Event) (latest at : ℤ) →
    latest ≤ℤ at → FitsSigned w64 at → IsInOrder word latest →
    IsInOrder (word ++ (Close at ∷ [])) at
closed_in_order word latest at later fits in_order =
    let low = in_order.greatest in
    let greatest : greatest_close (word ++ (Close at ∷ [])) ≡ at =
    greatest_close-closed word at fits ∙ raised (greatest_close word) latest at low later in
    record {
      least =
          subst (λ (o : Option ℤ). IfSome o (λ start. (least_open (word ++ (Close at ∷ [])) ≡ start) × (start ≤ℤ at)))
          (sym (first_open-append word (Close at ∷ []) ∙ or_none (first_open word)))
          (closed_least word latest at later (first_open word) in_order.least);
      greatest = omega (arith, ints);
      last = λ _ _. greatest;
    }

-- the first start of a thread after one event more

pub opened_first : (first : Option ℤ) (word v : List Event) (id : ℕ) (text : List ℕ) (start : ℤ) →
    word ≡ v ++ (Open id text start ∷ []) →
    option_or first (first_open word) ≡ option_or (option_or first (first_open v)) (Some start)
opened_first first word v id text start e =
    ap (option_or first) (ap first_open e ∙ first_open-append v (Open id text start ∷ []))
    ∙ sym (or_or first (first_open v) (Some start))

pub closed_first : (first : Option ℤ) (word v : List Event) (stop : ℤ) →
    word ≡ v ++ (Close stop ∷ []) →
    option_or first (first_open word) ≡ option_or first (first_open v)
closed_first first word v stop e =
    ap (option_or first) (ap first_open e ∙ first_open-append v (Close stop ∷ []) ∙ or_none (first_open v))

-- the range of scopes that have all ended
pub ended_range : (forest : Forest) (latest : ℤ) (range : ℤ × ℤ) →
    IsInOrder (tour forest) latest → open_after 0 (tour forest) ≡ 0 →
    (tour forest ≡ [] → range ≡ (least_open [], greatest_close [])) →
    range_until (first_open (tour forest)) latest range ≡ (least_open (tour forest), greatest_close (tour forest))
ended_range empty latest range in_order none e = e refl
ended_range (node span children others) latest range in_order none e =
    let stop = in_order.last none (λ is. cc is) in
    λ i. (sym in_order.least.0 i, sym stop i)
