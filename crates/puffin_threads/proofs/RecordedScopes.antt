-- What beginning and ending a scope do to the scopes that a recording's bytes hold.
use Rattle.std.proofs.Common.{◌≡◌, ◌≤◌, ◌<◌, ℕ, ◌+◌, ◌^◌, ℤ, pos, ◌≤ℤ◌, FitsSigned, w64, List, [], ◌∷◌, ◌++◌, length, drop, fold, refl, sym, ap, subst, ◌∙◌, arith}
use Rattle.std.specs.List.{All}
use Rattle.std.proofs.lemmas.Int.{ints}
use Rattle.std.proofs.lemmas.List.{length-drop}
use Rattle.std.proofs.lemmas.List.Sums.{fold-append}
use Rattle.byteorder.specs.Endian.{little_number}
use Rattle.puffin_data.specs.declared.data.form.Form.{Form}
use Rattle.puffin_data.specs.Text.Lengths.{stored_limit}
use Rattle.puffin_data.specs.Forest.{Forest, IsForest, empty, node}
use Rattle.puffin_data.specs.Forest.Spelling.{spelling, begin_bytes, head_size, size_offset}
use Rattle.puffin_data.specs.Forest.Tour.{Event, Open, Close, tour}
use Rattle.puffin_data.specs.Forest.Measures.{scope_count}
use Rattle.puffin_data.specs.Forest.Words.{word_size, open_after, num_begun}
use Rattle.puffin_data.specs.Forest.Open.{Opened, IsOpened, open_spelling, open_word, opening_word, size_place, ended_bytes, with_ended}
use Rattle.puffin_data.proofs.lemmas.WordMeasures.{num_begun-append, num_begun-tour}
use Rattle.puffin_data.proofs.lemmas.Opening.{begins, begins-word, finishes, finishes-word, ended-written, open_size, size_within, size_there}
use Rattle.puffin_threads.specs.Thread.Events.{events_in}
use Rattle.puffin_threads.specs.inner.StoredThread.{WordScopes, none_yet, scopes_of, scopes_closed, scopes_with, scopes_in, size_places, innermost_place, AreOpenBy, HoldsScopes}
use Rattle.puffin_threads.specs.inner.FirstStart.{first_open, start_in}
use Rattle.puffin_threads.specs.Thread.Calls.{opened_after, open_offsets, num_ended}
use Rattle.puffin_threads.proofs.FirstStarts.{open_start}
use Rattle.puffin_threads.proofs.lemmas.Events.{events_open, events_of_none}

-- as many scopes end in two words as in one and the other
num_ended-append : (u v : List Event) → num_ended (u ++ v) ≡ num_ended u + num_ended v
num_ended-append [] v = omega arith
num_ended-append (Open id text start ∷ u) v = num_ended-append u v
num_ended-append (Close stop ∷ u) v = omega (arith, num_ended-append u v)

num_ended-tour : (forest : Forest) → num_ended (tour forest) ≡ scope_count forest
num_ended-tour empty = refl
num_ended-tour (node span children others) =
    omega (
      arith,
      num_ended-append (tour children) (Close span.stop ∷ tour others),
      num_ended-tour children,
      num_ended-tour others,
    )

module _ (form : Form) where
  -- what bytes hold, with the open scopes and the closed ones named
  record Parts (bytes : List ℕ) (latest : ℤ) (opened : List Opened) (closed : Forest) : Type 0 where
    is_opened : (scopes_of form bytes).opened ≡ opened
    is_closed : (scopes_of form bytes).closed ≡ closed
    whole : bytes ≡ open_spelling form opened closed
    started : AreOpenBy form latest opened
    written : IsForest form closed
    places : open_offsets form (events_in form bytes) ≡ size_places form opened

  parts : (bytes : List ℕ) (latest : ℤ) →
      HoldsScopes form bytes latest →
      Parts bytes latest (scopes_of form bytes).opened (scopes_of form bytes).closed
  parts bytes latest holding =
      record {
        is_opened = refl;
        is_closed = refl;
        whole = holding.whole;
        started = holding.opened;
        written = holding.closed;
        places = holding.places;
      }

  holds : (bytes : List ℕ) (latest : ℤ) (opened : List Opened) (closed : Forest) →
      Parts bytes latest opened closed →
      HoldsScopes form bytes latest
  holds bytes latest opened closed named = record {
    whole =
        named.whole
        ∙ ap (λ (os : List Opened). open_spelling form os closed) (sym named.is_opened)
        ∙ ap (λ (f : Forest). open_spelling form (scopes_of form bytes).opened f) (sym named.is_closed);
    opened = subst (λ (os : List Opened). AreOpenBy form latest os) (sym named.is_opened) named.started;
    closed = subst (λ (f : Forest). IsForest form f) (sym named.is_closed) named.written;
    places = named.places ∙ ap (size_places form) (sym named.is_opened);
  }

  -- the word of the bytes
  word_is : (bytes : List ℕ) (latest : ℤ) (opened : List Opened) (closed : Forest) →
      Parts bytes latest opened closed →
      events_in form bytes ≡ open_word opened closed
  word_is bytes latest opened closed named =
      ap (events_in form) named.whole ∙ events_open form latest opened closed named.started named.written

  -- as many scopes have begun as have ended and are open
  begun-opening : (opened : List Opened) → num_begun (opening_word opened) ≡ num_ended (opening_word opened) + length opened
  begun-opening [] = refl
  begun-opening (scope ∷ outer) =
      omega (
        arith,
        begun-opening outer,
        num_begun-append (opening_word outer)
            (tour scope.before ++ (Open scope.id scope.text scope.start ∷ [])),
        num_begun-append (tour scope.before) (Open scope.id scope.text scope.start ∷ []),
        num_ended-append (opening_word outer) (tour scope.before ++ (Open scope.id scope.text scope.start ∷ [])),
        num_ended-append (tour scope.before) (Open scope.id scope.text scope.start ∷ []),
        num_begun-tour scope.before,
        num_ended-tour scope.before,
      )

  begun_parts : (bytes : List ℕ) (latest : ℤ) (opened : List Opened) (closed : Forest) →
      Parts bytes latest opened closed →
      num_begun (events_in form bytes) ≡ num_ended (events_in form bytes) + length opened
  begun_parts bytes latest opened closed named =
      let word = word_is bytes latest opened closed named in
      omega (
        arith,
        ap num_begun word,
        ap num_ended word,
        begun-opening opened,
        num_begun-append (opening_word opened) (tour closed),
        num_ended-append (opening_word opened) (tour closed),
        num_begun-tour closed,
        num_ended-tour closed,
      )

  length-size_places : (opened : List Opened) → length (size_places form opened) ≡ length opened
  length-size_places [] = refl
  length-size_places (scope ∷ outer) = omega (arith, length-size_places outer)

  pub begun_held : (bytes : List ℕ) (latest : ℤ) →
      HoldsScopes form bytes latest →
      num_begun (events_in form bytes) ≡ num_ended (events_in form bytes) + length
      (open_offsets form (events_in form bytes))
  begun_held bytes latest holding =
      let opened = (scopes_of form bytes).opened in
      omega (
        arith,
        begun_parts bytes latest _ _ (parts bytes latest holding),
        ap length holding.places,
        length-size_places opened,
      )

  -- one event more

  scopes_more : (word : List Event) (event : Event) →
      scopes_in form (word ++ (event ∷ [])) ≡ scopes_with form (scopes_in form word) event
  unfolding scopes_in
  scopes_more word event = fold-append (scopes_with form) none_yet word (event ∷ [])

  offsets_sum : (n : ℕ) (places : List ℕ) (word : List Event) →
      (fold (opened_after form) (n, places) word).0 ≡ n + word_size form word
  offsets_sum n places [] = omega arith
  offsets_sum n places (Open id text start ∷ word) =
      omega (arith, offsets_sum (n + head_size form text) ((n + size_offset form text) ∷ places) word)
  offsets_sum n places (Close stop ∷ word) = omega (arith, offsets_sum (n + 9) (drop 1 places) word)

  pub offsets_opened : (word : List Event) (id : ℕ) (text : List ℕ) (start : ℤ) →
      open_offsets form (word ++ (Open id text start ∷ []))
      ≡ (word_size form word + size_offset form text) ∷ open_offsets form word
  offsets_opened word id text start =
      ap (λ (p : ℕ × List ℕ). p.1) (fold-append (opened_after form) (0, []) word (Open id text start ∷ []))
      ∙ ap (λ (n : ℕ). (n + size_offset form text) ∷ open_offsets form word) (offsets_sum 0 [] word ∙ omega arith)

  pub offsets_closed : (word : List Event) (stop : ℤ) →
      open_offsets form (word ++ (Close stop ∷ [])) ≡ drop 1 (open_offsets form word)
  offsets_closed word stop = ap (λ (p : ℕ × List ℕ). p.1) (fold-append (opened_after form) (0, []) word (Close stop ∷ []))

  later : (a b : ℤ) (opened : List Opened) → a ≤ℤ b → AreOpenBy form a opened → AreOpenBy form b opened
  later a b [] le started = tt
  later a b (scope ∷ outer) le started =
      (started.0, started.1, omega (arith, ints, started.2), started.3, later a b outer le started.4)

  offsets_count : (n : ℕ) (places : List ℕ) (word : List Event) →
      length (fold (opened_after form) (n, places) word).1 ≡ open_after (length places) word
  offsets_count n places [] = refl
  offsets_count n places (Open id text start ∷ word) =
      offsets_count (n + head_size form text) ((n + size_offset form text) ∷ places) word
      ∙ ap (λ (k : ℕ). open_after k word) (omega arith)
  offsets_count n places (Close stop ∷ word) =
      offsets_count (n + 9) (drop 1 places) word ∙ ap (λ (k : ℕ). open_after k word) (length-drop 1 places)

  -- each open scope has an offset
  pub length-open_offsets : (word : List Event) → length (open_offsets form word) ≡ open_after 0 word
  length-open_offsets word = offsets_count 0 [] word

  -- what a call makes of the bytes: they hold the scopes of one event more
  pub record Goes (bytes next : List ℕ) (at : ℤ) (e : Event) : Type 0 where
    pub holds : HoldsScopes form next at
    pub word : events_in form next ≡ events_in form bytes ++ (e ∷ [])

  -- a beginning behind the bytes is one more open scope
  begins_parts : (bytes next : List ℕ) (latest at : ℤ) (id : ℕ) (text : List ℕ) (around : ℕ) (opened : List Opened)
      (closed : Forest) →
      Parts bytes latest opened closed → latest ≤ℤ at → pos 0 ≤ℤ at → FitsSigned w64 at → 0 < id → id < 2 ^ 32 →
      length text ≤ stored_limit form → All (λ b. b < 256) text →
      around ≡ innermost_place (open_offsets form (events_in form bytes)) →
      next ≡ bytes ++ begin_bytes form id at text around →
      Goes bytes next at (Open id text at)
  begins_parts bytes next latest at id text around opened closed named le low fits id_low id_high size small first e =
      let begun : Opened = record { before = closed; id = id; start = at; text = text; size = around } in
      let linked : around ≡ innermost_place (size_places form opened) = first ∙ ap innermost_place named.places in
      let whole : next ≡ open_spelling form (begun ∷ opened) empty =
      e
      ∙ ap (λ (x : List ℕ). x ++ begin_bytes form id at text around) named.whole
      ∙ begins form opened closed id at text around in
      let is : IsOpened form begun =
      record {
        before = named.written;
        id_low = id_low;
        id_high = id_high;
        start = fits;
        text_size = size;
        text_bytes = small;
      } in
      let started : AreOpenBy form at (begun ∷ opened) =
      (is, low, omega (arith, ints), linked, later latest at opened le named.started) in
      let before = word_is bytes latest opened closed named in
      let word : events_in form next ≡ events_in form bytes ++ (Open id text at ∷ []) =
      ap (events_in form) whole
      ∙ events_open form at (begun ∷ opened) empty started tt
      ∙ sym (begins-word opened closed id at text around)
      ∙ ap (λ (w : List Event). w ++ (Open id text at ∷ [])) (sym before) in
      let scopes = ap (scopes_in form) word ∙ scopes_more (events_in form bytes) (Open id text at) in
      let place : word_size form (events_in form bytes) + size_offset form text ≡ size_place form begun opened =
      omega (arith, ap (word_size form) before, open_size form opened closed) in
      record {
        holds = holds next at (begun ∷ opened) empty (record {
          is_opened = ap (λ (scopes : WordScopes). scopes.opened) scopes
              ∙ ap (λ (s : WordScopes).
              record {
                before = s.closed;
                id = id;
                start = at;
                text = text;
                size = innermost_place (size_places form s.opened);
              } ∷ s.opened) (λ i. record { opened = named.is_opened i; closed = named.is_closed i })
              ∙ ap (λ (n : ℕ). record { before = closed; id = id; start = at; text = text; size = n } ∷ opened) (sym linked);
          is_closed = ap (λ (scopes : WordScopes). scopes.closed) scopes;
          whole = whole;
          started = started;
          written = tt;
          places =
              ap (open_offsets form) word
              ∙ offsets_opened (events_in form bytes) id text at
              ∙ ap (λ (n : ℕ). n ∷ open_offsets form (events_in form bytes)) place
              ∙ ap (λ (ns : List ℕ). size_place form begun opened ∷ ns) named.places;
        });
        word = word;
      }

  pub begins_held : (bytes next : List ℕ) (latest at : ℤ) (id : ℕ) (text : List ℕ) (around : ℕ) →
      HoldsScopes form bytes latest → latest ≤ℤ at → pos 0 ≤ℤ at → FitsSigned w64 at → 0 < id → id < 2 ^ 32 →
      length text ≤ stored_limit form → All (λ b. b < 256) text →
      around ≡ innermost_place (open_offsets form (events_in form bytes)) →
      next ≡ bytes ++ begin_bytes form id at text around →
      Goes bytes next at (Open id text at)
  begins_held bytes next latest at id text around holding =
      begins_parts bytes next latest at id text around _ _ (parts bytes latest holding)

  -- a scope's end

  ends_parts : (bytes next : List ℕ) (latest at : ℤ) (place : ℕ) (rest : List ℕ) (opened : List Opened) (closed : Forest) →
      Parts bytes latest opened closed → latest ≤ℤ at → FitsSigned w64 at → size_places form opened ≡ place ∷ rest →
      next ≡ ended_bytes bytes place at →
      Goes bytes next at (Close at)
  ends_parts bytes next latest at place rest [] closed named le fits is e = cc
  ends_parts bytes next latest at place rest (scope ∷ outer) closed named le fits is e =
      let same : place ≡ size_place form scope outer = cc in
      let whole : next ≡ open_spelling form outer (with_ended scope closed at) =
      e
      ∙ ap (λ (n : ℕ). ended_bytes bytes n at) same
      ∙ ap (λ (bs : List ℕ). ended_bytes bs (size_place form scope outer) at) named.whole
      ∙ finishes form scope outer closed at in
      let started : AreOpenBy form at outer = later latest at outer le named.started.4 in
      let low = named.started.1 in
      let until = named.started.2 in
      let written : IsForest form (with_ended scope closed at) =
      ended-written form scope closed at named.started.0 named.written fits (omega (arith, ints)) (omega (arith, ints)) in
      let before = word_is bytes latest (scope ∷ outer) closed named in
      let word : events_in form next ≡ events_in form bytes ++ (Close at ∷ []) =
      ap (events_in form) whole
      ∙ events_open form at outer (with_ended scope closed at) started written
      ∙ sym (finishes-word scope outer closed at)
      ∙ ap (λ (w : List Event). w ++ (Close at ∷ [])) (sym before) in
      let scopes =
      ap (scopes_in form) word
      ∙ scopes_more (events_in form bytes) (Close at)
      ∙ ap (λ (os : List Opened). scopes_closed os (scopes_of form bytes).closed at) named.is_opened
      ∙ ap (λ (f : Forest). scopes_closed (scope ∷ outer) f at) named.is_closed in
      record {
        holds = holds next at outer (with_ended scope closed at) (record {
          is_opened = ap (λ (scopes : WordScopes). scopes.opened) scopes;
          is_closed = ap (λ (scopes : WordScopes). scopes.closed) scopes;
          whole = whole;
          started = started;
          written = written;
          places =
              ap (open_offsets form) word
              ∙ offsets_closed (events_in form bytes) at
              ∙ ap (λ (ns : List ℕ). drop 1 ns) named.places;
        });
        word = word;
      }

  pub ends_held : (bytes next : List ℕ) (latest at : ℤ) (place : ℕ) (rest : List ℕ) →
      HoldsScopes form bytes latest → latest ≤ℤ at → FitsSigned w64 at →
      open_offsets form (events_in form bytes) ≡ place ∷ rest → next ≡ ended_bytes bytes place at →
      Goes bytes next at (Close at)
  ends_held bytes next latest at place rest holding le fits is e =
      ends_parts bytes next latest at place rest _ _ (parts bytes latest holding) le fits (sym holding.places ∙ is) e

  -- the size of the innermost scope stands within the bytes
  place_parts : (bytes : List ℕ) (latest : ℤ) (place : ℕ) (rest : List ℕ) (opened : List Opened) (closed : Forest) →
      Parts bytes latest opened closed → size_places form opened ≡ place ∷ rest →
      place + 8 ≤ length bytes
  place_parts bytes latest place rest [] closed named is = cc
  place_parts bytes latest place rest (scope ∷ outer) closed named is =
      let same : place ≡ size_place form scope outer = cc in
      omega (arith, same, ap length named.whole, size_within form scope outer closed)

  pub place_held : (bytes : List ℕ) (latest : ℤ) (place : ℕ) (rest : List ℕ) →
      HoldsScopes form bytes latest → open_offsets form (events_in form bytes) ≡ place ∷ rest →
      place + 8 ≤ length bytes
  place_held bytes latest place rest holding is =
      place_parts bytes latest place rest _ _ (parts bytes latest holding) (sym holding.places ∙ is)

  -- the offset that stands in the place of an open scope's size lies before it
  around_before : (scope : Opened) (outer : List Opened) →
      innermost_place (size_places form outer) ≤ size_place form scope outer
  around_before scope [] = omega arith
  around_before scope (around ∷ outer) = omega (arith, size_within form around outer scope.before)

  size_parts : (bytes : List ℕ) (latest : ℤ) (place : ℕ) (rest : List ℕ) (opened : List Opened) (closed : Forest) →
      Parts bytes latest opened closed → place < 2 ^ 64 → size_places form opened ≡ place ∷ rest →
      little_number 8 (drop place bytes) ≡ innermost_place rest
  size_parts bytes latest place rest [] closed named fits is = cc
  size_parts bytes latest place rest (scope ∷ outer) closed named fits is =
      let same : place ≡ size_place form scope outer = cc in
      let others : size_places form outer ≡ rest = cc in
      let linked : scope.size ≡ innermost_place (size_places form outer) = named.started.3 in
      ap (λ (n : ℕ). little_number 8 (drop n bytes)) same
      ∙ ap (λ (bs : List ℕ). little_number 8 (drop (size_place form scope outer) bs)) named.whole
      ∙ size_there form scope outer closed (omega (arith, fits, same, linked, around_before scope outer))
      ∙ linked ∙ ap innermost_place others

  -- in the place of the innermost scope's size stands the offset of the next one's
  pub around_held : (bytes : List ℕ) (latest : ℤ) (place : ℕ) (rest : List ℕ) →
      HoldsScopes form bytes latest → place < 2 ^ 64 → open_offsets form (events_in form bytes) ≡ place ∷ rest →
      little_number 8 (drop place bytes) ≡ innermost_place rest
  around_held bytes latest place rest holding fits is =
      size_parts bytes latest place rest _ _ (parts bytes latest holding) fits (sym holding.places ∙ is)

  -- the counts of what is held

  pub size_held : (bytes : List ℕ) (latest : ℤ) →
      HoldsScopes form bytes latest →
      length bytes ≡ word_size form (events_in form bytes)
  size_held bytes latest holding =
      let opened = (scopes_of form bytes).opened in
      let closed = (scopes_of form bytes).closed in
      ap length holding.whole
      ∙ open_size form opened closed
      ∙ ap (word_size form) (sym (word_is bytes latest opened closed (parts bytes latest holding)))

  -- the start at the front of the bytes is that of the first scope that opens
  pub start_held : (bytes : List ℕ) (latest : ℤ) →
      HoldsScopes form bytes latest →
      start_in bytes ≡ first_open (events_in form bytes)
  start_held bytes latest holding =
      let opened = (scopes_of form bytes).opened in
      let closed = (scopes_of form bytes).closed in
      ap start_in holding.whole
      ∙ open_start form latest opened closed holding.opened holding.closed
      ∙ ap first_open (sym (word_is bytes latest opened closed (parts bytes latest holding)))

  -- without an open scope the bytes spell a forest whose tour is the word
  pub record Closes (bytes : List ℕ) (f : Forest) : Type 0 where
    pub whole : bytes ≡ spelling form f
    pub written : IsForest form f
    pub word : events_in form bytes ≡ tour f

  closed_parts : (bytes : List ℕ) (latest : ℤ) (opened : List Opened) (closed : Forest) →
      Parts bytes latest opened closed → length opened ≡ 0 →
      Closes bytes closed
  closed_parts bytes latest [] closed named none =
      record { whole = named.whole; written = named.written; word = word_is bytes latest [] closed named }
  closed_parts bytes latest (scope ∷ outer) closed named none = absurd (omega arith)

  pub closed_held : (bytes : List ℕ) (latest : ℤ) →
      HoldsScopes form bytes latest → open_after 0 (events_in form bytes) ≡ 0 →
      Closes bytes (scopes_of form bytes).closed
  closed_held bytes latest holding none =
      let opened = (scopes_of form bytes).opened in
      closed_parts bytes latest opened (scopes_of form bytes).closed (parts bytes latest holding)
      (omega (arith, length-open_offsets (events_in form bytes), ap length holding.places, length-size_places opened))

  -- a stream without bytes
  pub nothing_held : (bytes : List ℕ) (latest : ℤ) → bytes ≡ [] → HoldsScopes form bytes latest
  unfolding scopes_in
  nothing_held bytes latest e =
      let word : events_in form bytes ≡ [] = ap (events_in form) e ∙ events_of_none form in
      holds bytes latest [] empty (record {
        is_opened = ap (λ (w : List Event). (scopes_in form w).opened) word;
        is_closed = ap (λ (w : List Event). (scopes_in form w).closed) word;
        whole = e;
        started = tt;
        written = tt;
        places = ap (open_offsets form) word;
      })
