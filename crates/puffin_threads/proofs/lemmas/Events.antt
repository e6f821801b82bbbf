-- The bytes of a stream with open scopes spell the events of its word.
use Rattle.std.proofs.Common.{◌≡◌, ◌≢◌, ℕ, zero, suc, ◌+◌, ◌-◌, ◌^◌, ◌<◌, ◌≤◌, ◌==◌, List, [], ◌∷◌, ◌++◌, length, get_or, slice_index, take, drop, refl, sym, ap, ◌∙◌, arith, append_assoc, w64, ℤ, FitsSigned, Bool, true, false, eqb, nat_lt, if◌then◌else◌, Option, Some, Result, Ok}
use Rattle.std.specs.Int.{cast_signed, cast_unsigned}
use Rattle.std.proofs.lemmas.Int.{to_z-of_z}
use Rattle.std.proofs.lemmas.List.{length-append, take_at, drop_at, drop-drop, get_or-drop}
use Rattle.std.proofs.Math.Facts.{Fits-of_z}
use Rattle.byteorder.specs.Endian.{little_bytes, little_number}
use Rattle.byteorder.specs.Numbers.{little_number-reads_back, length-bytes_low_first}
use Rattle.puffin_data.specs.declared.data.form.Form.{Form}
use Rattle.puffin_data.specs.Forest.{Forest, IsForest, empty, node}
use Rattle.puffin_data.specs.Forest.Spelling.{spelling, begin_bytes, end_bytes, time_bytes}
use Rattle.puffin_data.specs.Walk.Reading.{id_in, time_in, text_length_in, text_size_in, text_begin_in, child_begin_in}
use Rattle.puffin_data.specs.Text.Lengths.{stored_limit, length_layout, length_at, length_or_none}
use Rattle.puffin_data.specs.Forest.Tour.{Event, Open, Close, tour}
use Rattle.puffin_data.specs.Forest.Words.{word_size}
use Rattle.puffin_data.specs.Forest.Open.{Opened, opening_bytes, open_spelling, opening_word, open_word}
use Rattle.puffin_data.proofs.lemmas.Opening.{open_size}
use Rattle.puffin_data.proofs.lemmas.Lengths.{length_again}
use Rattle.puffin_data.specs.declared.error.Error.{Error}
use Rattle.puffin_threads.specs.Thread.Events.{open_in, events_from, events_in}
use Rattle.puffin_threads.specs.inner.StoredThread.{AreOpenBy}
use Rattle.puffin_threads.specs.inner.FirstStart.{start_in}

test_eq : (a b : ℕ) → a ≡ b → eqb a b ≡ true
test_eq a b same = grind arith

test_ne : (a b : ℕ) → a ≢ b → eqb a b ≡ false
test_ne a b differ = grind arith

-- what follows a piece of a list
follows : (n k m : ℕ) (text rest xs : List ℕ) → drop n xs ≡ text ++ rest → length text ≡ k → n + k ≡ m → drop m xs ≡ rest
follows n k m text rest xs e len sum =
    ap (λ (j : ℕ). drop j xs) (sym sum) ∙ sym (drop-drop k n xs) ∙ ap (drop k) e ∙ drop_at text rest k len

-- what stands at a place of bytes: a byte, a number, a time
there : (n a : ℕ) (rest xs : List ℕ) → drop n xs ≡ a ∷ rest → get_or xs n 0 ≡ a
there n a rest xs e =
    ap (λ (j : ℕ). get_or xs j 0) (omega arith) ∙ sym (get_or-drop n xs 0 0) ∙ ap (λ (ys : List ℕ). get_or ys 0 0) e

number_there : (n place x : ℕ) (rest xs : List ℕ) →
    drop place xs ≡ little_bytes n x ++ rest → x < 256 ^ n →
    little_number n (drop place xs) ≡ x
number_there n place x rest xs e lt = ap (little_number n) e ∙ little_number-reads_back n x rest lt

time_there : (place : ℕ) (t : ℤ) (rest xs : List ℕ) →
    FitsSigned w64 t → drop place xs ≡ time_bytes t ++ rest →
    time_in xs place ≡ t
unfolding time_in
time_there place t rest xs fits e =
    ap (cast_signed w64) (number_there 8 place (cast_unsigned w64 t) rest xs e (Fits-of_z fits).fits) ∙ to_z-of_z w64 t fits

first : (b : Bool) (x y : List Event) → b ≡ true → (elim b [ true ↦ x | false ↦ y ]) ≡ x
first true x y e = refl
first false x y e = cc

second : (b : Bool) (x y : List Event) → b ≡ false → (elim b [ true ↦ x | false ↦ y ]) ≡ y
second true x y e = cc
second false x y e = refl

unless : (b : Bool) (x y : Option ℤ) → b ≡ false → (if b then x else y) ≡ y
unless true x y e = cc
unless false x y e = refl

same_open : (id id' : ℕ) (start start' : ℤ) (text text' : List ℕ) →
    id ≡ id' → start ≡ start' → text ≡ text' →
    Open id text start ≡ Open id' text' start'
same_open id id' start start' text text' e1 e2 e3 = cc

regroup : (id start len text size more : List ℕ) →
    (40 ∷ (id ++ (start ++ ((len ++ text) ++ size)))) ++ more
    ≡ 40 ∷ (id ++ (start ++ (len ++ (text ++ (size ++ more)))))
regroup id start len text size more = simp append_assoc

pub regroup_node : (begin inner end others more : List ℕ) →
    (begin ++ (inner ++ (end ++ others))) ++ more ≡ begin ++ (inner ++ (end ++ (others ++ more)))
regroup_node begin inner end others more = simp append_assoc

regroup_tour : (inner others rest : List Event) (event : Event) →
    inner ++ (event ∷ (others ++ rest)) ≡ (inner ++ (event ∷ others)) ++ rest
regroup_tour inner others rest event = simp append_assoc

pub regroup_opened : (outer before begin more : List ℕ) →
    (outer ++ (before ++ begin)) ++ more ≡ outer ++ (before ++ (begin ++ more))
regroup_opened outer before begin more = simp append_assoc

regroup_word : (outer before rest : List Event) (event : Event) →
    outer ++ (before ++ (event ∷ rest)) ≡ (outer ++ (before ++ (event ∷ []))) ++ rest
regroup_word outer before rest event = simp append_assoc

append_nil : (word : List Event) → word ++ [] ≡ word
append_nil [] = refl
append_nil (e ∷ w) = ap (λ (x : List Event). e ∷ x) (append_nil w)

pub append_none : (bytes : List ℕ) → bytes ++ [] ≡ bytes
append_none [] = refl
append_none (b ∷ bytes) = ap (λ (x : List ℕ). b ∷ x) (append_none bytes)

module _ (form : Form) where
  -- what stands at the front of a region: an event, and what follows it
  record Fronts (region : List ℕ) (e : Event) (more : List ℕ) : Type 0 where
    step : (n : ℕ) → events_from form (suc n) region ≡ e ∷ events_from form n more

  -- a scope's beginning is read as that event: each of its parts stands where it is looked for; `d5` says what stands from place 5 on
  opens : (id size : ℕ) (start : ℤ) (text more region : List ℕ) →
      id < 2 ^ 32 → FitsSigned w64 start → length text ≤ stored_limit form →
      region ≡ begin_bytes form id start text size ++ more →
      Fronts region (Open id text start) more
  unfolding events_from begin_bytes id_in
  opens id size start text more region high fits stored e =
      let n = length text in
      let len = length_layout form n in
      let u = length len in
      let d0 = e ∙ regroup (little_bytes 4 id) (time_bytes start) len text (little_bytes 8 size) more in
      let d1 = follows 0 1 1 (40 ∷ []) _ region d0 refl refl in
      let d5 = follows 1 4 5 (little_bytes 4 id) _ region d1 (length-bytes_low_first 0 4 id) refl in
      let d13 = follows 5 8 13 (time_bytes start) _ region d5 (length-bytes_low_first 0 8 (cast_unsigned w64 start)) refl in
      let d14 = follows 13 u (13 + u) len _ region d13 refl refl in
      let dt = follows (13 + u) n (13 + u + n) text _ region d14 refl refl in
      let dc =
      follows (13 + u + n) 8 (21 + u + n) (little_bytes 8 size) more region dt (length-bytes_low_first 0 8 size)
      (omega arith) in
      let read : text_length_in form region ≡ Ok (n, u) = ap (length_at form) d13 ∙ length_again form n _ stored in
      let text_size : text_size_in form region ≡ n = ap (λ (r : Result (ℕ × ℕ) Error). (length_or_none r).0) read in
      let text_begin : text_begin_in form region ≡ 13 + u =
      ap (λ (r : Result (ℕ × ℕ) Error). 13 + (length_or_none r).1) read in
      let read_id : id_in region ≡ id = number_there 4 1 id _ region d1 high in
      let read_start : time_in region 5 ≡ start = time_there 5 start _ region fits d5 in
      let read_text : take (text_size_in form region) (drop (text_begin_in form region) region) ≡ text =
      ap (λ (k : ℕ). take k (drop (text_begin_in form region) region)) text_size
      ∙ ap (λ (k : ℕ). take n (drop k region)) text_begin
      ∙ ap (take n) d14
      ∙ take_at text _ n refl in
      let event : open_in form region ≡ Open id text start =
      same_open (id_in region) id (time_in region 5) start
      (take (text_size_in form region) (drop (text_begin_in form region) region)) text read_id read_start read_text
      in
      let place : child_begin_in form region ≡ 21 + u + n = omega (arith, text_size, text_begin) in
      let rest : drop (child_begin_in form region) region ≡ more = ap (λ (k : ℕ). drop k region) place ∙ dc in
      record {
        step = λ n.
            first (slice_index region 0 == 40) _ _ (test_eq (slice_index region 0) 40 (there 0 40 _ region d0))
            ∙ ap (λ (x : Event). x ∷ events_from form n (drop (child_begin_in form region) region)) event
            ∙ ap (λ (xs : List ℕ). Open id text start ∷ events_from form n xs) rest;
      }

  -- the start at the front of a scope's beginning
  pub start_there : (id size : ℕ) (start : ℤ) (text more region : List ℕ) →
      FitsSigned w64 start → region ≡ begin_bytes form id start text size ++ more →
      start_in region ≡ Some start
  unfolding begin_bytes
  start_there id size start text more region fits e =
      let len = length_layout form (length text) in
      let d0 = e ∙ regroup (little_bytes 4 id) (time_bytes start) len text (little_bytes 8 size) more in
      let d1 = follows 0 1 1 (40 ∷ []) _ region d0 refl refl in
      let d5 = follows 1 4 5 (little_bytes 4 id) _ region d1 (length-bytes_low_first 0 4 id) refl in
      let long : 13 ≤ length region =
      omega (
        arith,
        ap length d0,
        length-append (little_bytes 4 id)
            (time_bytes start ++ (len ++ (text ++ (little_bytes 8 size ++ more)))),
        length-append (time_bytes start) (len ++ (text ++ (little_bytes 8 size ++ more))),
        length-bytes_low_first 0 4 id,
        length-bytes_low_first 0 8 (cast_unsigned w64 start),
      ) in
      unless (nat_lt (length region) 13) _ _ (grind (arith, long)) ∙ ap Some (time_there 5 start _ region fits d5)

  -- a scope's end is read as that event
  closes : (stop : ℤ) (more region : List ℕ) →
      FitsSigned w64 stop → region ≡ end_bytes stop ++ more →
      Fronts region (Close stop) more
  unfolding events_from end_bytes
  closes stop more region fits e =
      let d1 = follows 0 1 1 (41 ∷ []) _ region e refl refl in
      let d9 = follows 1 8 9 (time_bytes stop) more region d1 (length-bytes_low_first 0 8 (cast_unsigned w64 stop)) refl in
      let byte : slice_index region 0 ≡ 41 = there 0 41 _ region e in
      record {
        step = λ n.
            second (slice_index region 0 == 40) _ _ (test_ne (slice_index region 0) 40 (omega arith))
            ∙ first (slice_index region 0 == 41) _ _ (test_eq (slice_index region 0) 41 byte)
            ∙ ap (λ (t : ℤ). Close t ∷ events_from form n (drop 9 region)) (time_there 1 stop more region fits d1)
            ∙ ap (λ (xs : List ℕ). Close stop ∷ events_from form n xs) d9;
      }

  -- with any surplus of steps, a forest's bytes give its tour, and what follows them what it gives
  forest_events : (forest : Forest) →
      IsForest form forest →
      (n : ℕ) (more : List ℕ) →
      events_from form (length (tour forest) + n) (spelling form forest ++ more)
      ≡ tour forest ++ events_from form n more
  forest_events empty written n more = ap (λ (k : ℕ). events_from form k more) (omega arith)
  forest_events (node span children others) written n more =
      let begin = begin_bytes form span.id span.start span.text (length (spelling form children)) in
      let later = length (tour others) + n in
      let fuel : length (tour (node span children others)) + n ≡ suc (length (tour children) + suc later) =
      omega (arith, length-append (tour children) (Close span.stop ∷ tour others)) in
      let behind = spelling form others ++ more in
      let inner = spelling form children ++ (end_bytes span.stop ++ behind) in
      ap (λ (k : ℕ). events_from form k (spelling form (node span children others) ++ more)) fuel
      ∙ (opens span.id (length (spelling form children)) span.start span.text inner _ written.0.id_high written.0.start
      written.0.text_size
      (regroup_node begin (spelling form children) (end_bytes span.stop) (spelling form others) more)).step
      (length (tour children) + suc later)
      ∙ ap (λ (w : List Event). Open span.id span.text span.start ∷ w)
      (forest_events children written.1 (suc later) (end_bytes span.stop ++ behind)
      ∙ ap (λ (w : List Event). tour children ++ w) ((closes span.stop behind _ written.0.stop refl).step later
      ∙ ap (λ (w : List Event). Close span.stop ∷ w) (forest_events others written.2 n more))
      ∙ regroup_tour (tour children) (tour others) (events_from form n more) (Close span.stop))

  -- the same of the bytes of open scopes
  opening_events : (latest : ℤ) (opened : List Opened) →
      AreOpenBy form latest opened →
      (n : ℕ) (more : List ℕ) →
      events_from form (length (opening_word opened) + n) (opening_bytes form opened ++ more)
      ≡ opening_word opened ++ events_from form n more
  opening_events latest [] started n more = ap (λ (k : ℕ). events_from form k more) (omega arith)
  opening_events latest (scope ∷ outer) started n more =
      let begin = begin_bytes form scope.id scope.start scope.text scope.size in
      let event = Open scope.id scope.text scope.start in
      let later = length (tour scope.before) + suc n in
      let fuel : length (opening_word (scope ∷ outer)) + n ≡ length (opening_word outer) + later =
      omega (
        arith,
        length-append (opening_word outer) (tour scope.before ++ (event ∷ [])),
        length-append (tour scope.before) (event ∷ []),
      ) in
      ap (λ (k : ℕ). events_from form k (opening_bytes form (scope ∷ outer) ++ more)) fuel
      ∙ ap (events_from form (length (opening_word outer) + later))
      (regroup_opened (opening_bytes form outer) (spelling form scope.before) begin more)
      ∙ opening_events latest outer started.4 later (spelling form scope.before ++ (begin ++ more))
      ∙ ap (λ (w : List Event). opening_word outer ++ w)
      (forest_events scope.before started.0.before (suc n) (begin ++ more)
      ∙ ap (λ (w : List Event). tour scope.before ++ w)
      ((opens scope.id scope.size scope.start scope.text more _ started.0.id_high started.0.start started.0.text_size
      refl).step n))
      ∙ regroup_word (opening_word outer) (tour scope.before) (events_from form n more) event

  no_bytes : (n : ℕ) → events_from form n [] ≡ []
  unfolding events_from
  no_bytes zero = refl
  no_bytes (suc n) = refl

  -- an event takes a byte at least, so bytes have no more events than bytes
  short : (word : List Event) → length word ≤ word_size form word
  short [] = omega arith
  short (Open id text start ∷ word) = omega (arith, short word)
  short (Close stop ∷ word) = omega (arith, short word)

  pub events_of_none : events_in form [] ≡ []
  unfolding events_in
  events_of_none = no_bytes 0

  -- open scopes followed by closed ones spell their word
  pub events_open : (latest : ℤ) (opened : List Opened) (closed : Forest) →
      AreOpenBy form latest opened → IsForest form closed →
      events_in form (open_spelling form opened closed) ≡ open_word opened closed
  unfolding events_in
  events_open latest opened closed started written =
      let bytes = open_spelling form opened closed in
      let surplus = length bytes - length (open_word opened closed) in
      let fuel : length bytes ≡ length (opening_word opened) + (length (tour closed) + surplus) =
      omega (
        arith,
        open_size form opened closed,
        short (open_word opened closed),
        length-append (opening_word opened) (tour closed),
      ) in
      ap (λ (k : ℕ). events_from form k bytes) fuel
      ∙ opening_events latest opened started (length (tour closed) + surplus) (spelling form closed)
      ∙ ap (λ (w : List Event). opening_word opened ++ w)
      (ap (events_from form (length (tour closed) + surplus)) (sym (append_none (spelling form closed)))
      ∙ forest_events closed written surplus []
      ∙ ap (λ (w : List Event). tour closed ++ w) (no_bytes surplus)
      ∙ append_nil (tour closed))
