-- What a thread's fields say of its thread: its events, its counts and what is ready for its next scope. `valid` is the invariant of a
-- state throughout.
use Rattle.std.proofs.Common.{◌≡◌, ◌≢◌, ◌==◌, ◌≤◌, ◌<◌, ℕ, ◌+◌, ◌*◌, pos, ◌≤ℤ◌, List, [], ◌∷◌, ◌++◌, Option, length, drop, Some, None, string_bytes, unwrap_or, refl, sym, ap, subst, ◌∙◌, arith, true, false, slice_get}
use Rattle.std.proofs.lemmas.Option.{slice_get-get_or}
use Rattle.puffin_data.specs.declared.data.form.Form.{Form}
use Rattle.puffin_data.specs.declared.data.info.StreamInfo.{StreamInfo}
use Rattle.puffin_data.specs.Forest.{empty}
use Rattle.puffin_data.specs.Honesty.{IsHonest}
use Rattle.puffin_data.specs.Text.Lengths.{text_room}
use Rattle.puffin_data.proofs.lemmas.Lengths.{room_least}
use Rattle.puffin_data.specs.Forest.Tour.{Event, Open, Close}
use Rattle.puffin_data.specs.Forest.Words.{word_size, num_begun, open_after, most_open}
use Rattle.puffin_data.specs.Stream.{StreamState}
use Rattle.puffin_threads.specs.declared.thread_profiler.supply.Supply.{Supply}
use Rattle.puffin_threads.specs.declared.thread_profiler.thread_state.ThreadState.TheInside.{Inside}
use Rattle.puffin_threads.specs.Thread.Events.{events_in}
use Rattle.puffin_threads.specs.inner.StoredThread.{IsThreadState, IsThreadStateIn, HoldsScopes, IsCounted, IsInOrder, innermost_place, spare_name}
use Rattle.puffin_threads.specs.inner.Supplied.{IsSupplied}
use Rattle.puffin_threads.specs.Thread.Calls.{Thread, open_offsets, num_ended}
use Rattle.puffin_threads.proofs.lemmas.Events.{events_of_none}
use Rattle.puffin_threads.proofs.FirstStarts.{none_in_order}
use Rattle.puffin_threads.proofs.HeldScopes.{held}
use Rattle.puffin_threads.proofs.RecordedScopes.{begun_held, length-open_offsets, size_held, nothing_held}

-- threads with equal fields are equal
pub same_thread : (a b : Thread) →
    a.name ≡ b.name → a.form ≡ b.form → a.first_start ≡ b.first_start → a.latest ≡ b.latest → a.word ≡ b.word →
    a.details ≡ b.details →
    a ≡ b
same_thread a b e1 ef e2 e3 e4 e5 =
    λ i. record { name = e1 i; form = ef i; first_start = e2 i; latest = e3 i; word = e4 i; details = e5 i }

-- the events that a thread's stream spells, and the offsets of its open scopes' sizes
abbrev pub word_of : Inside → List Event
word_of state = events_in state.info.stream.form state.info.stream.bytes

abbrev pub places_of : Inside → List ℕ
places_of state = open_offsets state.info.stream.form (word_of state)

-- the bytes of a valid state hold the scopes of its word
pub holds_in : (state : Inside) →
    IsThreadState state →
    HoldsScopes state.info.stream.form state.info.stream.bytes state.latest
holds_in state valid = held state.info.stream.form state.info.stream.bytes state.latest valid.scopes

-- the closed scopes are those that have begun, without the open ones
pub closed_in : (state : Inside) →
    IsThreadState state →
    state.info.num_scopes ≡ num_ended (word_of state) + state.num_open
closed_in state valid =
    omega (
      arith,
      valid.counted.num_scopes,
      begun_held state.info.stream.form state.info.stream.bytes state.latest (holds_in state valid),
      valid.num_open,
      length-open_offsets state.info.stream.form (word_of state),
    )

-- the first of the open scopes' offsets, if there are any
none_first : (places : List ℕ) → length places ≡ 0 → slice_get places 0 ≡ None
none_first [] e = refl
none_first (place ∷ places) e = absurd (omega arith)

none_placed : (places : List ℕ) → length places ≡ 0 → innermost_place places ≡ 0
none_placed [] e = refl
none_placed (place ∷ places) e = absurd (omega arith)

some_first : (places : List ℕ) → 0 < length places → slice_get places 0 ≡ Some (innermost_place places)
some_first [] more = absurd (omega arith)
some_first (place ∷ places) more = slice_get-get_or (place ∷ places) 0 0 (omega arith)

pub first_more : (places : List ℕ) → 0 < length places → places ≡ innermost_place places ∷ drop 1 places
first_more [] more = absurd (omega arith)
first_more (place ∷ places) more = refl

-- as many offsets as open scopes
pub places_in : (state : Inside) → IsThreadState state → length (places_of state) ≡ state.num_open
places_in state valid = length-open_offsets state.info.stream.form (word_of state) ∙ sym valid.num_open

-- what `innermost` returns: nothing while no scope is open, and otherwise the first offset
pub innermost_none : (state : Inside) →
    IsThreadState state → state.num_open ≡ 0 →
    None ≡ slice_get (places_of state) 0
innermost_none state valid none = sym (none_first _ (places_in state valid ∙ none))

pub innermost_some : (state : Inside) →
    IsThreadState state → 0 < state.num_open →
    Some state.innermost ≡ slice_get (places_of state) 0
innermost_some state valid more = ap Some valid.innermost ∙ sym (some_first _ (omega (arith, places_in state valid, more)))

is_zero : (n : ℕ) → 0 ≡ n → (n == 0) ≡ true
is_zero n same = grind arith

is_more : (n k : ℕ) → n ≡ k + 1 → (n == 0) ≡ false
is_more n k same = grind arith

-- an event takes a byte at least, so a stream is empty exactly if its word is
empty_test : (form : Form) (word : List Event) (n : ℕ) → n ≡ word_size form word → (n == 0) ≡ (length word == 0)
empty_test form [] n e = is_zero n (sym e)
empty_test form (Open id text start ∷ word) n e =
    is_more n (20 + text_room form text + word_size form word) (omega arith)
    ∙ sym (is_more (length (Open id text start ∷ word)) (length word) (omega arith))
empty_test form (Close stop ∷ word) n e =
    is_more n (8 + word_size form word) (omega arith) ∙ sym (is_more (length (Close stop ∷ word)) (length word) (omega arith))

pub empty_in : (state : Inside) →
    IsThreadState state →
    (length state.info.stream.bytes == 0) ≡ (length (word_of state) == 0)
empty_in state valid =
    empty_test state.info.stream.form (word_of state) (length state.info.stream.bytes)
    (size_held state.info.stream.form state.info.stream.bytes state.latest (holds_in state valid))

pub none_open_in : (state : Inside) →
    IsThreadState state → open_after 0 (word_of state) ≡ 0 →
    state.num_open ≡ 0
none_open_in state valid e = valid.num_open ∙ e

pub none_innermost : (state : Inside) → IsThreadState state → state.num_open ≡ 0 → state.innermost ≡ 0
none_innermost state valid none = valid.innermost ∙ none_placed _ (places_in state valid ∙ none)

counted_none : (info : StreamInfo) (word : List Event) → IsHonest info empty → word ≡ [] → IsCounted info word
counted_none info word honest e = record {
  num_scopes = honest.counts.num_scopes ∙ ap num_begun (sym e);
  depth = honest.counts.depth ∙ ap (most_open 0) (sym e);
  range = λ _ i. (honest.counts.least_start i, honest.counts.greatest_stop i);
}

pub none_in : (info : StreamInfo) → IsHonest info empty → events_in info.stream.form info.stream.bytes ≡ []
none_in info honest = ap (events_in info.stream.form) honest.stream.whole ∙ events_of_none info.stream.form

-- a state without scopes is valid
pub cleared_in : (state : Inside) →
    pos 0 ≤ℤ state.latest → IsHonest state.info empty → state.num_open ≡ 0 → state.innermost ≡ 0 →
    IsSupplied state.supply state.info.stream →
    ((name : List ℕ) → spare_name state ≡ Some name → name ≡ string_bytes state.name) →
    IsThreadState state
cleared_in state low honest none first supplied spare =
    let word = none_in state.info honest in
    record {
      latest = low;
      scopes = ∣ nothing_held state.info.stream.form state.info.stream.bytes state.latest honest.stream.whole ∣₁;
      counted = counted_none state.info (word_of state) honest word;
      in_order = subst (λ (w : List Event). IsInOrder w state.latest) (sym word) (none_in_order state.latest low);
      num_open = none ∙ sym (ap (open_after 0) word);
      innermost = first ∙ sym (ap (λ (w : List Event). innermost_place (open_offsets state.info.stream.form w)) word);
      room = omega (arith, none);
      has_spare = λ _. none;
      supplied = supplied;
      spare = spare;
    }

pub some_more : (word : List Event) (event : Event) → word ++ (event ∷ []) ≢ []
some_more [] event is = cc is
some_more (x ∷ w) event is = cc is

-- a state is valid in its own form if it is valid in an equal one
pub in_own_form : (state next : Inside) →
    next.info.stream.form ≡ state.info.stream.form → IsThreadStateIn state.info.stream.form next →
    IsThreadState next
in_own_form state next same valid = subst (λ (form : Form). IsThreadStateIn form next) (sym same) valid

-- the number of scopes that have begun is that of a stream that fits
begun_size : (form : Form) (word : List Event) → 22 * num_begun word ≤ word_size form word
begun_size form [] = omega arith
begun_size form (Open id text start ∷ word) = omega (arith, begun_size form word, room_least form text)
begun_size form (Close stop ∷ word) = omega (arith, begun_size form word)

-- an open scope takes 22 bytes at least, so the numbers of scopes fit as the number of bytes does
pub scopes_fit : (state : Inside) → IsThreadState state → 22 * state.info.num_scopes ≤ length state.info.stream.bytes
scopes_fit state valid =
    omega (
      arith,
      valid.counted.num_scopes,
      begun_size state.info.stream.form (word_of state),
      size_held state.info.stream.form state.info.stream.bytes state.latest (holds_in state valid),
    )

pub open_fits : (state : Inside) → IsThreadState state → 22 * state.num_open ≤ length state.info.stream.bytes
open_fits state valid = omega (arith, closed_in state valid, scopes_fit state valid)

copy_or : (o : Option (List ℕ)) (name : List ℕ) → ((n : List ℕ) → o ≡ Some n → n ≡ name) → unwrap_or o name ≡ name
copy_or None name is_name = refl
copy_or (Some n) name is_name = is_name n refl

-- the copy that a thread has, or a new one
pub copy_in : (state : Inside) →
    IsThreadState state →
    unwrap_or (spare_name state) (string_bytes state.name) ≡ string_bytes state.name
copy_in state valid = copy_or (spare_name state) (string_bytes state.name) valid.spare

-- what a supply says of a stream is so of one that has no fewer bytes with its room
pub stays_supplied : (supply : Supply) (stream next : StreamState) →
    length stream.bytes + stream.room ≤ length next.bytes + next.room → IsSupplied supply stream →
    IsSupplied supply next
stays_supplied supply stream next more supplied = record {
  ready = λ some. let is = supplied.ready some in let least = is.0 in (omega (arith, least, more), is.1);
  limit = λ some. let least = supplied.limit some in omega (arith, least, more);
}

-- a supply without its copy
pub none_supplied : (supply : Supply) (stream : StreamState) →
    IsSupplied supply stream →
    IsSupplied (record { copy = None; ready = 0; limit = supply.limit }) stream
none_supplied supply stream supplied = record { ready = λ some. absurd (omega (arith, some)); limit = supplied.limit }
