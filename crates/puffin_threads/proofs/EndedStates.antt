-- Ending the innermost scope keeps the invariant of a thread, and adds the end to its events; once all have ended they can be reported.
use Rattle.std.proofs.Common.{◌≡◌, ◌≤◌, ◌<◌, ℕ, ◌+◌, ◌^◌, ℤ, pos, ◌≤ℤ◌, FitsSigned, w64, List, [], ◌∷◌, ◌++◌, Option, length, drop, Some, None, string_bytes, refl, sym, ap, subst, ◌∙◌, arith}
use Rattle.std.specs.Int.{int_max}
use Rattle.std.specs.Option.{option_or}
use Rattle.std.proofs.lemmas.Int.{ints, clamps}
use Rattle.std.proofs.lemmas.List.{length-drop}
use Rattle.byteorder.specs.Endian.{little_number}
use Rattle.puffin_data.specs.declared.data.form.Form.{Form}
use Rattle.puffin_data.specs.declared.data.info.StreamInfo.{StreamInfo}
use Rattle.puffin_data.specs.Honesty.{facts_of}
use Rattle.puffin_data.specs.Forest.Open.{ended_bytes}
use Rattle.puffin_data.specs.Forest.Tour.{Event, Close, tour}
use Rattle.puffin_data.specs.Forest.Words.{word_size, num_begun, open_after, most_open, least_open, greatest_close}
use Rattle.puffin_data.proofs.lemmas.WordMeasures.{word_size-append, num_begun-append, most_open-closed, num_begun-tour, most_open-tour, least_open-tour, greatest_close-tour}
use Rattle.puffin_threads.specs.declared.thread_profiler.thread_state.ThreadState.TheInside.{Inside}
use Rattle.puffin_threads.specs.Thread.Closing.{IsReportOf}
use Rattle.puffin_threads.specs.Thread.Events.{events_in}
use Rattle.puffin_threads.specs.inner.StoredThread.{IsThreadState, HoldsScopes, IsInOrder, scopes_in, innermost_place, spare_name, thread_in}
use Rattle.puffin_threads.specs.inner.Supplied.{IsSupplied}
use Rattle.puffin_threads.specs.Thread.Calls.{Thread, after_end, open_offsets}
use Rattle.puffin_threads.specs.inner.FirstStart.{first_open, start_in, range_until, completed_info}
use Rattle.puffin_threads.proofs.FirstStarts.{closed_first, or_again, closed_in_order, ended_range}
use Rattle.puffin_threads.proofs.RecordedScopes.{start_held, Goes, length-open_offsets, size_held, ends_held, place_held, around_held, closed_held, offsets_closed}
use Rattle.puffin_threads.proofs.ThreadStates.{same_thread, word_of, places_of, holds_in, places_in, first_more, in_own_form, some_more, stays_supplied}

-- where the thread has an open scope, the state counts one
pub some_open : (state : Inside) (thread : Thread) →
    IsThreadState state → thread_in state ≡ thread → 0 < open_after 0 thread.word →
    0 < state.num_open
some_open state thread valid e some = omega (arith, valid.num_open, ap (λ (x : Thread). open_after 0 x.word) e, some)

-- a thread with these bytes in this form and this latest time
abbrev with_bytes : Inside → Form → List ℕ → ℤ → Thread
with_bytes state form bytes at = record (thread_in state) {
  form = form;
  first_start = option_or state.first_start (first_open (events_in form bytes));
  latest = at;
  word = events_in form bytes;
}

-- what `close` and `finish` do to the fields: the innermost scope's size and stop are written
pub record Ends (state next : Inside) (at : ℤ) : Type 0 where
  pub form : next.info.stream.form ≡ state.info.stream.form
  pub later : state.latest ≤ℤ at
  pub fits : FitsSigned w64 at
  pub num_open : state.num_open ≡ next.num_open + 1
  pub innermost : next.innermost ≡ little_number 8 (drop state.innermost state.info.stream.bytes)
  pub small : state.innermost < 2 ^ 64
  pub bytes : next.info.stream.bytes ≡ ended_bytes state.info.stream.bytes state.innermost at
  pub num_scopes : next.info.num_scopes ≡ state.info.num_scopes
  pub depth : next.info.depth ≡ state.info.depth
  pub latest : next.latest ≡ at
  pub room : state.info.stream.room ≤ next.info.stream.room + 9
  pub has_spare : spare_name next ≡ None → next.num_open ≡ 0
  pub supplied : IsSupplied next.supply state.info.stream
  pub spare : (name : List ℕ) → spare_name next ≡ Some name → name ≡ string_bytes next.name

-- the first offset is the one that is kept as the innermost
places_more : (state : Inside) →
    IsThreadState state → 0 < state.num_open →
    places_of state ≡ state.innermost ∷ drop 1 (places_of state)
places_more state valid more =
    let places = places_of state in
    first_more places (omega (arith, places_in state valid, more)) ∙ ap (λ (n : ℕ). n ∷ drop 1 places) (sym valid.innermost)

-- the size of the innermost scope stands within the bytes
pub place_in : (state : Inside) →
    IsThreadState state → 0 < state.num_open →
    state.innermost + 8 ≤ length state.info.stream.bytes
place_in state valid more =
    place_held state.info.stream.form state.info.stream.bytes state.latest state.innermost _ (holds_in state valid)
    (places_more state valid more)

-- the bytes then hold the scopes of one event more
pub ended_goes : (state : Inside) (bytes : List ℕ) (at : ℤ) →
    IsThreadState state → state.latest ≤ℤ at → FitsSigned w64 at → 0 < state.num_open →
    bytes ≡ ended_bytes state.info.stream.bytes state.innermost at →
    Goes state.info.stream.form state.info.stream.bytes bytes at (Close at)
ended_goes state bytes at valid later fits more e =
    ends_held state.info.stream.form state.info.stream.bytes bytes state.latest at state.innermost _
    (holds_in state valid) later fits
    (places_more state valid more) e

-- the state is as valid as before
pub ended_in : (state next : Inside) (at : ℤ) → IsThreadState state → Ends state next at → IsThreadState next
ended_in state next at valid ends =
    let form = state.info.stream.form in
    let w = events_in form state.info.stream.bytes in
    let more : 0 < state.num_open = omega (arith, ends.num_open) in
    let goes = ended_goes state next.info.stream.bytes at valid ends.later ends.fits more ends.bytes in
    let low = valid.latest in
    let later = ends.later in
    let nonneg : pos 0 ≤ℤ at = omega (arith, ints) in
    let places : open_offsets form (events_in form next.info.stream.bytes) ≡ drop 1 (open_offsets form w) =
    ap (open_offsets form) goes.word ∙ offsets_closed form w at in
    let longer : length next.info.stream.bytes ≡ length state.info.stream.bytes + 9 =
    omega (
      arith,
      size_held form next.info.stream.bytes at goes.holds,
      size_held form state.info.stream.bytes state.latest (holds_in state valid),
      ap (word_size form) goes.word,
      word_size-append form w (Close at ∷ []),
    ) in
    in_own_form state next ends.form (record {
      latest = subst (λ (t : ℤ). pos 0 ≤ℤ t) (sym ends.latest) nonneg;
      scopes = ∣ subst (λ (t : ℤ). HoldsScopes form next.info.stream.bytes t) (sym ends.latest) goes.holds ∣₁;
      counted = record {
        num_scopes =
            omega (
              arith,
              ends.num_scopes,
              valid.counted.num_scopes,
              num_begun-append w (Close at ∷ []),
              ap num_begun goes.word,
            );
        depth = omega (arith, ends.depth, valid.counted.depth, most_open-closed w at, ap (most_open 0) goes.word);
        range = λ none. absurd (some_more w (Close at) (sym goes.word ∙ none));
      };
      in_order =
          subst (λ (v : List Event). IsInOrder v next.latest) (sym goes.word)
          (subst (λ (t : ℤ). IsInOrder (w ++ (Close at ∷ [])) t) (sym ends.latest)
          (closed_in_order w state.latest at ends.later ends.fits valid.in_order));
      num_open =
          omega (
            arith,
            ends.num_open,
            places_in state valid,
            ap length places,
            length-drop 1 (open_offsets form w),
            length-open_offsets form (events_in form next.info.stream.bytes),
          );
      innermost =
          ends.innermost
          ∙ around_held form state.info.stream.bytes state.latest state.innermost _ (holds_in state valid) ends.small
          (places_more state valid more)
          ∙ sym (ap innermost_place places);
      room = omega (arith, valid.room, ends.room, ends.num_open);
      has_spare = ends.has_spare;
      supplied =
          stays_supplied next.supply state.info.stream next.info.stream
          (omega (arith, longer, ends.room)) ends.supplied;
      spare = ends.spare;
    })

-- the thread after its innermost scope has ended
pub ended_thread : (state : Inside) (form : Form) (bytes : List ℕ) (at now : ℤ) →
    IsThreadState state → form ≡ state.info.stream.form → FitsSigned w64 at → at ≡ int_max state.latest now →
    0 < state.num_open → bytes ≡ ended_bytes state.info.stream.bytes state.innermost at →
    with_bytes state form bytes at ≡ after_end (thread_in state) now
ended_thread state form bytes at now valid same fits time more e =
    let goes = ended_goes state bytes at valid (omega (arith, ints, clamps, time)) fits more e in
    let word : events_in form bytes ≡ word_of state
    ++ (Close (int_max state.latest now) ∷ []) =
    ap (λ (f : Form). events_in f bytes) same
    ∙ goes.word
    ∙ ap (λ (t : ℤ). word_of state ++ (Close t ∷ [])) time in
    same_thread _ _ refl same (closed_first state.first_start _ _ _ word) time word refl

-- ---- all scopes are closed

-- the first start, from the stream's bytes
pub first_in : (state : Inside) →
    IsThreadState state →
    option_or state.first_start (start_in state.info.stream.bytes) ≡ (thread_in state).first_start
first_in state valid =
    ap (option_or state.first_start) (start_held state.info.stream.form state.info.stream.bytes state.latest
    (holds_in state valid))

-- it stays the same once it is kept apart from the bytes
pub told_first : (state : Inside) →
    IsThreadState state →
    option_or (option_or state.first_start (start_in state.info.stream.bytes)) (first_open (word_of state))
    ≡ (thread_in state).first_start
told_first state valid =
    let word = word_of state in
    ap (λ (x : Option ℤ). option_or x (first_open word)) (first_in state valid) ∙ or_again state.first_start (first_open word)

-- once all scopes have ended, the completed info is a record of the thread's word
pub report_in : (state : Inside) (info : StreamInfo) →
    IsThreadState state → open_after 0 (word_of state) ≡ 0 → info ≡ completed_info state.info state.latest →
    IsReportOf (thread_in state) (facts_of info)
report_in state info valid none is =
    let closed = closed_held state.info.stream.form state.info.stream.bytes state.latest (holds_in state valid) none in
    let f = (scopes_in state.info.stream.form (word_of state)).closed in
    let range : range_until (start_in state.info.stream.bytes) state.latest state.info.range_ns
    ≡ (least_open (tour f), greatest_close (tour f)) =
    ap (λ (o : Option ℤ). range_until o state.latest state.info.range_ns)
    (start_held state.info.stream.form state.info.stream.bytes state.latest (holds_in state valid)
    ∙ ap first_open closed.word)
    ∙ ended_range f state.latest state.info.range_ns
    (subst (λ (w : List Event). IsInOrder w state.latest) closed.word valid.in_order)
    (sym (ap (open_after 0) closed.word) ∙ none) (λ e. valid.counted.range (closed.word ∙ e)) in
    subst (λ (i : StreamInfo). IsReportOf (thread_in state) (facts_of i)) (sym is) (record {
      forest = f;
      form = refl;
      word = closed.word;
      honest = record {
        stream = record { whole = closed.whole; fits = closed.written };
        counts = record {
          num_scopes = valid.counted.num_scopes ∙ ap num_begun closed.word ∙ num_begun-tour f;
          depth = omega (arith, valid.counted.depth, ap (most_open 0) closed.word, most_open-tour 0 f);
          least_start = ap (λ (p : ℤ × ℤ). p.0) range ∙ least_open-tour f;
          greatest_stop = ap (λ (p : ℤ × ℤ). p.1) range ∙ greatest_close-tour f;
        };
      };
    })

-- and the state with that info is as valid as before
pub completed_in : (state : Inside) (info : StreamInfo) (first : Option ℤ) →
    IsThreadState state → info ≡ completed_info state.info state.latest →
    IsThreadState (record state { info = info; first_start = first })
completed_in state info first valid is =
    let start = start_held state.info.stream.form state.info.stream.bytes state.latest (holds_in state valid) in
    subst (λ (i : StreamInfo). IsThreadState (record state { info = i; first_start = first })) (sym is) (record {
      latest = valid.latest;
      scopes = valid.scopes;
      counted = record {
        num_scopes = valid.counted.num_scopes;
        depth = valid.counted.depth;
        range =
            λ e. ap (λ (o : Option ℤ). range_until o state.latest state.info.range_ns) (start ∙ ap first_open e)
            ∙ valid.counted.range e;
      };
      in_order = valid.in_order;
      num_open = valid.num_open;
      innermost = valid.innermost;
      room = valid.room;
      has_spare = valid.has_spare;
      supplied = valid.supplied;
      spare = valid.spare;
    })
