-- Beginning a scope keeps the invariant of a thread, and adds the beginning to its events.
use Rattle.std.proofs.Common.{◌≡◌, ◌≤◌, ◌<◌, ℕ, ◌+◌, ◌*◌, ◌^◌, max, ℤ, pos, ◌≤ℤ◌, FitsSigned, w64, List, [], ◌∷◌, ◌++◌, length, Some, string_bytes, sym, ap, subst, ◌∙◌, arith}
use Rattle.std.specs.List.{All}
use Rattle.std.proofs.lemmas.Int.{ints}
use Rattle.std.proofs.lemmas.List.{length-append}
use Rattle.puffin_data.specs.Text.Lengths.{stored_limit}
use Rattle.puffin_data.specs.Forest.Spelling.{begin_bytes, size_offset}
use Rattle.puffin_data.specs.Forest.Tour.{Event, Open}
use Rattle.puffin_data.specs.Forest.Words.{word_size, num_begun, open_after, most_open}
use Rattle.puffin_data.proofs.lemmas.WordMeasures.{num_begun-append, most_open-opened, length-begin}
use Rattle.puffin_threads.specs.declared.thread_profiler.thread_state.ThreadState.TheInside.{Inside}
use Rattle.puffin_threads.specs.Thread.Events.{events_in}
use Rattle.puffin_threads.specs.inner.StoredThread.{IsThreadState, HoldsScopes, IsInOrder, innermost_place, spare_name}
use Rattle.puffin_threads.specs.inner.Supplied.{IsSupplied}
use Rattle.puffin_threads.specs.Thread.Calls.{open_offsets}
use Rattle.puffin_threads.proofs.FirstStarts.{opened_in_order}
use Rattle.puffin_threads.proofs.RecordedScopes.{Goes, length-open_offsets, size_held, begins_held, offsets_opened}
use Rattle.puffin_threads.proofs.ThreadStates.{word_of, holds_in, places_in, in_own_form, some_more}

-- what `begin_scope` does to the fields: it appends the beginning of a scope with this id, text and start, whose size is to stand at
-- this offset
pub record Begins (state next : Inside) (id : ℕ) (text : List ℕ) (at : ℤ) (offset : ℕ) : Type 0 where
  pub form : next.info.stream.form ≡ state.info.stream.form
  pub later : state.latest ≤ℤ at
  pub fits : FitsSigned w64 at
  pub id_low : 0 < id
  pub id_high : id < 2 ^ 32
  pub stored : length text ≤ stored_limit state.info.stream.form
  pub text_bytes : All (λ b. b < 256) text
  pub bytes :
      next.info.stream.bytes ≡ state.info.stream.bytes ++ begin_bytes state.info.stream.form id at text state.innermost
  pub offset_is : offset + 8 ≡ length next.info.stream.bytes
  pub num_open : next.num_open ≡ state.num_open + 1
  pub innermost : next.innermost ≡ offset
  pub num_scopes : next.info.num_scopes ≡ state.info.num_scopes + 1
  pub depth : next.info.depth ≡ max state.info.depth next.num_open
  pub latest : next.latest ≡ at
  pub room : 9 * next.num_open ≤ next.info.stream.room
  pub supplied : IsSupplied next.supply next.info.stream
  pub spare : spare_name next ≡ Some (string_bytes next.name)

-- the offset at which the size of the new scope stands
pub offset_in : (state : Inside) (id : ℕ) (text : List ℕ) (at : ℤ) (offset : ℕ) →
    IsThreadState state →
    (next : List ℕ) →
    next ≡ state.info.stream.bytes ++ begin_bytes state.info.stream.form id at text state.innermost →
    offset + 8 ≡ length next →
    offset ≡ word_size state.info.stream.form (word_of state) + size_offset state.info.stream.form text
offset_in state id text at offset valid next e is =
    omega (
      arith,
      ap length e,
      length-append state.info.stream.bytes
          (begin_bytes state.info.stream.form id at text state.innermost),
      length-begin state.info.stream.form id at text state.innermost,
      size_held state.info.stream.form state.info.stream.bytes state.latest (holds_in state valid),
    )

-- the bytes then hold the scopes of one event more
pub begun_goes : (state next : Inside) (id : ℕ) (text : List ℕ) (at : ℤ) (offset : ℕ) →
    IsThreadState state → Begins state next id text at offset →
    Goes state.info.stream.form state.info.stream.bytes next.info.stream.bytes at (Open id text at)
begun_goes state next id text at offset valid begins =
    let low = valid.latest in
    let later = begins.later in
    begins_held state.info.stream.form state.info.stream.bytes next.info.stream.bytes state.latest at id text state.innermost
    (holds_in state valid) begins.later
    (omega (arith, ints)) begins.fits begins.id_low begins.id_high begins.stored begins.text_bytes valid.innermost
    begins.bytes

-- the state is as valid as before
pub begun_in : (state next : Inside) (id : ℕ) (text : List ℕ) (at : ℤ) (offset : ℕ) →
    IsThreadState state → Begins state next id text at offset →
    IsThreadState next
begun_in state next id text at offset valid begins =
    let goes = begun_goes state next id text at offset valid begins in
    let w = word_of state in
    let more = w ++ (Open id text at ∷ []) in
    let low = valid.latest in
    let later = begins.later in
    let nonneg : pos 0 ≤ℤ at = omega (arith, ints) in
    let deep : next.num_open ≡ open_after 0 w + 1 = omega (arith, valid.num_open, begins.num_open) in
    let places : open_offsets state.info.stream.form (events_in state.info.stream.form next.info.stream.bytes)
    ≡ offset ∷ open_offsets state.info.stream.form w =
    ap (open_offsets state.info.stream.form) goes.word
    ∙ offsets_opened state.info.stream.form w id text at
    ∙ ap (λ (n : ℕ). n ∷ open_offsets state.info.stream.form w)
    (sym (offset_in state id text at offset valid next.info.stream.bytes begins.bytes begins.offset_is)) in
    in_own_form state next begins.form (record {
      latest = subst (λ (t : ℤ). pos 0 ≤ℤ t) (sym begins.latest) nonneg;
      scopes =
          ∣ subst (λ (t : ℤ). HoldsScopes state.info.stream.form next.info.stream.bytes t)
          (sym begins.latest) goes.holds ∣₁;
      counted = record {
        num_scopes =
            omega (
              arith,
              begins.num_scopes,
              valid.counted.num_scopes,
              num_begun-append w (Open id text at ∷ []),
              ap num_begun goes.word,
            );
        depth =
            omega (
              arith,
              begins.depth,
              valid.counted.depth,
              deep,
              most_open-opened w id text at,
              ap (most_open 0) goes.word,
            );
        range = λ none. absurd (some_more w (Open id text at) (sym goes.word ∙ none));
      };
      in_order =
          subst (λ (v : List Event). IsInOrder v next.latest) (sym goes.word)
          (subst (λ (t : ℤ). IsInOrder more t) (sym begins.latest)
          (opened_in_order w state.latest at id text begins.later begins.fits
          (λ none. absurd (omega (
            arith,
            none,
            length-open_offsets state.info.stream.form more,
            ap length (offsets_opened state.info.stream.form w id text at),
          ))) valid.in_order));
      num_open =
          omega (
            arith,
            deep,
            ap length places,
            places_in state valid,
            valid.num_open,
            length-open_offsets state.info.stream.form (events_in state.info.stream.form next.info.stream.bytes),
          );
      innermost = begins.innermost ∙ sym (ap innermost_place places);
      room = begins.room;
      has_spare = λ none. cc (begins.spare, none);
      supplied = begins.supplied;
      spare = λ name is. cc (begins.spare, is);
    })
