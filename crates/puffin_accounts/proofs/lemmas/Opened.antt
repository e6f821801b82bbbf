-- A scope around what code adds: it began, code ran within it, and it ended.
use Rattle.std.proofs.Common.{◌≡◌, ℕ, ◌+◌, ◌<◌, ℤ, pos, ◌≤ℤ◌, Bool, cond, List, [], ◌∷◌, ◌++◌, Some}
use Rattle.std.proofs.Common.{inr, refl, sym, ap, ◌∙◌, subst, append_assoc, arith}
use Rattle.std.specs.Prelude.{slice_get}
use Rattle.std.specs.FinMap.{get, insert, get-insert}
use Rattle.std.proofs.lemmas.List.{append-nil}
use Rattle.puffin_data.specs.declared.error.Error.{Error}
use Rattle.puffin_data.specs.declared.data.form.Form.{Form}
use Rattle.puffin_data.specs.Forest.{Forest, empty, node, append}
use Rattle.puffin_data.specs.Forest.Spelling.{size_offset}
use Rattle.puffin_data.specs.Forest.Tour.{Event, Open, Close, tour}
use Rattle.puffin_data.specs.Forest.Words.{word_size, open_after}
use Rattle.puffin_data.specs.Honesty.{StreamFacts, AreUnlike, joined_facts}
use Rattle.puffin_data.specs.Text.{cut_text}
use Rattle.puffin_data.proofs.lemmas.Tours.{tour-append}
use Rattle.puffin_data.proofs.lemmas.Extended.{honest_joined}
use Rattle.puffin_data.proofs.lemmas.WordMeasures.{open_after-append}
use Rattle.puffin_threads.specs.declared.thread_profiler.reporter.Closed.{Closed}
use Rattle.puffin_threads.specs.declared.thread_profiler.reporter.Closed.TheVariants.{Inner, Reported, Kept}
use Rattle.puffin_threads.specs.declared.thread_profiler.profiler.ThreadProfiler.{ThreadProfiler}
use Rattle.puffin_threads.specs.Thread.ThreadProfiler.{thread_of, clock_of}
use Rattle.puffin_threads.specs.Thread.ThreadKey.{ThreadKey}
use Rattle.puffin_threads.specs.Thread.Calls as calls
use Rattle.puffin_threads.specs.Thread.Calls.{time_of, after_begin, after_end, after_handing, open_offsets, key_of_thread}
use Rattle.puffin_threads.specs.Thread.Closing.{Closes, IsReportOf}
use Rattle.puffin_threads.specs.Details.{Details}
use Rattle.puffin_threads.proofs.lemmas.ThreadKeys.{key_cmp_total, has_same_key-itself}
use Rattle.puffin_frames.specs.Frame.Contents.{stream_under}
use Rattle.puffin_collector.specs.Collector.State.{Collected, after_report, AcceptsReport, RefusesReport}
use Rattle.puffin_scopes.specs.Guards.Guard.{offset_in}
use Rattle.puffin_scopes.specs.declared.guard_state.GuardState.{GuardState}
use Rattle.puffin_scopes.specs.declared.guard_state.GuardState.TheVariants.{On, Off, Refused}
use Rattle.puffin.specs.declared.light.thread.Thread.{Thread}
use Rattle.puffin.specs.declared.light.scopes.Place.{Place}
use Rattle.puffin.specs.LightThread.{profiler_of, reporter_of, scopes_of}
use Rattle.puffin.specs.Places.{num_known}
use Rattle.puffin.specs.Guards.{BeginsThere, EndsIn, Leaves}
use Rattle.puffin_accounts.specs.Moments.{Moment, moment_by, num_open, key_at, Sees}
use Rattle.puffin_accounts.specs.Times.{Timed}
use Rattle.puffin_accounts.specs.Adding.{SpellsEvents, AddsScopes, AddsScope}
use Rattle.puffin.proofs.lemmas.Offsets.{offsets-open, offsets-tour, depth-tour}
use Rattle.puffin_accounts.proofs.lemmas.Times.{has_start, timed_open, timed_close, timed_both}
use Rattle.puffin_accounts.proofs.lemmas.Adding.{quiet}

module _ {C : Type 0} (answers : C → ℤ → C → Type 0) (a b n d : Moment C) (id : ℕ) (text : List ℕ) (at at2 : ℤ) (f : Forest)
    (answered : answers a.clock at b.clock) (low : pos 0 ≤ℤ at) (begun : b.thread ≡ after_begin a.thread id text at)
    (still : b.collected ≡ a.collected) (known : b.known ≡ a.known) (body : AddsScopes answers b n f) where
  abbrev opening : Event
  opening = Open id text (time_of a.thread at)

  abbrev closing : Event
  closing = Close (time_of n.thread at2)

  abbrev whole : Forest
  whole = node (record { id = id; start = time_of a.thread at; stop = time_of n.thread at2; text = text }) f empty

  one_more : num_open b ≡ num_open a + 1
  one_more = ap (λ (t : calls.Thread). open_after 0 t.word) begun ∙ open_after-append 0 a.thread.word (opening ∷ [])

  deep : 0 < num_open b
  deep = let h = one_more in omega arith

  same_depth : num_open n ≡ num_open a + 1
  same_depth = ap (open_after 0) (body.word deep) ∙ depth-tour b.thread.word f ∙ one_more

  word_then : n.thread.word ≡ a.thread.word ++ (opening ∷ tour f)
  word_then = body.word deep ∙ ap (λ (t : calls.Thread). t.word ++ tour f) begun ∙ append_assoc a.thread.word (opening ∷ []) (tour f)

  details_then : n.thread.details ≡ a.thread.details
  details_then = body.details deep ∙ ap (λ (t : calls.Thread). t.details) begun

  collected_then : n.collected ≡ a.collected
  collected_then = body.collected deep ∙ still

  -- the innermost scope is this one
  innermost : slice_get (open_offsets n.thread.form n.thread.word) 0
      ≡ Some (word_size a.thread.form a.thread.word + size_offset a.thread.form text)
  innermost =
      let form : n.thread.form ≡ a.thread.form = body.timed.form ∙ ap (λ (t : calls.Thread). t.form) begun in
      ap (λ (x : Form). slice_get (open_offsets x n.thread.word) 0) form
      ∙ ap (λ (w : List Event). slice_get (open_offsets a.thread.form w) 0) (body.word deep)
      ∙ ap (λ (xs : List ℕ). slice_get xs 0) (offsets-tour a.thread.form b.thread.word f
      ∙ ap (λ (t : calls.Thread). open_offsets a.thread.form t.word) begun
      ∙ offsets-open a.thread.form a.thread.word id text (time_of a.thread at))

  around : answers n.clock at2 d.clock → pos 0 ≤ℤ at2 → d.known ≡ n.known → (closed : Closed)
      → Closes AcceptsReport RefusesReport n.thread d.thread at2 n.collected d.collected closed → AddsScopes answers a d whole
  around later low2 later_known = at_close
    where
      timed : after_handing d.thread ≡ after_handing (after_end n.thread at2) → Timed answers a d (tour whole)
      timed is = timed_both answers a n d (opening ∷ tour f) (closing ∷ [])
          (timed_both answers a b n (opening ∷ []) (tour f) (timed_open answers a b id text at answered low begun known) body.timed)
          (timed_close answers n d at2 later low2 is later_known)

      word_full : n.thread.word ++ (closing ∷ []) ≡ a.thread.word ++ tour whole
      word_full = ap (λ (w : List Event). w ++ (closing ∷ [])) word_then
          ∙ append_assoc a.thread.word (opening ∷ tour f) (closing ∷ [])

      quiet_end : d.thread ≡ after_end n.thread at2 → d.collected ≡ n.collected → AddsScopes answers a d whole
      quiet_end ended same =
          let word : d.thread.word ≡ a.thread.word ++ tour whole = ap (λ (t : calls.Thread). t.word) ended ∙ word_full in
          let details : d.thread.details ≡ a.thread.details = ap (λ (t : calls.Thread). t.details) ended ∙ details_then in
          record {
            timed = timed (ap after_handing ended);
            word = λ some. word;
            details = λ some. details;
            collected = λ some. same ∙ collected_then;
            none_open = λ none. ap (open_after 0) word ∙ depth-tour a.thread.word whole ∙ none;
            passed = λ none. quiet a d whole word details (same ∙ collected_then);
          }

      reported_end : open_after 0 n.thread.word ≡ 1 → d.thread ≡ after_handing (after_end n.thread at2) → (r : StreamFacts)
          → IsReportOf (after_end n.thread at2) r
          → AcceptsReport n.collected (key_of_thread (after_end n.thread at2)) n.thread.details r d.collected
          → AddsScopes answers a d whole
      reported_end one handed r is accepted = record {
        timed = timed (ap after_handing handed);
        word = λ some. absurd (outer some);
        details = λ some. absurd (outer some);
        collected = λ some. absurd (outer some);
        none_open = λ none. ap (λ (t : calls.Thread). open_after 0 t.word) handed;
        passed = λ none. record {
          reported = n.thread.word ++ (closing ∷ []);
          sent = n.thread.details;
          events_kept = ap (λ (t : calls.Thread). (n.thread.word ++ (closing ∷ [])) ++ t.word) handed
              ∙ append-nil (n.thread.word ++ (closing ∷ [])) ∙ word_full;
          details_kept = ap (λ (t : calls.Thread). n.thread.details ++ t.details) handed ∙ append-nil n.thread.details ∙ details_then;
          balanced = λ h. (empty, ap (λ (t : calls.Thread). t.word) handed);
          stream = inr (joined_facts (stream_under a.collected.streams (key_at d)) r, there, joined);
          others = λ i other. is_after_at i ∙ get-insert key_cmp_total a.collected.streams (key_at d)
              (joined_facts (stream_under a.collected.streams (key_at d)) r) i
              ∙ ap (λ (t : Bool). cond t (Some (joined_facts (stream_under a.collected.streams (key_at d)) r))
              (get a.collected.streams i)) other;
          unstarted = λ not. absurd (has_start a.thread.first_start (time_of a.thread at)
              (tour f ++ (closing ∷ [])) d.thread.first_start (timed (ap after_handing handed)).first_start not);
          collected = subst (λ (c : Collected). c
              ≡ record a.collected {
                reported = c.reported;
                streams = c.streams;
                new_details =
                    a.collected.new_details ++ n.thread.details;
              }) (sym is_after) refl;
        };
      }
        where
          outer : 0 < num_open a → ⊥
          outer some = let h = same_depth in omega arith

          key : key_at d ≡ key_of_thread (after_end n.thread at2)
          key = ap key_of_thread handed

          is_after : d.collected ≡ after_report a.collected (key_at d) n.thread.details r
          is_after = accepted.0 ∙ ap (λ (c : Collected). after_report c (key_of_thread (after_end n.thread at2)) n.thread.details r)
              collected_then ∙ ap (λ (k : ThreadKey). after_report a.collected k n.thread.details r) (sym key)

          is_after_at : (i : ThreadKey) → get d.collected.streams i
              ≡ get (insert a.collected.streams (key_at d) (joined_facts (stream_under a.collected.streams (key_at d)) r)) i
          is_after_at i = ap (λ (c : Collected). get c.streams i) is_after

          there : get d.collected.streams (key_at d) ≡ Some (joined_facts (stream_under a.collected.streams (key_at d)) r)
          there = is_after_at (key_at d) ∙ get-insert key_cmp_total a.collected.streams (key_at d)
              (joined_facts (stream_under a.collected.streams (key_at d)) r) (key_at d)
              ∙ ap (λ (t : Bool). cond t (Some (joined_facts (stream_under a.collected.streams (key_at d)) r))
              (get a.collected.streams (key_at d))) (has_same_key-itself (key_at d))

          joined : (before : List Event) → SpellsEvents (stream_under a.collected.streams (key_at d)) before
              → SpellsEvents (joined_facts (stream_under a.collected.streams (key_at d)) r)
              (before ++ (n.thread.word ++ (closing ∷ [])))
          joined before h = record {
            forest = append h.forest is.forest;
            honest = honest_joined (stream_under a.collected.streams (key_at d)) r h.forest is.forest
                (λ unlike. accepted.2 (subst (λ (c : Collected). AreUnlike
                (stream_under c.streams (key_of_thread (after_end n.thread at2))) r) (sym collected_then)
                (subst (λ (k : ThreadKey). AreUnlike (stream_under a.collected.streams k) r) key unlike))) h.honest is.honest;
            toured = tour-append h.forest is.forest ∙ ap (λ (w : List Event). w ++ tour is.forest) h.toured
                ∙ ap (λ (w : List Event). before ++ w) (sym is.word);
          }

      at_close : (closed : Closed) → Closes AcceptsReport RefusesReport n.thread d.thread at2 n.collected d.collected closed
          → AddsScopes answers a d whole
      at_close Inner h = quiet_end h.1 h.2
      at_close Reported h = reported_end h.0 h.1 h.2.0 h.2.1 h.2.2
      at_close (Kept e) h = quiet_end h.1 h.2.2.1

module _ {C R : Type 0} (answers : C → ℤ → C → Type 0)
    (seen : R → Collected) (accepts : R → ThreadKey → List Details → StreamFacts → R → Type 0)
    (refuses : R → ThreadKey → List Details → StreamFacts → Error → R → Type 0) (sees : Sees seen accepts refuses) where
  pub closes_by : (old new : calls.Thread) (at : ℤ) (before after : R) (closed : Closed)
      → Closes accepts refuses old new at before after closed
      → Closes AcceptsReport RefusesReport old new at (seen before) (seen after) closed
  closes_by old new at before after Inner h = (h.0, h.1, ap seen h.2)
  closes_by old new at before after Reported h =
      (h.0, h.1, (h.2.0, h.2.1, sees.accepted before (key_of_thread (after_end old at)) (after_end old at).details h.2.0 after h.2.2))
  closes_by old new at before after (Kept e) h =
      (h.0, h.1, (h.2.0, h.2.1, sees.refused before (key_of_thread (after_end old at)) (after_end old at).details h.2.0 e after h.2.2))

  abbrev moment_with : ThreadProfiler C → R → ℕ → Moment C
  moment_with p r known = record { clock = clock_of p; known = known; thread = thread_of p; collected = seen r }

  pub same_moment : (a b : Thread C R) → profiler_of b ≡ profiler_of a → reporter_of b ≡ reporter_of a
      → scopes_of b ≡ scopes_of a → moment_by seen b ≡ moment_by seen a
  same_moment a b profiler reporter scopes =
      ap (λ p. moment_with p (reporter_of b) (num_known (scopes_of b))) profiler
      ∙ ap (λ r. moment_with (profiler_of a) r (num_known (scopes_of b))) reporter
      ∙ ap (λ k. moment_with (profiler_of a) (reporter_of a) (num_known k)) scopes

  bare : (a b c d : Thread C R) (f : Forest) → profiler_of b ≡ profiler_of a → reporter_of b ≡ reporter_of a
      → scopes_of b ≡ scopes_of a → AddsScopes answers (moment_by seen b) (moment_by seen c) f → d ≡ c
      → AddsScopes answers (moment_by seen a) (moment_by seen d) f
  bare a b c d f profiler reporter scopes body left =
      subst (λ m. AddsScopes answers m (moment_by seen d) f) (same_moment a b profiler reporter scopes)
      (subst (λ t. AddsScopes answers (moment_by seen b) (moment_by seen t) f) (sym left) body)

  -- A guard was opened at a place, code ran within it, and it was dropped.
  pub adds_scope : (a b c d : Thread C R) (place : Place) (text : List ℕ) (state : GuardState) (f : Forest)
      → BeginsThere answers a place text state b → AddsScopes answers (moment_by seen b) (moment_by seen c) f
      → Leaves (EndsIn answers accepts refuses) (offset_in state) c d
      → AddsScope answers (moment_by seen a) (moment_by seen d) place text state f
  adds_scope a b c d place text Off f begins body left =
      record { start = pos 0; stop = pos 0; adds = bare a b c d f begins.begins begins.reporter begins.scopes body left }
  adds_scope a b c d place text (Refused e) f begins body left =
      record { start = pos 0; stop = pos 0; adds = bare a b c d f begins.begins.0 begins.reporter begins.scopes body left }
  adds_scope a b c d place text (On offset) f begins body left =
      let h = begins.begins.1 in
      let still : seen (reporter_of b) ≡ seen (reporter_of a) = ap seen begins.reporter in
      let stored = cut_text (thread_of (profiler_of a)).form text in
      let end = left.ends.innermost (innermost answers (moment_by seen a) (moment_by seen b) (moment_by seen c)
      (moment_by seen d) place.id stored h.at h.at f h.answered h.never_negative h.begun still (ap num_known begins.scopes) body
      ∙ ap Some (sym h.offset_is)) in
      record {
        start = time_of (thread_of (profiler_of a)) h.at;
        stop = time_of (thread_of (profiler_of c)) end.at;
        adds = around answers (moment_by seen a) (moment_by seen b) (moment_by seen c)
            (moment_by seen d) place.id stored h.at end.at f h.answered h.never_negative h.begun still
            (ap num_known begins.scopes) body end.answered end.never_negative (ap num_known left.scopes) end.closed
            (closes_by (thread_of (profiler_of c)) (thread_of (profiler_of d)) end.at (reporter_of c)
            (reporter_of d) end.closed end.closes);
      }
