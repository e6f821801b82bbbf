-- A report of what waits, before a scope begins, adds nothing to a thread.
use Rattle.std.proofs.Common.{◌≡◌, ◌⊎◌, ℤ, Bool, true, false, cond, List, [], ◌∷◌, ◌++◌, Option}
use Rattle.std.proofs.Common.{Some, None, Result, Ok, Err, inl, inr, refl, sym, ap, ◌∙◌, subst, arith}
use Rattle.std.specs.FinMap.{get, insert, get-insert}
use Rattle.std.proofs.lemmas.List.{append-nil}
use Rattle.puffin_data.specs.declared.error.Error.{Error}
use Rattle.puffin_data.specs.Forest.{Forest, empty, node, append}
use Rattle.puffin_data.specs.Forest.Tour.{Event, Close, tour}
use Rattle.puffin_data.specs.Forest.Words.{open_after}
use Rattle.puffin_data.specs.Honesty.{StreamFacts, joined_facts, AreUnlike}
use Rattle.puffin_data.proofs.lemmas.Tours.{tour-append}
use Rattle.puffin_data.proofs.lemmas.Extended.{honest_joined}
use Rattle.puffin_threads.specs.Thread.ThreadProfiler.{thread_of}
use Rattle.puffin_threads.specs.Thread.ThreadKey.{ThreadKey}
use Rattle.puffin_threads.specs.Thread.Calls as calls
use Rattle.puffin_threads.specs.Thread.Calls.{after_handing, key_of_thread}
use Rattle.puffin_threads.specs.Thread.Closing.{IsReportOf, Reports}
use Rattle.puffin_threads.specs.Details.{Details}
use Rattle.puffin_threads.proofs.lemmas.ThreadKeys.{key_cmp_total, has_same_key-itself}
use Rattle.puffin_frames.specs.Frame.Contents.{stream_under}
use Rattle.puffin_collector.specs.Collector.State.{Collected, after_report, AcceptsReport, RefusesReport}
use Rattle.puffin.specs.declared.light.thread.Thread.{Thread}
use Rattle.puffin.specs.LightThread.{profiler_of, reporter_of}
use Rattle.puffin.specs.Places.{num_known}
use Rattle.puffin.specs.Guards.{MakesRoom}
use Rattle.puffin.proofs.lemmas.StartedThreads.{HasStarted, stays_started}
use Rattle.puffin_accounts.specs.Moments.{Moment, moment_by, key_at, Sees}
use Rattle.puffin_accounts.specs.Times.{first_start_in}
use Rattle.puffin_accounts.specs.Adding.{SpellsEvents, AddsScopes}
use Rattle.puffin_accounts.proofs.lemmas.Times.{has_start, same_start, timed_still}
use Rattle.puffin_accounts.proofs.lemmas.Adding.{quiet, adds_nothing}

no_tour : (f : Forest) (x : Option ℤ) → x ≡ first_start_in None (tour f) → x ≡ None → tour f ≡ []
no_tour empty x is none = refl
no_tour (node s children others) x is none = absurd (has_start None s.start (tour children ++ (Close s.stop ∷ tour others)) x is none)

-- after code, what waits has begun, if it had before
pub adds_started : {C : Type 0} (answers : C → ℤ → C → Type 0) (o m : Moment C) (f : Forest) → HasStarted o.thread
    → AddsScopes answers o m f → HasStarted m.thread
adds_started answers o m f started adds =
    stays_started o.thread m.thread (tour f) started (λ none. at_start none o.thread.first_start refl) adds.word
    (λ shut. let p = adds.passed shut in (p.reported, p.events_kept))
  where
    at_start : m.thread.first_start ≡ None → (s : Option ℤ) → o.thread.first_start ≡ s
        → (o.thread.first_start ≡ None) × (tour f ≡ [])
    at_start none None is = (
      is,
      no_tour f m.thread.first_start
          (adds.timed.first_start ∙ ap (λ (s : Option ℤ). first_start_in s (tour f)) is) none,
    )
    at_start none (Some t) is = absurd (let later = same_start answers o m t (tour f) adds.timed is in cc)

module _ {C : Type 0} (answers : C → ℤ → C → Type 0) (m n : Moment C) (started : HasStarted m.thread)
    (clock : n.clock ≡ m.clock) (known : n.known ≡ m.known) where
  -- the report was refused, or there was none
  still : n.thread ≡ m.thread → n.collected ≡ m.collected → AddsScopes answers m n empty
  still thread same =
      let word : n.thread.word ≡ m.thread.word ++ [] = ap (λ (t : calls.Thread). t.word) thread ∙ sym (append-nil m.thread.word) in
      let details = ap (λ (t : calls.Thread). t.details) thread in
      record {
        timed = timed_still answers m n clock (ap after_handing thread) known;
        word = λ some. word;
        details = λ some. details;
        collected = λ some. same;
        none_open = λ none. ap (λ (t : calls.Thread). open_after 0 t.word) thread ∙ none;
        passed = λ none. quiet m n empty word details same;
      }

  accepted_adds : open_after 0 m.thread.word ≡ 0 → (m.thread.word ≡ [] → ⊥) → n.thread ≡ after_handing m.thread
      → (r : StreamFacts) → IsReportOf m.thread r → AcceptsReport m.collected (key_of_thread m.thread) m.thread.details r n.collected
      → AddsScopes answers m n empty
  accepted_adds shut some handed r is accepted = record {
    timed = timed_still answers m n clock (ap after_handing handed) known;
    word = λ opened. absurd (omega (arith, shut, opened));
    details = λ opened. absurd (omega (arith, shut, opened));
    collected = λ opened. absurd (omega (arith, shut, opened));
    none_open = λ none. ap (λ (t : calls.Thread). open_after 0 t.word) handed;
    passed = λ none. record {
      reported = m.thread.word;
      sent = m.thread.details;
      events_kept = ap (λ (t : calls.Thread). m.thread.word ++ t.word) handed;
      details_kept = ap (λ (t : calls.Thread). m.thread.details ++ t.details) handed ∙ append-nil m.thread.details;
      balanced = λ h. (empty, ap (λ (t : calls.Thread). t.word) handed);
      stream = inr (joined_facts (stream_under m.collected.streams (key_at n)) r, there, joined);
      others = λ i other. is_after_at i ∙ get-insert key_cmp_total m.collected.streams (key_at n)
          (joined_facts (stream_under m.collected.streams (key_at n)) r) i
          ∙ ap (λ (t : Bool). cond t (Some (joined_facts (stream_under m.collected.streams (key_at n)) r))
          (get m.collected.streams i)) other;
      unstarted = λ not. absurd (some (started (sym (ap (λ (t : calls.Thread). t.first_start) handed) ∙ not)));
      collected = subst (λ (c : Collected). c
          ≡ record m.collected { reported = c.reported; streams = c.streams; new_details = m.collected.new_details ++ m.thread.details })
          (sym is_after) refl;
    };
  }
    where
      key : key_at n ≡ key_of_thread m.thread
      key = ap key_of_thread handed

      is_after : n.collected ≡ after_report m.collected (key_at n) m.thread.details r
      is_after = accepted.0 ∙ ap (λ (k : ThreadKey). after_report m.collected k m.thread.details r) (sym key)

      is_after_at : (i : ThreadKey) → get n.collected.streams i
          ≡ get (insert m.collected.streams (key_at n) (joined_facts (stream_under m.collected.streams (key_at n)) r)) i
      is_after_at i = ap (λ (c : Collected). get c.streams i) is_after

      there : get n.collected.streams (key_at n) ≡ Some (joined_facts (stream_under m.collected.streams (key_at n)) r)
      there = is_after_at (key_at n) ∙ get-insert key_cmp_total m.collected.streams (key_at n)
          (joined_facts (stream_under m.collected.streams (key_at n)) r) (key_at n)
          ∙ ap (λ (t : Bool). cond t (Some (joined_facts (stream_under m.collected.streams (key_at n)) r))
          (get m.collected.streams (key_at n))) (has_same_key-itself (key_at n))

      joined : (before : List Event) → SpellsEvents (stream_under m.collected.streams (key_at n)) before
          → SpellsEvents (joined_facts (stream_under m.collected.streams (key_at n)) r) (before ++ m.thread.word)
      joined before h = record {
        forest = append h.forest is.forest;
        honest = honest_joined (stream_under m.collected.streams (key_at n)) r h.forest is.forest
            (λ unlike. accepted.2 (subst (λ (k : ThreadKey). AreUnlike (stream_under m.collected.streams k) r) key unlike))
            h.honest is.honest;
        toured = tour-append h.forest is.forest ∙ ap (λ (w : List Event). w ++ tour is.forest) h.toured
            ∙ ap (λ (w : List Event). before ++ w) (sym is.word);
      }

  adds_report : (result : Result Bool Error) → Reports AcceptsReport RefusesReport m.thread n.thread m.collected n.collected result
      → AddsScopes answers m n empty
  adds_report (Ok false) h = still h.1 h.2
  adds_report (Ok true) (waits, handed, (r, is, accepted)) = accepted_adds waits.none_open waits.some handed r is accepted
  adds_report (Err e) (same, inl opened) = still same opened.2
  adds_report (Err e) (same, inr (waits, inl memory)) = still same memory.1
  adds_report (Err e) (same, inr (waits, inr refused)) = still same refused.2.1

module _ {C R : Type 0} (answers : C → ℤ → C → Type 0)
    (seen : R → Collected) (accepts : R → ThreadKey → List Details → StreamFacts → R → Type 0)
    (refuses : R → ThreadKey → List Details → StreamFacts → Error → R → Type 0) (sees : Sees seen accepts refuses) where
  pub reports_by : (old new : calls.Thread) (before after : R) (result : Result Bool Error)
      → Reports accepts refuses old new before after result
      → Reports AcceptsReport RefusesReport old new (seen before) (seen after) result
  reports_by old new before after (Ok false) h = (h.0, h.1, ap seen h.2)
  reports_by old new before after (Ok true) h =
      (h.0, h.1, (h.2.0, h.2.1, sees.accepted before (key_of_thread old) old.details h.2.0 after h.2.2))
  reports_by old new before after (Err e) (same, inl opened) = (same, inl (opened.0, opened.1, ap seen opened.2))
  reports_by old new before after (Err e) (same, inr (waits, inl memory)) = (same, inr (waits, inl (memory.0, ap seen memory.1)))
  reports_by old new before after (Err e) (same, inr (waits, inr g)) =
      (same, inr (waits, inr (g.0, g.1, sees.refused before (key_of_thread old) old.details g.0 e after g.2)))

  -- what waits was reported, or not, before a scope began
  pub adds_room : (a b : Thread C R) → HasStarted (moment_by seen a).thread → (b ≡ a) ⊎ MakesRoom accepts refuses a b
      → AddsScopes answers (moment_by seen a) (moment_by seen b) empty
  adds_room a b started (inl same) = subst (λ t. AddsScopes answers (moment_by seen a) (moment_by seen t) empty) (sym same)
      (adds_nothing answers (moment_by seen a))
  adds_room a b started (inr room) =
      adds_report answers (moment_by seen a) (moment_by seen b) started room.clock (ap num_known room.scopes) room.answer
      (reports_by (thread_of (profiler_of a)) (thread_of (profiler_of b)) (reporter_of a) (reporter_of b) room.answer room.reports)
