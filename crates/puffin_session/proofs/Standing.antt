-- What single calls do to a session keeps it where its history leaves it.
use Rattle.std.proofs.Common.{◌≡◌, ◌≢◌, ℕ, ◌+◌, ◌<◌, ◌==◌, ℤ, pos, Bool, true, false, cond, fold, List, [], ◌∷◌, ◌++◌, length, Option, Some, None, refl, sym, ap, ◌∙◌, subst, zero-add, arith, inl, inr}
use Rattle.std.proofs.lemmas.List.Sums.{sum_by-append}
use Rattle.std.proofs.lemmas.Bool.{cases_eq}
use Rattle.std.specs.Int.{int_max}
use Rattle.std.specs.List.{slice_index_or, sum_by}
use Rattle.std.specs.FinMap.{empty}
use Rattle.puffin_data.specs.declared.data.form.Form.{Form}
use Rattle.puffin_data.specs.Honesty.{StreamFacts, AreUnlike}
use Rattle.puffin_data.specs.Text.{cut_text}
use Rattle.puffin_data.specs.Forest.Tour.{Event, Close}
use Rattle.puffin_data.specs.Forest.Words.{num_begun}
use Rattle.puffin_threads.specs.Thread.ThreadKey.{ThreadKey}
use Rattle.puffin_threads.specs.Thread.Calls.{Thread, after_begin, after_end, after_handing, after_registering, key_of_thread}
use Rattle.puffin_threads.specs.Details.{Details}
use Rattle.puffin_collector.specs.Collector.State.{reported_to}
use Rattle.puffin_frames.specs.Frame.Contents.{stream_under}
use Rattle.puffin_session.specs.Session.History.{Word, Opening, Mark, begun, ended, Call, Action, calls, hands, frames, registers, nobody, thread_at, call_of}
use Rattle.puffin_session.specs.Session.Deliveries.{under, word_with, key_under, deliveries_at, deliveries_after}
use Rattle.puffin_session.specs.Session.Due.{due, scopes_delivered, is_numbered, index_after, reported_after}
use Rattle.puffin_session.specs.Session.Notes.{Note, noted, sent, notes_at, details_registered}
use Rattle.puffin_session.specs.Session.{SessionState, word_of_thread, opening_of, SpellsWord, SpellsDue, StandsAfter, TellsAfter, thread_after}
use Rattle.puffin_session.proofs.Histories.{latest_of-same, latest_of-more, unreported-same, unreported-begun, unreported-ended, unreported-reported, first_start_of-same, first_start_of-begun, first_start_of-ended, deliveries_after-more, due-same, due-more, due-anew}
use Rattle.puffin_session.proofs.Telling.{waiting_with, details_registered-more}
use Rattle.puffin_session.proofs.SessionCollects.{SpellsDue-report, SpellsDue-none}

-- ---- threads

-- a thread after a call of it; an accepted report leaves no events
abbrev pub after_call : Thread → ℤ → Mark → Thread
after_call thread at (begun id text) = after_begin thread id (cut_text thread.form text) (int_max (pos 0) at)
after_call thread at (ended false) = after_end thread (int_max (pos 0) at)
after_call thread at (ended true) = after_handing (after_end thread (int_max (pos 0) at))

-- the word that a report hands over where the last open scope ends
abbrev pub handed_at_end : Thread → ℤ → Word
handed_at_end thread at = word_of_thread (after_end thread (int_max (pos 0) at))

same_thread : {n n' : List ℕ} {form : Form} {f f' : Option ℤ} {l l' : ℤ} {w w' : List Event} {ds ds' : List Details}
    → n ≡ n' → f ≡ f' → l ≡ l' → w ≡ w' → ds ≡ ds' →
    ◌≡◌ {A = Thread} (record { name = n; form = form; first_start = f; latest = l; word = w; details = ds })
    (record { name = n'; form = form; first_start = f'; latest = l'; word = w'; details = ds' })
same_thread {form = form} a b c d e i = record { name = a i; form = form; first_start = b i; latest = c i; word = d i; details = e i }

itself : (t : ℕ) → (t == t) ≡ true
itself t = grind arith

other : (t u : ℕ) → t ≢ u → (t == u) ≡ false
other t u h = grind arith

own_call : (t : ℕ) (c : Call) → call_of t (calls t c) ≡ Some (record { at = int_max (pos 0) c.at; mark = c.mark })
own_call t c = rw (itself t)

-- an action of another thread isn't one of this thread
pub foreign_call : (t u : ℕ) (c : Call) → t ≢ u → call_of t (calls u c) ≡ None
foreign_call t u c h = rw (other t u h)

pub foreign_notes : (t u : ℕ) (c : Call) → t ≢ u → notes_at t (calls u c) ≡ []
foreign_notes t u c h = rw (other t u h) refl

pub foreign_details : (t u : ℕ) (d : Details) → t ≢ u → notes_at t (registers u d) ≡ []
foreign_details t u d h = rw (other t u h) refl

module _ (o : Opening) (t : ℕ) (done : List Action) where
  -- what is registered after an action of which this is noted
  notes_with : (a : Action) (notes : List Note) → notes_at t a ≡ notes
      → details_registered o t (done ++ (a ∷ [])) ≡ fold waiting_with (details_registered o t done) notes
  notes_with a notes is = details_registered-more o t done a ∙ ap (fold waiting_with (details_registered o t done)) is

  -- an action that is no call of a thread, and of which it notes nothing, leaves it
  pub thread_after-same : (a : Action) → call_of t a ≡ None → notes_at t a ≡ []
      → thread_after o (done ++ (a ∷ [])) t ≡ thread_after o done t
  thread_after-same a e none =
      same_thread refl (first_start_of-same o t done a e) (latest_of-same o t done a e) (unreported-same o t done a e)
      (notes_with a [] none)

  -- a thread that registers details
  pub thread_after-registered : (d : Details)
      → thread_after o (done ++ (registers t d ∷ [])) t ≡ after_registering (thread_after o done t) d
  thread_after-registered d =
      let a : Action = registers t d in
      same_thread refl (first_start_of-same o t done a refl) (latest_of-same o t done a refl)
      (unreported-same o t done a refl) (notes_with a (noted d ∷ []) (rw (itself t) refl))

  -- a call does to its thread what it says
  pub thread_after-call : (at : ℤ) (m : Mark)
      → thread_after o (done ++ (calls t (record { at = at; mark = m }) ∷ [])) t
      ≡ after_call (thread_after o done t) at m
  thread_after-call at (begun id text) =
      let a : Action = calls t (record { at = at; mark = begun id text }) in
      let e = own_call t (record { at = at; mark = begun id text }) in
      same_thread refl (first_start_of-begun o t done a (int_max (pos 0) at) id text e)
      (latest_of-more o t done a (record { at = int_max (pos 0) at; mark = begun id text }) e)
      (unreported-begun o t done a (int_max (pos 0) at) id text e) (notes_with a [] (rw (itself t) refl))
  thread_after-call at (ended false) =
      let a : Action = calls t (record { at = at; mark = ended false }) in
      let e = own_call t (record { at = at; mark = ended false }) in
      same_thread refl (first_start_of-ended o t done a (int_max (pos 0) at) false e)
      (latest_of-more o t done a (record { at = int_max (pos 0) at; mark = ended false }) e)
      (unreported-ended o t done a (int_max (pos 0) at) e) (notes_with a [] (rw (itself t) refl))
  thread_after-call at (ended true) =
      let a : Action = calls t (record { at = at; mark = ended true }) in
      let e = own_call t (record { at = at; mark = ended true }) in
      same_thread refl (first_start_of-ended o t done a (int_max (pos 0) at) true e)
      (latest_of-more o t done a (record { at = int_max (pos 0) at; mark = ended true }) e)
      (unreported-reported o t done a (int_max (pos 0) at) e) (notes_with a (sent ∷ []) (rw (itself t) refl))

  -- what an accepted report delivers
  pub deliveries_at-reported : (at : ℤ)
      → deliveries_at o done (calls t (record { at = at; mark = ended true }))
      ≡ under (key_of_thread (thread_after o done t)) (handed_at_end (thread_after o done t) at) ∷ []
  deliveries_at-reported at = ap (λ time. under (key_under o t done) (word_with o t done (Close time ∷ [])) ∷ [])
      (latest_of-more o t done (calls t (record { at = at; mark = ended true }))
      (record { at = int_max (pos 0) at; mark = ended true }) (own_call t (record { at = at; mark = ended true })))

-- ---- a session

-- the threads of a session changed at one place
pub record ChangesThread (now new : SessionState) (t : ℕ) (changed : Thread) (scopes : ℕ) : Type 0 where
  pub num_threads : length new.threads ≡ length now.threads
  pub there : thread_at (opening_of new) t ≡ changed
  pub others : (u : ℕ) → u ≢ t → thread_at (opening_of new) u ≡ thread_at (opening_of now) u
  pub index : new.collected.index ≡ now.collected.index
  pub reported : new.collected.reported ≡ now.collected.reported + scopes

-- only what is collected changed
pub record ChangesPending (now new : SessionState) (index scopes : ℕ) : Type 0 where
  pub threads : new.threads ≡ now.threads
  pub raised : new.collected.index ≡ index
  pub reported : new.collected.reported ≡ now.collected.reported + scopes

-- the index, and the number of reported scopes, after one more action
pub index_after-more : (o : Opening) (done : List Action) (a : Action)
    → index_after o (done ++ (a ∷ [])) ≡ index_after o done + cond (is_numbered a) 1 0
index_after-more o done a = omega (arith, sum_by-append (λ b. cond (is_numbered b) 1 0) done (a ∷ []))

pub reported_after-more : (o : Opening) (done : List Action) (a : Action)
    → reported_after o (done ++ (a ∷ [])) ≡ reported_after o done + sum_by scopes_delivered (deliveries_at o done a)
reported_after-more o done a =
    ap (λ ds. o.reported + sum_by scopes_delivered ds) (deliveries_after-more o [] done a)
    ∙ omega (arith, sum_by-append scopes_delivered (deliveries_after o [] done) (deliveries_at o done a))

module _ (o : Opening) (done : List Action) (now new : SessionState) (before : StandsAfter o done now) where
  -- an action that changes one thread
  at_thread : (t : ℕ) (a : Action) (f : Thread → Thread) → t < length o.threads
      → thread_after o (done ++ (a ∷ [])) t ≡ f (thread_after o done t)
      → ((u : ℕ) → u ≢ t → (call_of u a ≡ None) × (notes_at u a ≡ [])) → is_numbered a ≡ false
      → ChangesThread now new t (f (thread_at (opening_of now) t)) (sum_by scopes_delivered (deliveries_at o done a))
      → SpellsDue new.collected.streams (due o (done ++ (a ∷ []))) → TellsAfter o (done ++ (a ∷ [])) new.collected
      → StandsAfter o (done ++ (a ∷ [])) new
  at_thread t a f within there others numbered change collected tells = record {
    num_threads = change.num_threads ∙ before.num_threads;
    threads = λ u lt. elim (cases_eq u t) [
      | inl same ↦ subst (λ v. thread_at (opening_of new) v ≡ thread_after o (done ++ (a ∷ [])) v) (sym same)
          (change.there ∙ ap f (before.threads t within) ∙ sym there)
      | inr apart ↦ change.others u apart ∙ before.threads u lt ∙ sym (thread_after-same o u done a (others u apart).0 (others u apart).1)
    ];
    collected = collected;
    index = change.index
        ∙ before.index
        ∙ sym (index_after-more o done a ∙ ap (λ (b : Bool). index_after o done + cond b 1 0) numbered ∙ omega arith);
    reported = change.reported
        ∙ ap (λ n. n + sum_by scopes_delivered (deliveries_at o done a)) before.reported
        ∙ sym (reported_after-more o done a);
    tells = tells;
  }

  called : (t : ℕ) (at : ℤ) (m : Mark) → t < length o.threads
      → ChangesThread now new t (after_call (thread_at (opening_of now) t) at m)
      (sum_by scopes_delivered (deliveries_at o done (calls t (record { at = at; mark = m }))))
      → SpellsDue new.collected.streams (due o (done ++ (calls t (record { at = at; mark = m }) ∷ [])))
      → TellsAfter o (done ++ (calls t (record { at = at; mark = m }) ∷ [])) new.collected
      → StandsAfter o (done ++ (calls t (record { at = at; mark = m }) ∷ [])) new
  called t at m within change collected tells =
      let c : Call = record { at = at; mark = m } in
      at_thread t (calls t c) (λ th. after_call th at m) within (thread_after-call o t done at m)
      (λ u apart. (foreign_call u t c apart, foreign_notes u t c apart)) refl change collected tells

  pub StandsAfter-registered : (t : ℕ) (d : Details) → t < length o.threads
      → ChangesThread now new t (after_registering (thread_at (opening_of now) t) d) 0
      → new.collected.streams ≡ now.collected.streams
      → TellsAfter o (done ++ (registers t d ∷ [])) new.collected → StandsAfter o (done ++ (registers t d ∷ [])) new
  StandsAfter-registered t d within change same tells =
      at_thread t (registers t d) (λ th. after_registering th d) within (thread_after-registered o t done d)
      (λ u apart. (refl, foreign_details u t d apart)) refl change
      (rw (same, due-same o done (registers t d) refl) before.collected) tells

  pub StandsAfter-begun : (t : ℕ) (at : ℤ) (id : ℕ) (text : List ℕ) → t < length o.threads
      → ChangesThread now new t (after_call (thread_at (opening_of now) t) at (begun id text)) 0
      → new.collected.streams ≡ now.collected.streams
      → TellsAfter o (done ++ (calls t (record { at = at; mark = begun id text }) ∷ [])) new.collected
      → StandsAfter o (done ++ (calls t (record { at = at; mark = begun id text }) ∷ [])) new
  StandsAfter-begun t at id text within change same tells =
      called t at (begun id text) within change
      (rw (same, due-same o done (calls t (record { at = at; mark = begun id text })) refl) before.collected)
      tells

  -- an inner scope, or an outermost one whose report was kept back
  pub StandsAfter-ended : (t : ℕ) (at : ℤ) → t < length o.threads
      → ChangesThread now new t (after_call (thread_at (opening_of now) t) at (ended false)) 0
      → new.collected.streams ≡ now.collected.streams
      → TellsAfter o (done ++ (calls t (record { at = at; mark = ended false }) ∷ [])) new.collected
      → StandsAfter o (done ++ (calls t (record { at = at; mark = ended false }) ∷ [])) new
  StandsAfter-ended t at within change same tells =
      called t at (ended false) within change
      (rw (same, due-same o done (calls t (record { at = at; mark = ended false })) refl) before.collected) tells

  scopes_reported : (t : ℕ) (at : ℤ) → thread_at (opening_of now) t ≡ thread_after o done t
      → num_begun (handed_at_end (thread_at (opening_of now) t) at).events
      ≡ sum_by scopes_delivered (deliveries_at o done (calls t (record { at = at; mark = ended true })))
  scopes_reported t at th =
      ap (λ v. num_begun (handed_at_end v at).events) th
      ∙ sym (zero-add (num_begun (handed_at_end (thread_after o done t) at).events))
      ∙ ap (λ ds. sum_by scopes_delivered ds) (sym (deliveries_at-reported o t done at))

  pub StandsAfter-reported : (t : ℕ) (at : ℤ) (s : StreamFacts) → t < length o.threads
      → ChangesThread now new t (after_call (thread_at (opening_of now) t) at (ended true))
      (num_begun (handed_at_end (thread_at (opening_of now) t) at).events)
      → SpellsWord s (handed_at_end (thread_at (opening_of now) t) at)
      → (AreUnlike (stream_under now.collected.streams (key_of_thread (thread_at (opening_of now) t))) s → ⊥)
      → new.collected.streams ≡ reported_to now.collected.streams (key_of_thread (thread_at (opening_of now) t)) s
      → TellsAfter o (done ++ (calls t (record { at = at; mark = ended true }) ∷ [])) new.collected
      → StandsAfter o (done ++ (calls t (record { at = at; mark = ended true }) ∷ [])) new
  StandsAfter-reported t at s within change spells like same tells =
      let a : Action = calls t (record { at = at; mark = ended true }) in
      let th = before.threads t within in
      let more =
      due-more o done a (key_of_thread (thread_after o done t)) (handed_at_end (thread_after o done t) at)
      (deliveries_at-reported o t done at) in
      let ready =
      SpellsDue-report now.collected.streams (due o done) (key_of_thread (thread_after o done t)) s
      (handed_at_end (thread_after o done t) at)
      (subst (λ v. AreUnlike (stream_under now.collected.streams (key_of_thread v)) s → ⊥) th like)
      before.collected (subst (λ v. SpellsWord s (handed_at_end v at)) th spells) in
      called t at (ended true) within (record {
        num_threads = change.num_threads;
        there = change.there;
        others = change.others;
        index = change.index;
        reported = change.reported ∙ ap (λ n. now.collected.reported + n) (scopes_reported t at th);
      })
      (subst (λ ds. SpellsDue new.collected.streams ds) (sym more)
      (subst
      (λ ss. SpellsDue ss
      (due o done
      ++ (under (key_of_thread (thread_after o done t)) (handed_at_end (thread_after o done t) at) ∷ [])))
      (sym (same ∙ ap (λ v. reported_to now.collected.streams (key_of_thread v) s) th)) ready)) tells

  -- an action that is no thread's
  unthreaded : (a : Action) → ((t : ℕ) → (call_of t a ≡ None) × (notes_at t a ≡ []))
      → ChangesPending now new (now.collected.index + cond (is_numbered a) 1 0)
      (sum_by scopes_delivered (deliveries_at o done a)) → SpellsDue new.collected.streams (due o (done ++ (a ∷ [])))
      → TellsAfter o (done ++ (a ∷ [])) new.collected
      → StandsAfter o (done ++ (a ∷ [])) new
  unthreaded a none change collected tells = record {
    num_threads = ap length change.threads ∙ before.num_threads;
    threads = λ u lt. ap (λ ts. slice_index_or ts u nobody) change.threads
        ∙ before.threads u lt
        ∙ sym (thread_after-same o u done a (none u).0 (none u).1);
    collected = collected;
    index = change.raised ∙ ap (λ n. n + cond (is_numbered a) 1 0) before.index ∙ sym (index_after-more o done a);
    reported = change.reported
        ∙ ap (λ n. n + sum_by scopes_delivered (deliveries_at o done a)) before.reported
        ∙ sym (reported_after-more o done a);
    tells = tells;
  }

  pub StandsAfter-handed : (i : ThreadKey) (s : StreamFacts) (word : Word)
      → ChangesPending now new now.collected.index (num_begun word.events) → SpellsWord s word
      → (AreUnlike (stream_under now.collected.streams i) s → ⊥)
      → new.collected.streams ≡ reported_to now.collected.streams i s
      → TellsAfter o (done ++ (hands i word ∷ [])) new.collected → StandsAfter o (done ++ (hands i word ∷ [])) new
  StandsAfter-handed i s word change spells like same tells =
      unthreaded (hands i word) (λ t. (refl, refl)) (record {
        threads = change.threads;
        raised = omega (arith, change.raised);
        reported = change.reported ∙ ap (λ n. now.collected.reported + n) (sym (zero-add (num_begun word.events)));
      })
      (rw (same, due-more o done (hands i word) i word refl)
      (SpellsDue-report now.collected.streams (due o done) i s word like before.collected spells)) tells

  -- a frame took all that was collected
  pub StandsAfter-framed : ChangesPending now new (now.collected.index + 1) 0 → new.collected.streams ≡ empty
      → TellsAfter o (done ++ (frames true ∷ [])) new.collected → StandsAfter o (done ++ (frames true ∷ [])) new
  StandsAfter-framed change same tells =
      unthreaded (frames true) (λ t. (refl, refl)) change
      (rw (same, due-anew o done (frames true) refl) SpellsDue-none) tells

  -- the index rose alone
  pub StandsAfter-unframed : ChangesPending now new (now.collected.index + 1) 0
      → new.collected.streams ≡ now.collected.streams → TellsAfter o (done ++ (frames false ∷ [])) new.collected
      → StandsAfter o (done ++ (frames false ∷ [])) new
  StandsAfter-unframed change same tells =
      unthreaded (frames false) (λ t. (refl, refl)) change
      (rw (same, due-same o done (frames false) refl) before.collected) tells

  -- an action that hands over no scopes and raises no index
  pub StandsAfter-quiet : (a : Action) → ((t : ℕ) → (call_of t a ≡ None) × (notes_at t a ≡ []))
      → is_numbered a ≡ false → deliveries_at o done a ≡ [] → ChangesPending now new now.collected.index 0
      → new.collected.streams ≡ now.collected.streams
      → TellsAfter o (done ++ (a ∷ [])) new.collected → StandsAfter o (done ++ (a ∷ [])) new
  StandsAfter-quiet a none numbered silent change same tells =
      unthreaded a none (record {
        threads = change.threads;
        raised = change.raised ∙ omega arith ∙ ap (λ (b : Bool). now.collected.index + cond b 1 0) (sym numbered);
        reported = change.reported ∙ ap (λ ds. now.collected.reported + sum_by scopes_delivered ds) (sym silent);
      })
      (rw (same, due-same o done a silent) before.collected) tells
