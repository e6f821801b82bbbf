-- What one more action changes in what a history records.
use Rattle.std.proofs.Common.{◌≡◌, ℕ, ℤ, Bool, true, false, cond, ◌||◌, List, [], ◌∷◌, ◌++◌, map, Option, Some, None, unwrap_or, refl, sym, ap, ◌∙◌, append_assoc, append-nil}
use Rattle.std.specs.List.{list_any}
use Rattle.std.specs.Int.{int_max}
use Rattle.std.specs.Option.{option_or}
use Rattle.std.proofs.lemmas.List.{map-append}
use Rattle.std.proofs.lemmas.List.Elements.{filter_map-append}
use Rattle.std.proofs.lemmas.List.Sums.{fold-append}
use Rattle.std.proofs.lemmas.List.Folds.{list_any-append}
use Rattle.puffin_data.specs.declared.data.form.Form.{Form}
use Rattle.puffin_data.specs.Text.{cut_text}
use Rattle.puffin_data.specs.Forest.Tour.{Event, Open, Close}
use Rattle.puffin_threads.specs.Thread.ThreadKey.{ThreadKey, has_same_key}
use Rattle.puffin_session.specs.Session.History.{Word, Opening, begun, ended, Call, Action, since_last, thread_at, call_of, calls_of, greatest, latest_of}
use Rattle.puffin_session.specs.Session.Deliveries.{Marked, marked_call, marked_calls, first_open, word_of, unreported, first_start_of, Delivery, under, all_taken, deliveries_at, deliveries_after}
use Rattle.puffin_session.specs.Session.Due.{is_taken, due, no_word, joined_word, with_delivery, total_under}

-- ---- the part since the last that passes

or_true : (a : Bool) → (a || true) ≡ true
or_true true = refl
or_true false = refl

or_false : (a : Bool) → (a || false) ≡ a
or_false true = refl
or_false false = refl

any_more : {X : Type 0} (p : X → Bool) (xs : List X) (x : X) (b : Bool) → p x ≡ b → list_any p (xs ++ (x ∷ [])) ≡ (list_any p xs || b)
any_more p xs x b e = list_any-append p xs (x ∷ []) ∙ ap (λ c. list_any p xs || c) (or_false (p x) ∙ e)

-- nothing stands since the last such element if it is the last of all; any other element comes behind what stands
pub since_last-yes : {X : Type 0} (p : X → Bool) (xs : List X) (x : X) → p x ≡ true → since_last p (xs ++ (x ∷ [])) ≡ []
since_last-yes p [] x e = rw e
since_last-yes p (y ∷ ys) x e =
    let some : list_any p (ys ++ (x ∷ [])) ≡ true = any_more p ys x true e ∙ or_true (list_any p ys) in
    rw some (since_last-yes p ys x e)

pub since_last-no : {X : Type 0} (p : X → Bool) (xs : List X) (x : X) → p x ≡ false
    → since_last p (xs ++ (x ∷ [])) ≡ since_last p xs ++ (x ∷ [])
since_last-no p [] x e = rw e
since_last-no p (y ∷ ys) x e =
    let alike : list_any p (ys ++ (x ∷ [])) ≡ list_any p ys = any_more p ys x false e ∙ or_false (list_any p ys) in
    rw alike (pick (list_any p ys) (p y) (since_last-no p ys x e))
  where
    pick : (a b : Bool) → since_last p (ys ++ (x ∷ [])) ≡ since_last p ys ++ (x ∷ []) →
        cond a (since_last p (ys ++ (x ∷ []))) (cond b (ys ++ (x ∷ [])) (y ∷ (ys ++ (x ∷ []))))
        ≡ cond a (since_last p ys) (cond b ys (y ∷ ys)) ++ (x ∷ [])
    pick true b h = h
    pick false true h = refl
    pick false false h = refl

-- ---- one more call

-- the greatest time, and the marked calls, after one more call
pub greatest-more : (latest : ℤ) (cs : List Call) (c : Call) → greatest latest (cs ++ (c ∷ [])) ≡ int_max (greatest latest cs) c.at
greatest-more latest [] c = refl
greatest-more latest (d ∷ cs) c = greatest-more (int_max latest d.at) cs c

pub marked-more : (form : Form) (latest : ℤ) (past cs : List Call) (c : Call)
    → marked_calls form latest past (cs ++ (c ∷ []))
    ≡ marked_calls form latest past cs ++ (marked_call form (int_max (greatest latest (past ++ cs)) c.at) c.mark ∷ [])
marked-more form latest past [] c =
    ap (λ time. marked_call form time c.mark ∷ [])
    (greatest-more latest past c ∙ ap (λ cs. int_max (greatest latest cs) c.at) (sym (append-nil past)))
marked-more form latest past (d ∷ cs) c =
    ap (λ ms. marked_call form (greatest latest (past ++ (d ∷ []))) d.mark ∷ ms)
    (marked-more form latest (past ++ (d ∷ [])) cs c
    ∙ ap
    (λ ds. marked_calls form latest (past ++ (d ∷ [])) cs
    ++ (marked_call form (int_max (greatest latest ds) c.at) c.mark ∷ [])) (append_assoc past (d ∷ []) cs))

-- the first begin of two words one behind the other
pub first_open-append : (ms ns : List Marked) → first_open (ms ++ ns) ≡ option_or (first_open ms) (first_open ns)
first_open-append [] ns = refl
first_open-append (m ∷ ms) ns = at_event m.event (first_open-append ms ns)
  where
    at_event : (e : Event) → first_open (ms ++ ns) ≡ option_or (first_open ms) (first_open ns) →
        elim e as (λ _. Option ℤ) [ Open id text start ↦ Some start | Close stop ↦ first_open (ms ++ ns) ]
        ≡ option_or (elim e as (λ _. Option ℤ) [ Open id text start ↦ Some start | Close stop ↦ first_open ms ]) (first_open ns)
    at_event (Open id text start) h = refl
    at_event (Close stop) h = h

option_or-assoc : (a b c : Option ℤ) → option_or a (option_or b c) ≡ option_or (option_or a b) c
option_or-assoc None b c = refl
option_or-assoc (Some x) b c = refl

option_or-none : (a : Option ℤ) → option_or a None ≡ a
option_or-none None = refl
option_or-none (Some x) = refl

-- ---- one thread after one more action

module _ (o : Opening) (t : ℕ) (done : List Action) (a : Action) where
  -- the calls of a thread, after an action that is none of its own, or one
  pub calls_of-same : call_of t a ≡ None → calls_of t (done ++ (a ∷ [])) ≡ calls_of t done
  calls_of-same e = filter_map-append (call_of t) done (a ∷ []) ∙ rw e (append-nil (calls_of t done))

  pub calls_of-more : (c : Call) → call_of t a ≡ Some c → calls_of t (done ++ (a ∷ [])) ≡ calls_of t done ++ (c ∷ [])
  calls_of-more c e = filter_map-append (call_of t) done (a ∷ []) ∙ rw e

  -- an action of another thread, or of none
  pub word_of-same : call_of t a ≡ None → word_of o t (done ++ (a ∷ [])) ≡ word_of o t done
  word_of-same e = rw (calls_of-same e)

  pub latest_of-same : call_of t a ≡ None → latest_of o t (done ++ (a ∷ [])) ≡ latest_of o t done
  latest_of-same e = rw (calls_of-same e)

  pub unreported-same : call_of t a ≡ None → unreported o t (done ++ (a ∷ [])) ≡ unreported o t done
  unreported-same e = rw (calls_of-same e)

  pub first_start_of-same : call_of t a ≡ None → first_start_of o t (done ++ (a ∷ [])) ≡ first_start_of o t done
  first_start_of-same e = rw (calls_of-same e)

  -- an action of the thread
  pub latest_of-more : (c : Call) → call_of t a ≡ Some c → latest_of o t (done ++ (a ∷ [])) ≡ int_max (latest_of o t done) c.at
  latest_of-more c e = rw (calls_of-more c e) (greatest-more (thread_at o t).latest (calls_of t done) c)

  pub word_of-more : (c : Call) → call_of t a ≡ Some c
      → word_of o t (done ++ (a ∷ []))
      ≡ word_of o t done ++ (marked_call (thread_at o t).form (int_max (latest_of o t done) c.at) c.mark ∷ [])
  word_of-more c e = rw (calls_of-more c e, marked-more (thread_at o t).form (thread_at o t).latest [] (calls_of t done) c)
      (sym
      (append_assoc (map (λ e. record { event = e; reported = false }) (thread_at o t).word)
      (marked_calls (thread_at o t).form (thread_at o t).latest [] (calls_of t done))
      (marked_call (thread_at o t).form (int_max (latest_of o t done) c.at) c.mark ∷ [])))

  -- a call that doesn't report: its event waits too
  unreported_kept : (c : Call) → call_of t a ≡ Some c
      → (marked_call (thread_at o t).form (int_max (latest_of o t done) c.at) c.mark).reported ≡ false →
      unreported o t (done ++ (a ∷ []))
      ≡ unreported o t done
      ++ ((marked_call (thread_at o t).form (int_max (latest_of o t done) c.at) c.mark).event ∷ [])
  unreported_kept c e goes_on =
      ap (λ w. map (λ m. m.event) (since_last (λ m. m.reported) w)) (word_of-more c e)
      ∙ ap (map (λ m. m.event))
      (since_last-no (λ m. m.reported) (word_of o t done)
      (marked_call (thread_at o t).form (int_max (latest_of o t done) c.at) c.mark) goes_on)
      ∙ map-append (λ m. m.event) (since_last (λ m. m.reported) (word_of o t done))
      (marked_call (thread_at o t).form (int_max (latest_of o t done) c.at) c.mark ∷ [])

  pub unreported-begun : (at : ℤ) (id : ℕ) (text : List ℕ) → call_of t a ≡ Some (record { at = at; mark = begun id text }) →
      unreported o t (done ++ (a ∷ []))
      ≡ unreported o t done
      ++ (Open id (cut_text (thread_at o t).form text) (int_max (latest_of o t done) at) ∷ [])
  unreported-begun at id text e = unreported_kept (record { at = at; mark = begun id text }) e refl

  pub unreported-ended : (at : ℤ) → call_of t a ≡ Some (record { at = at; mark = ended false }) →
      unreported o t (done ++ (a ∷ [])) ≡ unreported o t done ++ (Close (int_max (latest_of o t done) at) ∷ [])
  unreported-ended at e = unreported_kept (record { at = at; mark = ended false }) e refl

  pub unreported-reported : (at : ℤ) → call_of t a ≡ Some (record { at = at; mark = ended true }) → unreported o t (done ++ (a ∷ [])) ≡ []
  unreported-reported at e =
      let c : Call = record { at = at; mark = ended true } in
      ap (λ w. map (λ m. m.event) (since_last (λ m. m.reported) w)) (word_of-more c e)
      ∙ ap (map (λ m. m.event))
      (since_last-yes (λ m. m.reported) (word_of o t done)
      (marked_call (thread_at o t).form (int_max (latest_of o t done) at) (ended true)) refl)

  -- the first start after a call, and so after a begin and after an end
  first_start_more : (c : Call) → call_of t a ≡ Some c →
      first_start_of o t (done ++ (a ∷ []))
      ≡ option_or (thread_at o t).first_start
      (option_or (first_open (marked_calls (thread_at o t).form (thread_at o t).latest [] (calls_of t done)))
      (first_open (marked_call (thread_at o t).form (int_max (latest_of o t done) c.at) c.mark ∷ [])))
  first_start_more c e =
      ap
      (λ cs. option_or (thread_at o t).first_start
      (first_open (marked_calls (thread_at o t).form (thread_at o t).latest [] cs))) (calls_of-more c e)
      ∙ ap (λ ms. option_or (thread_at o t).first_start (first_open ms))
      (marked-more (thread_at o t).form (thread_at o t).latest [] (calls_of t done) c)
      ∙ ap (option_or (thread_at o t).first_start)
      (first_open-append (marked_calls (thread_at o t).form (thread_at o t).latest [] (calls_of t done))
      (marked_call (thread_at o t).form (int_max (latest_of o t done) c.at) c.mark ∷ []))

  pub first_start_of-begun : (at : ℤ) (id : ℕ) (text : List ℕ) → call_of t a ≡ Some (record { at = at; mark = begun id text }) →
      first_start_of o t (done ++ (a ∷ [])) ≡ option_or (first_start_of o t done) (Some (int_max (latest_of o t done) at))
  first_start_of-begun at id text e =
      first_start_more (record { at = at; mark = begun id text }) e
      ∙ option_or-assoc (thread_at o t).first_start
      (first_open (marked_calls (thread_at o t).form (thread_at o t).latest [] (calls_of t done)))
      (Some (int_max (latest_of o t done) at))

  pub first_start_of-ended : (at : ℤ) (reported : Bool) → call_of t a ≡ Some (record { at = at; mark = ended reported }) →
      first_start_of o t (done ++ (a ∷ [])) ≡ first_start_of o t done
  first_start_of-ended at reported e =
      first_start_more (record { at = at; mark = ended reported }) e
      ∙ ap (option_or (thread_at o t).first_start)
      (option_or-none (first_open (marked_calls (thread_at o t).form (thread_at o t).latest [] (calls_of t done))))

-- ---- what is due after one more action

-- the deliveries after one more action are those before and its own
pub deliveries_after-more : (o : Opening) (past later : List Action) (a : Action)
    → deliveries_after o past (later ++ (a ∷ [])) ≡ deliveries_after o past later ++ deliveries_at o (past ++ later) a
deliveries_after-more o past [] a = append-nil (deliveries_at o past a) ∙ ap (λ d. deliveries_at o d a) (sym (append-nil past))
deliveries_after-more o past (b ∷ later) a =
    ap (λ ds. deliveries_at o past b ++ ds)
    (deliveries_after-more o (past ++ (b ∷ [])) later a
    ∙ ap (λ d. deliveries_after o (past ++ (b ∷ [])) later ++ deliveries_at o d a)
    (append_assoc past (b ∷ []) later))
    ∙ sym (append_assoc (deliveries_at o past b) (deliveries_after o (past ++ (b ∷ [])) later) (deliveries_at o (past ++ (b ∷ later)) a))

module _ (o : Opening) (done : List Action) (a : Action) where
  all_more : map (λ d. under d.0 d.1) o.due ++ deliveries_after o [] (done ++ (a ∷ []))
      ≡ (map (λ d. under d.0 d.1) o.due ++ deliveries_after o [] done) ++ deliveries_at o done a
  all_more =
      ap (λ ds. map (λ d. under d.0 d.1) o.due ++ ds) (deliveries_after-more o [] done a)
      ∙ sym (append_assoc (map (λ d. under d.0 d.1) o.due) (deliveries_after o [] done) (deliveries_at o done a))

  -- an action that delivers nothing, one that delivers a word, and a frame that takes all
  pub due-same : deliveries_at o done a ≡ [] → due o (done ++ (a ∷ [])) ≡ due o done
  due-same e =
      ap (since_last is_taken)
      (all_more
      ∙ ap (λ d. (map (λ d. under d.0 d.1) o.due ++ deliveries_after o [] done) ++ d) e
      ∙ append-nil (map (λ d. under d.0 d.1) o.due ++ deliveries_after o [] done))

  pub due-more : (i : ThreadKey) (word : Word) → deliveries_at o done a ≡ under i word ∷ []
      → due o (done ++ (a ∷ [])) ≡ due o done ++ (under i word ∷ [])
  due-more i word e = ap (since_last is_taken) (all_more ∙ ap (λ d. (map (λ d. under d.0 d.1) o.due ++ deliveries_after o [] done) ++ d) e)
      ∙ since_last-no is_taken (map (λ d. under d.0 d.1) o.due ++ deliveries_after o [] done) (under i word) refl

  pub due-anew : deliveries_at o done a ≡ all_taken ∷ [] → due o (done ++ (a ∷ [])) ≡ []
  due-anew e = ap (since_last is_taken) (all_more ∙ ap (λ d. (map (λ d. under d.0 d.1) o.due ++ deliveries_after o [] done) ++ d) e)
      ∙ since_last-yes is_taken (map (λ d. under d.0 d.1) o.due ++ deliveries_after o [] done) all_taken refl

-- ---- what was handed over under an info, after one more delivery

-- under the same key the word is joined, under any other nothing changes
pub total_under-itself : (ds : List Delivery) (i j : ThreadKey) (word : Word) → has_same_key j i ≡ true
    → total_under (ds ++ (under i word ∷ [])) j ≡ Some (joined_word (unwrap_or (total_under ds j) no_word) word)
total_under-itself ds i j word e =
    fold-append (with_delivery j) None ds (under i word ∷ [])
    ∙ ap (λ b. cond b (Some (joined_word (unwrap_or (total_under ds j) no_word) word)) (total_under ds j)) e

pub total_under-other : (ds : List Delivery) (i j : ThreadKey) (word : Word) → has_same_key j i ≡ false
    → total_under (ds ++ (under i word ∷ [])) j ≡ total_under ds j
total_under-other ds i j word e =
    fold-append (with_delivery j) None ds (under i word ∷ [])
    ∙ ap (λ b. cond b (Some (joined_word (unwrap_or (total_under ds j) no_word) word)) (total_under ds j)) e
