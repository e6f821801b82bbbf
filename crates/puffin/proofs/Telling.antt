-- What a thread's calls add to what its reporter tells, and to what waits.
use Rattle.std.proofs.Common.{◌≡◌, ℕ, ◌+◌, ◌<◌, ℤ, Bool, List, [], ◌∷◌, ◌++◌, ◌^◌, length, map, Option}
use Rattle.std.proofs.Common.{Some, None, Result, Ok, Err, true, false, ◌⊎◌, inl, inr, refl, sym, ap, ◌∙◌, subst}
use Rattle.std.proofs.Common.{append_assoc, arith}
use Rattle.std.specs.Prelude.{slice_get}
use Rattle.std.specs.Option.{option_or}
use Rattle.std.proofs.lemmas.List.{append-nil, map-append}
use Rattle.puffin_data.specs.declared.error.Error.{Error}
use Rattle.puffin_data.specs.declared.error.Error.TheVariants.{ScopesOpen, Memory}
use Rattle.puffin_data.specs.declared.data.form.Form.{Form}
use Rattle.puffin_data.specs.Forest.{Forest, empty, node, append}
use Rattle.puffin_data.specs.Forest.Spelling.{size_offset}
use Rattle.puffin_data.specs.Forest.Tour.{Event, Open, Close, tour, IsBalanced}
use Rattle.puffin_data.specs.Forest.Words.{word_size, open_after}
use Rattle.puffin_data.specs.Honesty.{StreamFacts, AreHonestFacts}
use Rattle.puffin_data.proofs.lemmas.Tours.{tour-append}
use Rattle.puffin_data.proofs.lemmas.WordMeasures.{open_after-append}
use Rattle.puffin_threads.specs.declared.thread_profiler.reporter.Closed.{Closed}
use Rattle.puffin_threads.specs.declared.thread_profiler.reporter.Closed.TheVariants.{Inner, Reported, Kept}
use Rattle.puffin_threads.specs.Thread.ThreadKey.{ThreadKey}
use Rattle.puffin_threads.specs.Thread.Calls as calls
use Rattle.puffin_threads.specs.Thread.Calls.{time_of, after_begin, after_end, after_handing, open_offsets, key_of_thread}
use Rattle.puffin_threads.specs.Thread.Closing.{Closes, IsReportOf, Reports, Waits, GoesTo}
use Rattle.puffin_threads.specs.Details.{Details}
use Rattle.puffin.specs.Happenings.{Happening, reported}
use Rattle.puffin.proofs.lemmas.Offsets.{offsets-open, offsets-tour, depth-tour}
use Rattle.puffin.proofs.lemmas.StartedThreads.{HasStarted, stays_started}

-- a thread at one time: how many places it knows, what it has recorded, and what its reporter has told
pub record Stage : Type 0 where
  pub known : ℕ
  pub thread : calls.Thread
  pub told : List Happening

-- how many scopes are open then
abbrev pub num_open : Stage → ℕ
num_open stage = open_after 0 stage.thread.word

-- the start and the name under which the thread then reports
abbrev pub key_at : Stage → ThreadKey
key_at stage = key_of_thread stage.thread

-- reports under one key
abbrev pub under : ThreadKey → List StreamFacts → List Happening
under key streams = map (reported key) streams

-- the streams spell forests whose events are these, one after the other
abbrev pub TellEvents : List StreamFacts → List Event → Type 0
TellEvents [] events = events ≡ []
TellEvents (stream ∷ streams) events = (forest : Forest) × (later : List Event)
    × AreHonestFacts stream forest
    × (length stream.bytes < 2 ^ 64)
    × TellEvents streams later
    × (events ≡ tour forest ++ later)

-- Where no scope is open: first events were reported, and the others wait. Nothing is lost, doubled or moved.
pub record Passes (old new : Stage) (events : List Event) : Type 0 where
  pub streams : List StreamFacts
  pub reported : List Event
  pub told : new.told ≡ old.told ++ under (key_at new) streams
  pub spelled : TellEvents streams reported
  pub kept : reported ++ new.thread.word ≡ old.thread.word ++ events
  pub balanced : IsBalanced old.thread.word → IsBalanced new.thread.word
  pub unstarted : new.thread.first_start ≡ None → streams ≡ []

-- Code added these scopes to a thread, in order and with this nesting. Within an open scope nothing is reported.
pub record Adds (old new : Stage) (forest : Forest) : Type 0 where
  pub name : new.thread.name ≡ old.thread.name
  pub form : new.thread.form ≡ old.thread.form
  pub known : new.known ≡ old.known
  pub started : (t : ℤ) → old.thread.first_start ≡ Some t → new.thread.first_start ≡ Some t
  pub word : 0 < num_open old → new.thread.word ≡ old.thread.word ++ tour forest
  pub told : 0 < num_open old → new.told ≡ old.told
  pub none_open : num_open old ≡ 0 → num_open new ≡ 0
  pub passed : num_open old ≡ 0 → Passes old new (tour forest)
  -- before the first scope there is none
  pub none : new.thread.first_start ≡ None → tour forest ≡ []

-- ---- nothing, and one piece after another

kept_both : {A : Type 0} (r s o m n d e : List A) → r ++ m ≡ o ++ d → s ++ n ≡ m ++ e → (r ++ s) ++ n ≡ o ++ (d ++ e)
kept_both r s o m n d e p q = append_assoc r s n ∙ ap (λ x. r ++ x) q ∙ sym (append_assoc r m e) ∙ ap (λ x. x ++ e) p
    ∙ append_assoc o d e

tell_both : (streams others : List StreamFacts) (events next : List Event) → TellEvents streams events → TellEvents others next
    → TellEvents (streams ++ others) (events ++ next)
tell_both [] others events next none more = subst (λ (w : List Event). TellEvents others (w ++ next)) (sym none) more
tell_both (stream ∷ streams) others events next (forest, later, honest, fit, rest, is) more = (
  forest,
  later ++ next,
  honest,
  fit,
  tell_both streams others later next rest more,
  ap (λ (w : List Event). w ++ next) is ∙ append_assoc (tour forest) later next,
)

-- where nothing was reported, all events wait
pub quiet : (a b : Stage) (f : Forest) → b.thread.word ≡ a.thread.word ++ tour f → b.told ≡ a.told → Passes a b (tour f)
quiet a b f word same = record {
  streams = [];
  reported = [];
  told = same ∙ sym (append-nil a.told);
  spelled = refl;
  kept = word;
  balanced = λ (before, is). (append before f, word ∙ ap (λ (w : List Event). w ++ tour f) is ∙ sym (tour-append before f));
  unstarted = λ none. refl;
}

pub adds_nothing : (m : Stage) → Adds m m empty
adds_nothing m = record {
  name = refl;
  form = refl;
  known = refl;
  started = λ t h. h;
  word = λ some. sym (append-nil m.thread.word);
  told = λ some. refl;
  none_open = λ none. none;
  passed = λ none. quiet m m empty (sym (append-nil m.thread.word)) refl;
  none = λ none. refl;
}

-- what hasn't started later hadn't started before
not_yet : (m n : Stage) → ((t : ℤ) → m.thread.first_start ≡ Some t → n.thread.first_start ≡ Some t)
    → n.thread.first_start ≡ None → m.thread.first_start ≡ None
not_yet m n started none = at_start m.thread.first_start refl
  where
    at_start : (s : Option ℤ) → m.thread.first_start ≡ s → m.thread.first_start ≡ None
    at_start None is = is
    at_start (Some t) is = absurd (let later = started t is in cc)

-- from `o` to `m` these events passed, and from there to `n` those
module _ (o m n : Stage) (f g : List Event)
    (name : n.thread.name ≡ m.thread.name) (started : (t : ℤ) → m.thread.first_start ≡ Some t → n.thread.first_start ≡ Some t)
    (p : Passes o m f) (q : Passes m n g) where
  earlier : n.thread.first_start ≡ None → m.thread.first_start ≡ None
  earlier = not_yet m n started

  same_under : under (key_at m) p.streams ≡ under (key_at n) p.streams
  same_under = at_start m.thread.first_start refl
    where
      at_start : (s : Option ℤ) → m.thread.first_start ≡ s → under (key_at m) p.streams ≡ under (key_at n) p.streams
      at_start None is = ap (under (key_at m)) (p.unstarted is) ∙ sym (ap (under (key_at n)) (p.unstarted is))
      at_start (Some t) is =
          let later = started t is in
          let start : n.thread.first_start ≡ m.thread.first_start = later ∙ sym is in
          let same : key_at m ≡ key_at n = cc in
          ap (λ (k : ThreadKey). under k p.streams) same

  pub passes_both : Passes o n (f ++ g)
  passes_both = record {
    streams = p.streams ++ q.streams;
    reported = p.reported ++ q.reported;
    told = q.told ∙ ap (λ (rs : List Happening). rs ++ under (key_at n) q.streams)
        (p.told ∙ ap (λ (rs : List Happening). o.told ++ rs) same_under)
        ∙ append_assoc o.told (under (key_at n) p.streams) (under (key_at n) q.streams)
        ∙ ap (λ (rs : List Happening). o.told ++ rs) (sym (map-append (reported (key_at n)) p.streams q.streams));
    spelled = tell_both p.streams q.streams p.reported q.reported p.spelled q.spelled;
    kept = kept_both p.reported q.reported o.thread.word m.thread.word n.thread.word f g p.kept q.kept;
    balanced = λ h. q.balanced (p.balanced h);
    unstarted = λ none. ap (λ (rs : List StreamFacts). rs ++ q.streams) (p.unstarted (earlier none)) ∙ q.unstarted none;
  }

pub adds_both : (o m n : Stage) (f g : Forest) → Adds o m f → Adds m n g → Adds o n (append f g)
adds_both o m n f g p q = record {
  name = q.name ∙ p.name;
  form = q.form ∙ p.form;
  known = q.known ∙ p.known;
  started = λ t h. q.started t (p.started t h);
  word = λ some. q.word (still some) ∙ ap (λ (w : List Event). w ++ tour g) (p.word some)
      ∙ append_assoc o.thread.word (tour f) (tour g) ∙ ap (λ (w : List Event). o.thread.word ++ w) (sym (tour-append f g));
  told = λ some. q.told (still some) ∙ p.told some;
  none_open = λ none. q.none_open (p.none_open none);
  passed = λ none. subst (λ (w : List Event). Passes o n w) (sym (tour-append f g))
      (passes_both o m n (tour f) (tour g) q.name q.started (p.passed none) (q.passed (p.none_open none)));
  none = λ none. tour-append f g ∙ ap (λ (w : List Event). w ++ tour g) (p.none (not_yet m n q.started none)) ∙ q.none none;
}
  where
    still : 0 < num_open o → 0 < num_open m
    still some = subst (λ (k : ℕ). 0 < k) (sym (ap (open_after 0) (p.word some) ∙ depth-tour o.thread.word f)) some

-- ---- a scope around what code adds

-- a reporter that tells, as far as is seen
abbrev pub Accepts : List Happening → ThreadKey → List Details → StreamFacts → List Happening → Type 0
Accepts old i ds r new = (new ≡ old ++ reported i r ∷ []) × (length r.bytes < 2 ^ 64)

abbrev pub Refuses : List Happening → ThreadKey → List Details → StreamFacts → Error → List Happening → Type 0
Refuses old i ds r e new = new ≡ old

pub some_first : (s : Option ℤ) (t : ℤ) → (y : ℤ) × (option_or s (Some t) ≡ Some y)
some_first None t = (t, refl)
some_first (Some y) t = (y, refl)

-- A scope began on `old`, which is then `opened`. Code filled it, which gives `filled`. Its end gives `new`.
module _ (old opened filled new : Stage) (id : ℕ) (text : List ℕ) (at at2 : ℤ) (f : Forest)
    (begun : opened.thread ≡ after_begin old.thread id text at)
    (still : opened.told ≡ old.told) (known : opened.known ≡ old.known) (body : Adds opened filled f) where
  abbrev opening : Event
  opening = Open id text (time_of old.thread at)

  abbrev closing : Event
  closing = Close (time_of filled.thread at2)

  abbrev whole : Forest
  whole = node (record { id = id; start = time_of old.thread at; stop = time_of filled.thread at2; text = text }) f empty

  one_more : num_open opened ≡ num_open old + 1
  one_more = ap (λ (t : calls.Thread). open_after 0 t.word) begun ∙ open_after-append 0 old.thread.word (opening ∷ [])

  deep : 0 < num_open opened
  deep = let h = one_more in omega arith

  same_depth : num_open filled ≡ num_open old + 1
  same_depth = ap (open_after 0) (body.word deep) ∙ depth-tour opened.thread.word f ∙ one_more

  word_then : filled.thread.word ≡ old.thread.word ++ (opening ∷ tour f)
  word_then = body.word deep ∙ ap (λ (t : calls.Thread). t.word ++ tour f) begun
      ∙ append_assoc old.thread.word (opening ∷ []) (tour f)

  told_then : filled.told ≡ old.told
  told_then = body.told deep ∙ still

  -- the innermost scope is this one
  pub innermost : slice_get (open_offsets filled.thread.form filled.thread.word) 0
      ≡ Some (word_size old.thread.form old.thread.word + size_offset old.thread.form text)
  innermost =
      let form : filled.thread.form ≡ old.thread.form = body.form ∙ ap (λ (t : calls.Thread). t.form) begun in
      ap (λ (x : Form). slice_get (open_offsets x filled.thread.word) 0) form
      ∙ ap (λ (w : List Event). slice_get (open_offsets old.thread.form w) 0) (body.word deep)
      ∙ ap (λ (xs : List ℕ). slice_get xs 0)
      (offsets-tour old.thread.form opened.thread.word f ∙ ap (λ (t : calls.Thread). open_offsets old.thread.form t.word) begun
      ∙ offsets-open old.thread.form old.thread.word id text (time_of old.thread at))

  -- it has begun
  has_begun : (y : ℤ) × (filled.thread.first_start ≡ Some y)
  has_begun = let first = some_first old.thread.first_start (time_of old.thread at) in
      (first.0, body.started first.0 (ap (λ (t : calls.Thread). t.first_start) begun ∙ first.1))

  pub around : new.known ≡ filled.known → (closed : Closed)
      → Closes Accepts Refuses filled.thread new.thread at2 filled.told new.told closed
      → Adds old new whole
  around later_known = at_close
    where
      word_full : filled.thread.word ++ (closing ∷ []) ≡ old.thread.word ++ tour whole
      word_full = ap (λ (w : List Event). w ++ (closing ∷ [])) word_then
          ∙ append_assoc old.thread.word (opening ∷ tour f) (closing ∷ [])

      stays : (t : ℤ) → old.thread.first_start ≡ Some t → filled.thread.first_start ≡ Some t
      stays t h = body.started t (ap (λ (u : calls.Thread). u.first_start) begun
          ∙ ap (λ (s : Option ℤ). option_or s (Some (time_of old.thread at))) h)

      quiet_end : new.thread ≡ after_end filled.thread at2 → new.told ≡ filled.told → Adds old new whole
      quiet_end ended same =
          let word : new.thread.word ≡ old.thread.word ++ tour whole = ap (λ (t : calls.Thread). t.word) ended ∙ word_full in
          record {
            name = ap (λ (t : calls.Thread). t.name) ended ∙ body.name ∙ ap (λ (t : calls.Thread). t.name) begun;
            form = ap (λ (t : calls.Thread). t.form) ended ∙ body.form ∙ ap (λ (t : calls.Thread). t.form) begun;
            known = later_known ∙ body.known ∙ known;
            started = λ t h. ap (λ (u : calls.Thread). u.first_start) ended ∙ stays t h;
            word = λ some. word;
            told = λ some. same ∙ told_then;
            none_open = λ none. ap (open_after 0) word ∙ depth-tour old.thread.word whole ∙ none;
            passed = λ none. quiet old new whole word (same ∙ told_then);
            none = λ not. absurd (let first = has_begun.1 in let same_first : new.thread.first_start ≡ filled.thread.first_start =
                ap (λ (u : calls.Thread). u.first_start) ended in cc);
          }

      reported_end : open_after 0 filled.thread.word ≡ 1 → new.thread ≡ after_handing (after_end filled.thread at2)
          → (r : StreamFacts)
          → IsReportOf (after_end filled.thread at2) r
          → Accepts filled.told (key_of_thread (after_end filled.thread at2)) filled.thread.details r new.told → Adds old new whole
      reported_end one handed r is accepted =
          let none_outside : 0 < num_open old → ⊥ = λ some. let h = same_depth in omega arith in
          record {
            name = ap (λ (t : calls.Thread). t.name) handed ∙ body.name ∙ ap (λ (t : calls.Thread). t.name) begun;
            form = ap (λ (t : calls.Thread). t.form) handed ∙ body.form ∙ ap (λ (t : calls.Thread). t.form) begun;
            known = later_known ∙ body.known ∙ known;
            started = λ t h. ap (λ (u : calls.Thread). u.first_start) handed ∙ stays t h;
            word = λ some. absurd (none_outside some);
            told = λ some. absurd (none_outside some);
            none_open = λ none. ap (λ (t : calls.Thread). open_after 0 t.word) handed;
            passed = λ none. record {
              streams = r ∷ [];
              reported = filled.thread.word ++ (closing ∷ []);
              told = accepted.0 ∙ ap (λ (hs : List Happening). hs ++ reported (key_of_thread (after_end filled.thread at2)) r ∷ [])
                  told_then ∙ ap (λ (k : ThreadKey). old.told ++ reported k r ∷ []) (sym (ap key_of_thread handed));
              spelled = (is.forest, [], is.honest, accepted.1, refl, is.word ∙ sym (append-nil (tour is.forest)));
              kept = ap (λ (t : calls.Thread). (filled.thread.word ++ (closing ∷ [])) ++ t.word) handed
                  ∙ append-nil (filled.thread.word ++ (closing ∷ [])) ∙ word_full;
              balanced = λ h. (empty, ap (λ (t : calls.Thread). t.word) handed);
              unstarted = λ not. absurd (let first = has_begun.1 in let same : new.thread.first_start ≡ filled.thread.first_start =
                  ap (λ (u : calls.Thread). u.first_start) handed in cc);
            };
            none = λ not. absurd (let first = has_begun.1 in let same : new.thread.first_start ≡ filled.thread.first_start =
                ap (λ (u : calls.Thread). u.first_start) handed in cc);
          }

      at_close : (closed : Closed) → Closes Accepts Refuses filled.thread new.thread at2 filled.told new.told closed
          → Adds old new whole
      at_close Inner (inner, ended, untold) = quiet_end ended untold
      at_close Reported (outermost, handed, (report, is, accepted)) = reported_end outermost handed report is accepted
      at_close (Kept error) (outermost, ended, (report, is, refused)) = quiet_end ended refused

-- ---- a report of what waits

-- all that waits was reported, or it still waits
pub reports_pass : (m n : Stage) (result : Result Bool Error) → (n.thread.first_start ≡ None → m.thread.word ≡ [])
    → Reports Accepts Refuses m.thread n.thread m.told n.told result → Passes m n []
reports_pass m n (Ok false) some (nothing, kept, untold) = same m n (ap (λ (t : calls.Thread). t.word) kept) untold
  where
    same : (m n : Stage) → n.thread.word ≡ m.thread.word → n.told ≡ m.told → Passes m n []
    same m n word told = quiet m n empty (word ∙ sym (append-nil m.thread.word)) told
reports_pass m n (Err e) some (kept, cause) =
    quiet m n empty (ap (λ (t : calls.Thread). t.word) kept ∙ sym (append-nil m.thread.word)) (at_cause cause)
  where
    at_cause : ((0 < open_after 0 m.thread.word) × (e ≡ ScopesOpen) × (n.told ≡ m.told))
        ⊎ (Waits m.thread × (((e ≡ Memory) × (n.told ≡ m.told))
        ⊎ GoesTo (λ b i d r a. Refuses b i d r e a) m.thread m.told n.told)) → n.told ≡ m.told
    at_cause (inl opened) = opened.2
    at_cause (inr (_, inl memory)) = memory.1
    at_cause (inr (_, inr refused)) = refused.2
reports_pass m n (Ok true) some (waits, handed, (r, is, accepted)) = record {
  streams = r ∷ [];
  reported = m.thread.word;
  told = accepted.0 ∙ ap (λ (k : ThreadKey). m.told ++ reported k r ∷ []) (sym (ap key_of_thread handed));
  spelled = (is.forest, [], is.honest, accepted.1, refl, is.word ∙ sym (append-nil (tour is.forest)));
  kept = ap (λ (t : calls.Thread). m.thread.word ++ t.word) handed;
  balanced = λ h. (empty, ap (λ (t : calls.Thread). t.word) handed);
  unstarted = λ none. absurd (waits.some (some none));
}

-- the thread's name and first start stay
pub reports_stay : (old new : calls.Thread) (before after : List Happening) (result : Result Bool Error)
    → Reports Accepts Refuses old new before after result → (new.name ≡ old.name) × (new.first_start ≡ old.first_start)
reports_stay old new before after (Ok false) (nothing, kept, untold) =
    (ap (λ (t : calls.Thread). t.name) kept, ap (λ (t : calls.Thread). t.first_start) kept)
reports_stay old new before after (Ok true) (waits, handed, goes) =
    (ap (λ (t : calls.Thread). t.name) handed, ap (λ (t : calls.Thread). t.first_start) handed)
reports_stay old new before after (Err e) (kept, cause) =
    (ap (λ (t : calls.Thread). t.name) kept, ap (λ (t : calls.Thread). t.first_start) kept)

-- after code, what waits has begun, if it had before
pub adds_started : (o m : Stage) (f : Forest) → HasStarted o.thread → Adds o m f → HasStarted m.thread
adds_started o m f started adds =
    stays_started o.thread m.thread (tour f) started (λ none. (not_yet o m adds.started none, adds.none none)) adds.word
    (λ shut. let p = adds.passed shut in (p.reported, p.kept))

-- a report of what waits adds nothing
pub adds_report : (m n : Stage) (result : Result Bool Error) → HasStarted m.thread → n.known ≡ m.known
    → Reports Accepts Refuses m.thread n.thread m.told n.told result → Adds m n empty
adds_report m n result started known h = record {
  name = stay.0;
  form = form_stays m.thread n.thread m.told n.told result h;
  known = known;
  started = λ t is. stay.1 ∙ is;
  word = λ some. open_stays some ∙ sym (append-nil m.thread.word);
  told = λ some. untold result h some;
  none_open = λ none. shut result h none;
  passed = λ none. reports_pass m n result (λ not. started (sym stay.1 ∙ not)) h;
  none = λ not. refl;
}
  where
    stay : (n.thread.name ≡ m.thread.name) × (n.thread.first_start ≡ m.thread.first_start)
    stay = reports_stay m.thread n.thread m.told n.told result h

    form_stays : (old new : calls.Thread) (before after : List Happening) (result : Result Bool Error)
        → Reports Accepts Refuses old new before after result → new.form ≡ old.form
    form_stays old new before after (Ok false) (nothing, kept, untold) = ap (λ (t : calls.Thread). t.form) kept
    form_stays old new before after (Ok true) (waits, handed, goes) = ap (λ (t : calls.Thread). t.form) handed
    form_stays old new before after (Err e) (kept, cause) = ap (λ (t : calls.Thread). t.form) kept

    same_word : (result : Result Bool Error) → Reports Accepts Refuses m.thread n.thread m.told n.told result → 0 < num_open m
        → n.thread.word ≡ m.thread.word
    same_word (Ok false) (nothing, kept, untold) some = ap (λ (t : calls.Thread). t.word) kept
    same_word (Ok true) (waits, handed, goes) some = absurd (let none = waits.none_open in omega arith)
    same_word (Err e) (kept, cause) some = ap (λ (t : calls.Thread). t.word) kept

    open_stays : 0 < num_open m → n.thread.word ≡ m.thread.word
    open_stays some = same_word result h some

    untold : (result : Result Bool Error) → Reports Accepts Refuses m.thread n.thread m.told n.told result → 0 < num_open m
        → n.told ≡ m.told
    untold (Ok false) (nothing, kept, same) some = same
    untold (Ok true) (waits, handed, goes) some = absurd (let none = waits.none_open in omega arith)
    untold (Err e) (same, inl opened) some = opened.2
    untold (Err e) (same, inr (waits, inl memory)) some = memory.1
    untold (Err e) (same, inr (waits, inr refused)) some = refused.2

    shut : (result : Result Bool Error) → Reports Accepts Refuses m.thread n.thread m.told n.told result → num_open m ≡ 0
        → num_open n ≡ 0
    shut (Ok false) (nothing, kept, untold) none = ap (λ (t : calls.Thread). open_after 0 t.word) kept ∙ none
    shut (Ok true) (waits, handed, goes) none = ap (λ (t : calls.Thread). open_after 0 t.word) handed
    shut (Err e) (kept, cause) none = ap (λ (t : calls.Thread). open_after 0 t.word) kept ∙ none
