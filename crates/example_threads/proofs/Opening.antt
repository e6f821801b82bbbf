-- A thread that reports one scope for each text, and what its share has of them.
use Rattle.std.proofs.Common.{◌≡◌, ℕ, ◌⊎◌, ℤ, List, [], ◌∷◌, ◌++◌, Option, Some, None, map, refl, ap, sym, subst, ◌∙◌, arith}
use mathlib.Core.Logic.{inl, inr}
use Rattle.std.specs.Option.{option_or}
use Rattle.std.proofs.lemmas.List.{map-append}
use Rattle.puffin_data.specs.declared.data.form.Form.TheVariants.{Short}
use Rattle.puffin_data.specs.Forest.{Forest, empty, node}
use Rattle.puffin_data.specs.Forest.Tour.{Event, Open, Close, tour}
use Rattle.puffin_data.specs.Forest.Words.{open_after}
use Rattle.puffin_data.specs.Honesty.{StreamFacts, AreHonestFacts}
use Rattle.puffin_data.specs.Text.{cut_text}
use Rattle.puffin_data.proofs.lemmas.Tours.{one_tour}
use Rattle.puffin_threads.specs.Thread.ThreadKey.{ThreadKey}
use Rattle.puffin_threads.specs.Thread.Calls.{Thread, time_of, after_begin, after_end, after_handing, key_of_thread}
use Rattle.puffin_threads.specs.Thread.Closing.{IsReportOf, Closes}
use Rattle.puffin_threads.specs.Details.{Details}
use Rattle.puffin_threads.specs.declared.thread_profiler.reporter.Closed.{Closed}
use Rattle.puffin_threads.specs.declared.thread_profiler.reporter.Closed.TheVariants.{Inner, Reported, Kept}
use Rattle.puffin_data.specs.declared.error.Error.{Error}
use Rattle.puffin.specs.Happenings.{Happening, reported}
use Rattle.puffin.specs.Members.{Member, Told}
use Rattle.example_threads.specs.Recorded.{span_of, AreReports}
use Rattle.example_threads.proofs.Showing.{more_reports}

-- the thread has nothing to report, and its share has one report for each of these texts
pub record HasOpened (thread : Thread) (share : Member) (name : List ℕ) (texts : List (List ℕ)) : Type 0 where
  pub word : thread.word ≡ []
  pub name_is : thread.name ≡ name
  pub form : thread.form ≡ Short
  pub reports : List StreamFacts
  pub own : share.own ≡ map (reported (key_of_thread thread)) reports
  pub are : AreReports texts reports
  -- nothing is reported yet, or the start of the first scope is known
  pub begun : (reports ≡ []) ⊎ ((start : ℤ) × (thread.first_start ≡ Some start))

-- the thread after one scope more
abbrev pub ended_with : Thread → List ℕ → (start_at end_at : ℤ) → Thread
ended_with thread text start_at end_at = after_end (after_begin thread 7 (cut_text thread.form text) start_at) end_at

-- only this scope is open
pub one_is_open : (thread : Thread) (text : List ℕ) (start_at : ℤ) →
    thread.word ≡ [] →
    open_after 0 (after_begin thread 7 text start_at).word ≡ 1
one_is_open thread text start_at none =
    ap (λ (word : List Event). open_after 0 (word ++ (Open 7 text (time_of thread start_at) ∷ []))) none

-- its events are then the tour of that one scope
word_of : (thread : Thread) (text : List ℕ) (start_at end_at : ℤ) →
    thread.word ≡ [] →
    thread.form ≡ Short →
    (ended_with thread text start_at end_at).word
    ≡ tour (node
    (span_of text (time_of thread start_at) (time_of (after_begin thread 7 (cut_text thread.form text) start_at) end_at))
    empty empty)
word_of thread text start_at end_at none short =
    let start = time_of thread start_at in
    let stop = time_of (after_begin thread 7 (cut_text thread.form text) start_at) end_at in
    ap (λ (word : List Event). (word ++ (Open 7 (cut_text thread.form text) start ∷ [])) ++ (Close stop ∷ [])) none
    ∙ ap (λ form. Open 7 (cut_text form text) start ∷ (Close stop ∷ [])) short

-- a thread whose first start is known keeps its key
same_key : (thread : Thread) (text : List ℕ) (start_at end_at start : ℤ) →
    thread.first_start ≡ Some start →
    key_of_thread thread ≡ key_of_thread (ended_with thread text start_at end_at)
same_key thread text start_at end_at start is =
    ap (λ (first : Option ℤ). record { start = first; name = thread.name })
    (is
    ∙ sym (ap (λ (first : Option ℤ). option_or first (Some (time_of thread start_at))) is))

-- so the reports so far are under the key after one scope more
under_key : (thread : Thread) (text : List ℕ) (start_at end_at : ℤ) (reports : List StreamFacts) →
    (reports ≡ []) ⊎ ((start : ℤ) × (thread.first_start ≡ Some start)) →
    map (reported (key_of_thread thread)) reports
    ≡ map (reported (key_of_thread (ended_with thread text start_at end_at))) reports
under_key thread text start_at end_at reports (inl none) =
    ap (λ (xs : List StreamFacts). map (reported (key_of_thread thread)) xs) none
    ∙ sym (ap (λ (xs : List StreamFacts). map (reported (key_of_thread (ended_with thread text start_at end_at))) xs) none)
under_key thread text start_at end_at reports (inr (start, start_is)) =
    ap (λ (key : ThreadKey). map (reported key) reports) (same_key thread text start_at end_at start start_is)

-- after a call the first start is known
first_known : (first : Option ℤ) (at : ℤ) → (start : ℤ) × (option_or first (Some at) ≡ Some start)
first_known (Some start) at = (start, refl)
first_known None at = (at, refl)

-- one scope more is reported
pub opened_more : (thread : Thread) (share new : Member) (name : List ℕ) (texts : List (List ℕ)) (text : List ℕ)
    (start_at end_at : ℤ) (facts : StreamFacts) →
    HasOpened thread share name texts →
    IsReportOf (ended_with thread text start_at end_at) facts →
    Told share (reported (key_of_thread (ended_with thread text start_at end_at)) facts) new →
    HasOpened (after_handing (ended_with thread text start_at end_at)) new name (texts ++ text ∷ [])
opened_more thread share new name texts text start_at end_at facts opened report told =
    let key = key_of_thread (ended_with thread text start_at end_at) in
    let start = time_of thread start_at in
    let stop = time_of (after_begin thread 7 (cut_text thread.form text) start_at) end_at in
    let one : Forest = node (span_of text start stop) empty empty in
    let forest : report.forest ≡ one =
    one_tour report.forest one (sym report.word ∙ word_of thread text start_at end_at opened.word opened.form) in
    let (_before, tells) = told in
    record {
      word = refl;
      name_is = opened.name_is;
      form = opened.form;
      reports = opened.reports ++ facts ∷ [];
      own =
          tells.own
          ∙ ap (λ (happenings : List Happening). happenings ++ reported key facts ∷ [])
          (opened.own
          ∙ under_key thread text start_at end_at opened.reports opened.begun)
          ∙ sym (map-append (reported key) opened.reports (facts ∷ []));
      are =
          more_reports text facts start stop (subst (AreHonestFacts facts) forest report.honest) texts opened.reports
          opened.are;
      begun = inr (first_known thread.first_start start);
    }

-- The last open scope closes, and the reporter doesn't refuse: the share has a report of one text more.
pub closing : {R : Type 0} (before after : R)
    (accepts : R → ThreadKey → List Details → StreamFacts → R → Type 0)
    (refuses : R → ThreadKey → List Details → StreamFacts → Error → R → Type 0)
    (thread begun new : Thread) (share kept : Member) (name : List ℕ) (texts : List (List ℕ)) (text : List ℕ)
    (start_at end_at : ℤ) →
    HasOpened thread share name texts →
    begun ≡ after_begin thread 7 (cut_text thread.form text) start_at →
    (closed : Closed) →
    Closes accepts refuses begun new end_at before after closed →
    ((cause : Error) → closed ≡ Kept cause → ⊥) →
    ((key : ThreadKey) (details : List Details) (facts : StreamFacts) →
    accepts before key details facts after →
    Told share (reported key facts) kept) →
    HasOpened new kept name (texts ++ text ∷ [])
closing before after accepts refuses thread begun new share kept name texts text start_at end_at opened is Inner
    (several_open, _thread, _reporter) none tells =
    let one_open =
    ap (λ (t : Thread). open_after 0 t.word) is
    ∙ one_is_open thread (cut_text thread.form text) start_at opened.word in
    absurd (omega arith)
closing before after accepts refuses thread begun new share kept name texts text start_at end_at opened is Reported closes
    none tells =
    let (_one_open, new_is, (facts, is_report, accepted)) = closes in
    let report = subst (λ (t : Thread). IsReportOf (after_end t end_at) facts) is is_report in
    let told =
    subst (λ (t : Thread). Told share (reported (key_of_thread (after_end t end_at)) facts) kept) is
    (tells _ _ facts accepted) in
    subst (λ (t : Thread). HasOpened t kept name (texts ++ text ∷ []))
    (sym (new_is
    ∙ ap (λ (t : Thread). after_handing (after_end t end_at)) is))
    (opened_more thread share kept name texts text start_at end_at facts opened report told)
closing before after accepts refuses thread begun new share kept name texts text start_at end_at opened is (Kept cause) closes
    none tells =
    absurd (none cause refl)
