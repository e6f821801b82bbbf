-- A thread that meets others at the end of each round, by what its reporter tells.
use Rattle.std.proofs.Common.{◌≡◌, ◌⊎◌, ℕ, zero, suc, ◌+◌, ◌-◌, ◌<◌, ◌≤◌, ℤ, Bool, true, false, List}
use Rattle.std.proofs.Common.{[], ◌∷◌, ◌++◌, Result, Ok, Err, inl, inr, refl, sym, ap, ◌∙◌, subst, append_assoc, arith}
use Rattle.std.specs.Prelude.{IsOk}
use Rattle.std.proofs.lemmas.List.{append-nil}
use Rattle.std.proofs.lemmas.Grind.{flat_map-append}
use Rattle.puffin_data.specs.declared.error.Error.{Error}
use Rattle.puffin_data.specs.declared.data.form.Form.{Form}
use Rattle.puffin_data.specs.declared.data.form.Form.TheVariants.{Short}
use Rattle.puffin_data.specs.Forest.{Forest, empty, append}
use Rattle.puffin_data.specs.Forest.Tour.{tour}
use Rattle.puffin_data.specs.Honesty.{StreamFacts}
use Rattle.puffin_data.specs.Text.{cut_text}
use Rattle.puffin_threads.specs.Thread.ThreadProfiler.{thread_of}
use Rattle.puffin_threads.specs.Thread.ThreadKey.{ThreadKey}
use Rattle.puffin_threads.specs.Thread.Calls as calls
use Rattle.puffin_threads.specs.Thread.Calls.{new_thread, num_ended}
use Rattle.puffin_threads.specs.Thread.Closing.{Reports}
use Rattle.puffin_threads.specs.Details.{Details}
use Rattle.puffin.specs.declared.light.thread.Thread.{Thread}
use Rattle.puffin.specs.LightThread.{profiler_of, reporter_of, scopes_of}
use Rattle.puffin.specs.Lent.{MarksThere}
use Rattle.puffin.specs.Places.{num_known}
use Rattle.puffin.specs.Guards.{BeginsAt, EndsIn}
use Rattle.puffin.specs.Code.{Code, nothing, scope, Runs, AreScopesOf, AreTurns, followed_by, scope_if, span_at}
use Rattle.puffin.specs.Happenings.{Happening, Mark, marked, arrived, saw_released, unless_marked, unmarked, num_arrived}
use Rattle.puffin.specs.Rounds.{until, released_then, KeepsStep, HasRunRounds, HasRunRoundsAs, HasLedRoundsAs}
use Rattle.puffin.specs.Telling.{KeepsReports, HasRun, RunsAs, LeadsAs}
use Rattle.puffin.proofs.Growing.{arrived-both}
use Rattle.puffin.proofs.lemmas.StartedThreads.{HasStarted}
use Rattle.puffin.proofs.SpelledThreads.{append_append}
use Rattle.puffin.proofs.Telling.{Stage, Accepts, Refuses, Adds, Passes, key_at, under, adds_nothing, adds_both, adds_started}
use Rattle.puffin.proofs.Telling.{reports_pass, reports_stay}
use Rattle.puffin.proofs.TellingCode.{keeps_unmarked, adds_code, moved, reports_by, has_added, has_added_so_far}

-- ---- lists

abbrev pub last_seen : ℕ → List Happening → ℕ
last_seen rounds [] = rounds
last_seen rounds (h ∷ hs) = last_seen (released_then rounds h) hs

last_seen_both : (rounds : ℕ) (xs ys : List Happening) → last_seen rounds (xs ++ ys) ≡ last_seen (last_seen rounds xs) ys
last_seen_both rounds [] ys = refl
last_seen_both rounds (x ∷ xs) ys = last_seen_both (released_then rounds x) xs ys

steps_both : (parts rounds : ℕ) (xs ys : List Happening) → KeepsStep parts rounds xs
    → KeepsStep (parts + num_arrived xs) (last_seen rounds xs) ys → KeepsStep parts rounds (xs ++ ys)
steps_both parts rounds [] ys steps then_steps = subst (λ (n : ℕ). KeepsStep n rounds ys) (omega arith) then_steps
steps_both parts rounds (x ∷ xs) ys steps then_steps = (
  steps.0,
  steps_both (parts + num_arrived (x ∷ [])) (released_then rounds x) xs ys steps.1
      (subst (λ (n : ℕ). KeepsStep n (last_seen (released_then rounds x) xs) ys)
      (omega (arith, arrived-both (x ∷ []) xs)) then_steps),
)

reports_step : (parts rounds : ℕ) (key : ThreadKey) (rs : List StreamFacts) → rounds ≡ parts → KeepsStep parts rounds (under key rs)
reports_step parts rounds key [] same = tt
reports_step parts rounds key (r ∷ rs) same = (same, reports_step (parts + 0) rounds key rs (omega (arith, same)))

no_part : (key : ThreadKey) (rs : List StreamFacts) → num_arrived (under key rs) ≡ 0
no_part key [] = refl
no_part key (r ∷ rs) = no_part key rs

none_seen : (rounds : ℕ) (key : ThreadKey) (rs : List StreamFacts) → last_seen rounds (under key rs) ≡ rounds
none_seen rounds key [] = refl
none_seen rounds key (r ∷ rs) = none_seen rounds key rs

until_stays : (parts : ℕ) (xs ys : List Happening) → parts ≤ num_arrived xs → until parts (xs ++ ys) ≡ until parts xs
until_stays zero xs ys few = refl
until_stays (suc parts) [] ys few = absurd (omega (arith, few))
until_stays (suc parts) (x ∷ xs) ys few =
    ap (λ (hs : List Happening). x ∷ hs) (until_stays (suc parts - num_arrived (x ∷ [])) xs ys
    (omega (arith, few, arrived-both (x ∷ []) xs)))

until_part : (parts : ℕ) (xs ys : List Happening) → num_arrived xs ≡ parts
    → until (suc parts) (xs ++ marked arrived ∷ ys) ≡ xs ++ marked arrived ∷ []
until_part zero [] ys is = refl
until_part (suc parts) [] ys is = absurd (omega (arith, is))
until_part parts (x ∷ xs) ys is =
    let less : suc parts - num_arrived (x ∷ []) ≡ suc (num_arrived xs) = omega (arith, is, arrived-both (x ∷ []) xs) in
    ap (λ (n : ℕ). x ∷ until n (xs ++ marked arrived ∷ ys)) less
    ∙ ap (λ (hs : List Happening). x ∷ hs) (until_part (num_arrived xs) xs ys refl)

marks_nothing : (hs : List Happening) (mark : Mark) → unmarked (hs ++ marked mark ∷ []) ≡ unmarked hs
marks_nothing hs mark = flat_map-append unless_marked hs (marked mark ∷ []) ∙ append-nil (unmarked hs)

-- below the next number is below this one, or this one
which : (r t : ℕ) → r < suc t → (r < t) ⊎ (r ≡ t)
which zero zero less = inr refl
which zero (suc t) less = inl (omega arith)
which (suc r) zero less = absurd (omega (arith, less))
which (suc r) (suc t) less = elim (which r t (omega (arith, less))) [
  | inl below ↦ inl (omega (arith, below))
  | inr same ↦ inr (ap suc same)
]

-- the scopes of one piece of code, and then of another
scopes_both : (known : ℕ) (form : Form) (code next : Code) (f g : Forest) → AreScopesOf known form code f
    → AreScopesOf known form next g → AreScopesOf known form (followed_by code next) (append f g)
scopes_both known form nothing next f g is later = subst (λ (x : Forest). AreScopesOf known form next (append x g)) (sym is) later
scopes_both known form (scope place text within after) next f g (state, may, start, stop, children, others, inner, rest, is) later = (
  state,
  may,
  start,
  stop,
  children,
  append others g,
  inner,
  scopes_both known form after next others g rest later,
  ap (λ (x : Forest). append x g) is
      ∙ append_append (scope_if state (span_at place (cut_text form text) start stop) children) others g,
)

-- ---- rounds

-- a new thread
abbrev pub fresh : List ℕ → ℕ → Stage
fresh name known = record { known = known; thread = new_thread name Short; told = [] }

module _ {C R : Type 0} (tells : R → List Happening) (is : ℕ → Code → Type 0) (name : List ℕ) (known : ℕ) where
  abbrev own : Thread C R → List Happening
  own t = tells (reporter_of t)

  abbrev at : Thread C R → Stage
  at t = record { known = num_known (scopes_of t); thread = thread_of (profiler_of t); told = unmarked (own t) }

  same_at : (a b : Thread C R) → profiler_of b ≡ profiler_of a → scopes_of b ≡ scopes_of a
      → unmarked (own b) ≡ unmarked (own a) → at b ≡ at a
  same_at a b profiler scopes told =
      ap (λ p. record { known = num_known (scopes_of b); thread = thread_of p; told = unmarked (own b) }) profiler
      ∙ ap (λ s. record { known = num_known s; thread = thread_of (profiler_of a); told = unmarked (own b) }) scopes
      ∙ ap (λ (hs : List Happening). record { known = num_known (scopes_of a); thread = thread_of (profiler_of a); told = hs }) told

  -- after so many rounds
  pub record AfterRounds (turn : ℕ) (now : Thread C R) : Type 0 where
    pub code : Code
    pub are : AreTurns is turn code
    pub forest : Forest
    pub scopes : AreScopesOf known Short code forest
    pub adds : Adds (fresh name known) (at now) forest
    pub step : KeepsStep 0 0 (own now)
    pub parts : num_arrived (own now) ≡ turn
    pub closed : last_seen 0 (own now) ≡ turn
    pub each : (round : ℕ) → round < turn → (so_far : Code) × (waits : ℕ) × AreTurns is (suc round) so_far
        × HasRun name Short known so_far [] (until (suc round) (own now)) waits

  pub first_turn : (now : Thread C R) → thread_of (profiler_of now) ≡ new_thread name Short → num_known (scopes_of now) ≡ known
      → own now ≡ [] → AfterRounds 0 now
  first_turn now first knows none = record {
    code = nothing;
    are = refl;
    forest = empty;
    scopes = refl;
    adds = subst (λ s. Adds (fresh name known) s empty) (sym there) (adds_nothing (fresh name known));
    step = subst (KeepsStep 0 0) (sym none) tt;
    parts = ap num_arrived none;
    closed = ap (last_seen 0) none;
    each = λ round below. absurd (omega (arith, below));
  }
    where
      there : at now ≡ (fresh name known)
      there = ap (λ (n : ℕ). record { known = n; thread = thread_of (profiler_of now); told = unmarked (own now) }) knows
          ∙ ap (λ (t : calls.Thread). record { known = known; thread = t; told = unmarked (own now) }) first
          ∙ ap (λ (hs : List Happening). record { known = known; thread = new_thread name Short; told = unmarked hs }) none

  module _ (answers : C → ℤ → C → Type 0) (accepts : R → ThreadKey → List Details → StreamFacts → R → Type 0)
      (refuses : R → ThreadKey → List Details → StreamFacts → Error → R → Type 0) (keeps : KeepsReports accepts refuses tells)
      (turn : ℕ) (now new mid last : Thread C R) (next : Code) (p : AfterRounds turn now) (it : is turn next)
      (runs : Runs (BeginsAt answers accepts refuses) (EndsIn answers accepts refuses) next now new)
      (arrives : MarksThere tells new arrived mid) (sees : MarksThere tells mid (saw_released (turn + 1)) last) where
    started : HasStarted (at now).thread
    started = adds_started (fresh name known) (at now) p.forest (λ none. refl) p.adds

    part : (f : Forest) × AreScopesOf (num_known (scopes_of now)) (thread_of (profiler_of now)).form next f
        × Adds (at now) (at new) f
    part = adds_code answers accepts refuses (λ r. unmarked (tells r))
        (keeps_unmarked accepts refuses tells keeps) next now new started runs

    abbrev raw : Thread C R → Stage
    raw t = record { known = num_known (scopes_of t); thread = thread_of (profiler_of t); told = own t }

    passed : (f : Forest) × Passes (raw now) (raw new) (tour f)
    passed = let a = adds_code answers accepts refuses tells keeps next now new started runs in
        (a.0, a.2.passed (p.adds.none_open refl))

    abbrev more : List Happening
    more = under (key_at (raw new)) passed.1.streams

    own_new : own new ≡ own now ++ more
    own_new = passed.1.told

    own_mid : own mid ≡ (own now ++ more) ++ marked arrived ∷ []
    own_mid = arrives.1 ∙ ap (λ (hs : List Happening). hs ++ marked arrived ∷ []) own_new

    own_last : own last ≡ (own now ++ more) ++ marked arrived ∷ marked (saw_released (turn + 1)) ∷ []
    own_last = sees.1 ∙ ap (λ (hs : List Happening). hs ++ marked (saw_released (turn + 1)) ∷ []) own_mid
        ∙ append_assoc (own now ++ more) (marked arrived ∷ []) (marked (saw_released (turn + 1)) ∷ [])

    abbrev tail : List Happening
    tail = more ++ marked arrived ∷ marked (saw_released (turn + 1)) ∷ []

    longer : own last ≡ own now ++ tail
    longer = own_last ∙ append_assoc (own now) more (marked arrived ∷ marked (saw_released (turn + 1)) ∷ [])

    same : at last ≡ at new
    same =
        same_at mid last (ap profiler_of sees.0) (ap scopes_of sees.0)
        (ap unmarked sees.1 ∙ marks_nothing (own mid) (saw_released (turn + 1)))
        ∙ same_at new mid (ap profiler_of arrives.0) (ap scopes_of arrives.0)
        (ap unmarked arrives.1 ∙ marks_nothing (own new) arrived)

    whole : Adds (fresh name known) (at new) (append p.forest part.0)
    whole = adds_both (fresh name known) (at now) (at new) p.forest part.0 p.adds part.2

    all_scopes : AreScopesOf known Short (followed_by p.code next) (append p.forest part.0)
    all_scopes = scopes_both known Short p.code next p.forest part.0 p.scopes (moved next part.0 p.adds.known p.adds.form part.1)

    arrived_now : num_arrived (own now ++ more) ≡ turn
    arrived_now = omega (arith, arrived-both (own now) more, no_part (key_at (raw new)) passed.1.streams, p.parts)

    part_until : until (suc turn) (own last) ≡ (own now ++ more) ++ marked arrived ∷ []
    part_until = ap (until (suc turn)) own_last
        ∙ until_part turn (own now ++ more) (marked (saw_released (turn + 1)) ∷ []) arrived_now

    tail_step : KeepsStep turn turn tail
    tail_step =
        steps_both turn turn more (marked arrived ∷ marked (saw_released (turn + 1)) ∷ [])
        (reports_step turn turn (key_at (raw new)) passed.1.streams refl)
        (subst (λ (n : ℕ). KeepsStep n (last_seen turn more) (marked arrived ∷ marked (saw_released (turn + 1)) ∷ []))
        (omega (arith, no_part (key_at (raw new)) passed.1.streams))
        (subst (λ (n : ℕ). KeepsStep turn n (marked arrived ∷ marked (saw_released (turn + 1)) ∷ []))
        (sym (none_seen turn (key_at (raw new)) passed.1.streams)) (refl, (refl, tt))))

    each_so_far : (round : ℕ) → (round < turn) ⊎ (round ≡ turn) → (so_far : Code) × (waits : ℕ)
        × AreTurns is (suc round) so_far × HasRun name Short known so_far [] (until (suc round) (own last)) waits
    each_so_far round (inl below) =
        let e = p.each round below in
        let stays : until (suc round) (own last) ≡ until (suc round) (own now) = ap (until (suc round)) longer
        ∙ until_stays (suc round) (own now) tail (omega (arith, below, p.parts)) in
        (e.0, e.1, e.2, subst (λ (hs : List Happening). HasRun name Short known e.0 [] hs e.1) (sym stays) e.3)
    each_so_far round (inr this) =
        let h = has_added_so_far answers accepts refuses (λ r. unmarked (tells r)) (keeps_unmarked accepts refuses tells keeps)
        (followed_by p.code next) (append p.forest part.0) (fresh name known) new name Short
        (until (suc turn) (own last)) refl all_scopes whole refl
        (ap unmarked own_new ∙ sym (marks_nothing (own now ++ more) arrived) ∙ sym (ap unmarked part_until)) in
        subst (λ (r : ℕ). (so_far : Code) × (waits : ℕ) × AreTurns is (suc r) so_far
        × HasRun name Short known so_far [] (until (suc r) (own last)) waits) (sym this)
        (followed_by p.code next, h.0, (p.code, next, p.are, it, refl), h.1)

    suc_turn : AfterRounds (suc turn) last
    suc_turn = record {
      code = followed_by p.code next;
      are = (p.code, next, p.are, it, refl);
      forest = append p.forest part.0;
      scopes = all_scopes;
      adds = subst (λ s. Adds (fresh name known) s (append p.forest part.0)) (sym same) whole;
      step = subst (KeepsStep 0 0) (sym longer) (steps_both 0 0 (own now) tail p.step
          (subst (λ (n : ℕ). KeepsStep n (last_seen 0 (own now)) tail)
          (omega (arith, p.parts)) (subst (λ (n : ℕ). KeepsStep turn n tail) (sym p.closed) tail_step)));
      parts = omega (
        arith,
        ap num_arrived own_last,
        arrived-both (own now ++ more) (marked arrived ∷ marked (saw_released (turn + 1)) ∷ []),
        arrived_now,
      );
      closed = ap (last_seen 0) own_last ∙ last_seen_both 0
          (own now ++ more) (marked arrived ∷ marked (saw_released (turn + 1)) ∷ []) ∙ omega arith;
      each = λ round below. each_so_far round (which round turn below);
    }

    pub next_turn : AfterRounds (turn + 1) last
    next_turn = subst (λ (n : ℕ). AfterRounds n last) (omega arith) suc_turn

  -- a part that didn't fail, or that of a leader
  pub part_ran : (answers : C → ℤ → C → Type 0) (accepts : R → ThreadKey → List Details → StreamFacts → R → Type 0)
      (refuses : R → ThreadKey → List Details → StreamFacts → Error → R → Type 0) → KeepsReports accepts refuses tells
      → {X E : Type 0} (states : Bool) (turn : ℕ) (now new then_new mid last : Thread C R) (r : Result X E) (x : X)
      → states ≡ true → r ≡ Ok x → RunsAs states (is turn) (BeginsAt answers accepts refuses)
      (EndsIn answers accepts refuses) now r new → then_new ≡ new → AfterRounds turn now
      → MarksThere tells then_new arrived mid → MarksThere tells mid (saw_released (turn + 1)) last → AfterRounds (turn + 1) last
  part_ran answers accepts refuses keeps {X} {E} states turn now new then_new mid last r x stated well runs same p arrives sees =
      let ok : RunsAs {E = E} states (is turn) (BeginsAt answers accepts refuses) (EndsIn answers accepts refuses) now (Ok x) new =
      subst (λ (y : Result X E). RunsAs states (is turn) (BeginsAt answers accepts refuses)
      (EndsIn answers accepts refuses) now y new) well runs in
      let ran : (code : Code) × is turn code × Runs (BeginsAt answers accepts refuses)
      (EndsIn answers accepts refuses) code now new =
      subst (λ (b : Bool). RunsAs {E = E} b (is turn) (BeginsAt answers accepts refuses)
      (EndsIn answers accepts refuses) now (Ok x) new) stated ok in
      next_turn answers accepts refuses keeps turn now new mid last ran.0 p ran.1 ran.2
      (subst (λ (t : Thread C R). MarksThere tells t arrived mid) same arrives) sees

  pub part_led : (answers : C → ℤ → C → Type 0) (accepts : R → ThreadKey → List Details → StreamFacts → R → Type 0)
      (refuses : R → ThreadKey → List Details → StreamFacts → Error → R → Type 0) → KeepsReports accepts refuses tells
      → (states : Bool) (turn : ℕ) (now new mid last : Thread C R)
      → states ≡ true → LeadsAs states (is turn) (BeginsAt answers accepts refuses) (EndsIn answers accepts refuses) now new
      → AfterRounds turn now
      → MarksThere tells new arrived mid → MarksThere tells mid (saw_released (turn + 1)) last → AfterRounds (turn + 1) last
  part_led answers accepts refuses keeps states turn now new mid last stated leads p arrives sees =
      let led : (code : Code) × is turn code × Runs (BeginsAt answers accepts refuses)
      (EndsIn answers accepts refuses) code now new =
      subst (λ (b : Bool). LeadsAs b (is turn) (BeginsAt answers accepts refuses) (EndsIn answers accepts refuses) now new)
      stated leads in
      next_turn answers accepts refuses keeps turn now new mid last led.0 p led.1 led.2 arrives sees

  -- after the last round, what waits was reported, or not
  pub has_run_rounds : (answers : C → ℤ → C → Type 0)
      (accepts : R → ThreadKey → List Details → StreamFacts → R → Type 0)
      (refuses : R → ThreadKey → List Details → StreamFacts → Error → R → Type 0) → KeepsReports accepts refuses tells
      → (turn rounds : ℕ) (now : Thread C R) (last : calls.Thread) (after : R) (result : Result Bool Error) (waiting : ℕ)
      → turn ≤ rounds → AfterRounds turn now
      → Reports accepts refuses (thread_of (profiler_of now)) last (reporter_of now) after result → waiting ≡ num_ended last.word
      → HasRunRounds is rounds name known (tells after) waiting
  has_run_rounds answers accepts refuses keeps turn rounds now last after result waiting within p reports counted = record {
    code = p.code;
    are = (turn, within, p.are);
    ran = has_added answers accepts refuses (λ r. unmarked (tells r)) (keeps_unmarked accepts refuses tells keeps) p.code p.forest
        (fresh name known) now last after name Short result waiting [] (tells after) refl p.scopes p.adds reports counted refl refl;
    step = subst (KeepsStep 0 0) (sym longer) (steps_both 0 0 (own now) more p.step
        (subst (λ (n : ℕ). KeepsStep n (last_seen 0 (own now)) more)
        (omega (arith, p.parts)) (subst (λ (n : ℕ). KeepsStep turn n more) (sym p.closed)
        (reports_step turn turn (key_at ended) passed.streams refl))));
    each = λ round below.
        let below_turn : round < turn = omega
        (arith, below, ap num_arrived longer, arrived-both (own now) more, no_part (key_at ended) passed.streams, p.parts) in
        let e = p.each round below_turn in
        let stays : until (suc round) (tells after) ≡ until (suc round) (own now) = ap (until (suc round)) longer
        ∙ until_stays (suc round) (own now) more (omega (arith, below_turn, p.parts)) in
        (e.0, e.1, e.2, subst (λ (hs : List Happening). HasRun name Short known e.0 [] hs e.1) (sym stays) e.3);
  }
    where
      raw : Stage
      raw = record { known = num_known (scopes_of now); thread = thread_of (profiler_of now); told = own now }

      ended : Stage
      ended = record { known = num_known (scopes_of now); thread = last; told = tells after }

      its : Reports Accepts Refuses (thread_of (profiler_of now)) last (own now) (tells after) result
      its = reports_by answers accepts refuses tells keeps (thread_of (profiler_of now)) last (reporter_of now) after result reports

      passed : Passes raw ended []
      passed = reports_pass raw ended result
          (λ none. adds_started (fresh name known) (at now) p.forest (λ none. refl) p.adds
          (sym (reports_stay (thread_of (profiler_of now)) last (own now) (tells after) result its).1 ∙ none)) its

      more : List Happening
      more = under (key_at ended) passed.streams

      longer : tells after ≡ own now ++ more
      longer = passed.told

-- what is stated, if it is
pub if_stated : (states : Bool) (is : ℕ → Code → Type 0) (rounds : ℕ) (name : List ℕ) (known : ℕ) (own : List Happening)
    (waiting : ℕ) → (states ≡ true → HasRunRounds is rounds name known own waiting)
    → HasLedRoundsAs states is rounds name known own waiting
if_stated false is rounds name known own waiting ran = tt
if_stated true is rounds name known own waiting ran = ran refl

-- and if nothing failed
pub if_well : {X E : Type 0} (states : Bool) (is : ℕ → Code → Type 0) (rounds : ℕ) (name : List ℕ)
    (known : ℕ) (result : Result X E) (own : List Happening) (waiting : ℕ)
    → (IsOk result → states ≡ true → HasRunRounds is rounds name known own waiting)
    → HasRunRoundsAs states is rounds name known result own waiting
if_well states is rounds name known (Ok x) own waiting ran = if_stated states is rounds name known own waiting (ran refl)
if_well states is rounds name known (Err e) own waiting ran = tt
