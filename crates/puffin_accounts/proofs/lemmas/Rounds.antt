-- Rounds show the scopes of their code that began.
use Rattle.std.proofs.Common.{◌≡◌, ℕ, ◌+◌, ℤ, List, [], ◌∷◌, ◌++◌, length, map, Option, Some}
use Rattle.std.proofs.Common.{None, Global, refl, sym, ap, ◌∙◌, subst, arith}
use Rattle.std.specs.List.{Contains}
use Rattle.std.specs.declared.sync.Arc.{Arc}
use Rattle.std.proofs.lemmas.List.{append-nil, map-append}
use Rattle.puffin_data.specs.declared.error.Error.{Error}
use Rattle.puffin_data.specs.declared.data.form.Form.{Form}
use Rattle.puffin_data.specs.declared.data.form.Form.TheVariants.{Short}
use Rattle.puffin_data.specs.Forest.{Forest, empty}
use Rattle.puffin_data.specs.Forest.Measures.{scope_count}
use Rattle.puffin_data.specs.Forest.Tour.{Event, tour}
use Rattle.puffin_data.specs.Honesty.{StreamFacts}
use Rattle.puffin_threads.specs.Thread.ThreadProfiler.{thread_of, clock_of}
use Rattle.puffin_threads.specs.Thread.ThreadKey.{ThreadKey}
use Rattle.puffin_threads.specs.Thread.Calls as calls
use Rattle.puffin_threads.specs.Thread.Calls.{new_thread, num_ended}
use Rattle.puffin_threads.specs.Details.{Details}
use Rattle.puffin_threads.specs.Details.Collection.{first_with_id}
use Rattle.puffin_frames.specs.declared.frame_data.frame.FrameData.{FrameData}
use Rattle.puffin_collector.specs.Collector.State.{Collected, nothing_collected, after_learning, after_wanting}
use Rattle.puffin_collector.specs.Collector.Collecting.{Collects}
use Rattle.puffin.specs.declared.global_profiler.profiler.GlobalProfiler.{GlobalProfiler}
use Rattle.puffin.specs.declared.light.thread.Thread.{Thread}
use Rattle.puffin.specs.Guards.{BeginsAt, EndsIn}
use Rattle.puffin.specs.Lent.{with_reporter}
use Rattle.puffin.specs.LightThread.{profiler_of, reporter_of, scopes_of}
use Rattle.puffin.specs.Places.{num_known}
use Rattle.puffin.specs.Profiler.{collected_of}
use Rattle.puffin.proofs.lemmas.Waiting.{num_ended-tour}
use Rattle.puffin_accounts.specs.Moments.{Moment, moment_by, moment_of, key_at, Sees, AcceptsThere, RefusesThere}
use Rattle.puffin_accounts.specs.Times.{Timed}
use Rattle.puffin_accounts.specs.Running.{Code, Runs, AreScopesOf, ListsPlaces, at_first}
use Rattle.puffin_accounts.specs.Showing.{listed_next}
use Rattle.puffin_accounts.specs.Steps.{tours}
use Rattle.puffin_accounts.specs.Rounds.{Round, MakesRound, MakesRounds, RunsRound, RunsRounds, Shows, Lists, listed_after, ShowsEach}
use Rattle.puffin_accounts.specs.Rounds.{ShowsRounds, RoundsShow}
use Rattle.puffin_accounts.proofs.lemmas.Times.{same_start, timed_still, timed_both}
use Rattle.puffin_accounts.proofs.lemmas.Steps.{none_due_at_first}
use Rattle.puffin_accounts.proofs.lemmas.Running.{adds_code, sees_there}
use Rattle.puffin_accounts.proofs.lemmas.Framing.{Rests, Framed, framed}

-- ---- rounds

-- a later frame shows the thread under the same info
shows_later : {C : Type 0} (answers : C → ℤ → C → Type 0) (k n : Moment C) (events : List Event)
    (frame : Option (Arc FrameData Global)) (index : ℕ) (listed : List Details) (shown : Forest) → Timed answers k n events
    → (k.thread.first_start ≡ None → shown ≡ empty) → Shows frame index (key_at k) listed shown
    → Shows frame index (key_at n) listed shown
shows_later answers k n events None index listed shown timed started shows = shows
shows_later answers k n events (Some frame) index listed shown timed started shows = at_start k.thread.first_start refl
  where
    -- a thread that has no start showed nothing; else its start and name, and so its key, stay
    at_start : (s : Option ℤ) → k.thread.first_start ≡ s → Shows (Some frame) index (key_at n) listed shown
    at_start None is = absurd (let none = ap scope_count (started is) in let some = shows.0.some in omega (arith, none, some))
    at_start (Some t) is =
        let later = same_start answers k n t events timed is in
        let start : n.thread.first_start ≡ k.thread.first_start = later ∙ sym is in
        let name = timed.name in
        let key : key_at n ≡ key_at k = cc in
        subst (λ (i : ThreadKey). Shows (Some frame) index i listed shown) (sym key) shows

-- what these rounds show, from the moment `m` to the moment `n`, where these scopes waited before
record Showed {C : Type 0} (answers : C → ℤ → C → Type 0) (m n : Moment C) (waited : Forest) (rounds : List Round) : Type 0 where
  began : List Forest
  timed : Timed answers m n (tours began)
  waits : Forest
  rests : Rests n waits
  shows : ShowsEach m.known m.thread.form (key_at n) m.collected.index (listed_next m) waited rounds began waits

-- the same of one round
record ShowedOne {C : Type 0} (answers : C → ℤ → C → Type 0) (m n : Moment C) (waited : Forest) (round : Round) : Type 0 where
  began : Forest
  timed : Timed answers m n (tour began)
  are : AreScopesOf m.known m.thread.form round.code began
  framed : Framed m n waited began round.frame

-- the first round, and the others after it
showed_more : {C : Type 0} (answers : C → ℤ → C → Type 0) (m k n : Moment C)
    (waited : Forest) (round : Round) (rounds : List Round) (s : ShowedOne answers m k waited round)
    → Showed answers k n s.framed.left rounds → Showed answers m n waited (round ∷ rounds)
showed_more answers m k n waited round rounds s more = record {
  began = s.began ∷ more.began;
  timed = timed_both answers m k n (tour s.began) (tours more.began) s.timed more.timed;
  waits = more.waits;
  rests = more.rests;
  shows = (
    s.framed.shown,
    s.framed.left,
    s.are,
    s.framed.kept,
    shows_later answers k n (tours more.began) round.frame m.collected.index
        (listed_next m) s.framed.shown more.timed s.framed.started s.framed.shows,
    others,
  );
}
  where
    Others : ℕ → Form → ℕ → List Details → Type 0
    Others known form index listed = ShowsEach known form (key_at n) index listed s.framed.left rounds more.began more.waits

    others : Others m.known m.thread.form (m.collected.index + 1) (listed_after round.frame (listed_next m))
    others =
        subst (λ (x : ℕ). Others x m.thread.form (m.collected.index + 1) (listed_after round.frame (listed_next m))) s.timed.known
        (subst (λ (x : Form). Others k.known x (m.collected.index + 1) (listed_after round.frame (listed_next m))) s.timed.form
        (subst (λ (x : ℕ). Others k.known k.thread.form x (listed_after round.frame (listed_next m))) s.framed.index
        (subst (λ (x : List Details). Others k.known k.thread.form k.collected.index x) s.framed.listed more.shows)))

module _ {C R : Type 0} (answers : C → ℤ → C → Type 0)
    (seen : R → Collected) (accepts : R → ThreadKey → List Details → StreamFacts → R → Type 0)
    (refuses : R → ThreadKey → List Details → StreamFacts → Error → R → Type 0) where
  -- one more round was made
  pub makes_more : (rounds : List Round) (round : Round) (old mid new : Thread C R)
      → MakesRounds answers seen accepts refuses rounds old mid → MakesRound answers seen accepts refuses round mid new
      → MakesRounds answers seen accepts refuses (rounds ++ (round ∷ [])) old new
  makes_more [] round old mid new none one = (new, subst (λ t. MakesRound answers seen accepts refuses round t new) none one, refl)
  makes_more (first ∷ rounds) round old mid new (next, made, later) one = (next, made, makes_more rounds round next mid new later one)

module _ {C R : Type 0} (answers : C → ℤ → C → Type 0)
    (seen : R → Collected) (accepts : R → ThreadKey → List Details → StreamFacts → R → Type 0)
    (refuses : R → ThreadKey → List Details → StreamFacts → Error → R → Type 0) (sees : Sees seen accepts refuses) where
  -- a round: its code adds scopes, and then a frame call shows them
  round_shows : (round : Round) (old new : Thread C R) (waited : Forest) → Rests (moment_by seen old) waited
      → MakesRound answers seen accepts refuses round old new → ShowedOne answers (moment_by seen old) (moment_by seen new) waited round
  round_shows round old new waited rests run =
      let code = adds_code answers seen accepts refuses sees round.code old run.ran (λ none. (rests.is_due.unstarted none).1) run.runs in
      let later = seen (reporter_of new) in
      let r = moment_by seen run.ran in
      let n : Moment C = record r { collected = later } in
      let same : moment_by seen new ≡ n = ap (moment_by seen) run.thread in
      subst (λ (x : Moment C). ShowedOne answers (moment_by seen old) x waited round) (sym same) (record {
        began = code.scopes;
        timed = subst (λ (w : List Event). Timed answers (moment_by seen old) n w) (append-nil (tour code.scopes))
            (timed_both answers (moment_by seen old) r n (tour code.scopes) [] code.adds.timed (timed_still answers r n refl refl refl));
        are = code.began;
        framed = framed answers (moment_by seen old) r waited code.scopes rests code.adds round.frame later run.took;
      })

  -- rounds, one after the other
  rounds_show : (rounds : List Round) (old new : Thread C R) (waited : Forest) → Rests (moment_by seen old) waited
      → MakesRounds answers seen accepts refuses rounds old new → Showed answers (moment_by seen old) (moment_by seen new) waited rounds
  rounds_show [] old new waited rests same =
      subst (λ t. Showed answers (moment_by seen old) (moment_by seen t) waited []) (sym same) (record {
        began = [];
        timed = timed_still answers (moment_by seen old) (moment_by seen old) refl refl refl;
        waits = waited;
        rests = rests;
        shows = refl;
      })
  rounds_show (round ∷ rounds) old new waited rests (next, makes, later) =
      let first = round_shows round old next waited rests makes in
      showed_more answers (moment_by seen old) (moment_by seen next) (moment_by seen new) waited round rounds first
      (rounds_show rounds next new first.framed.left first.framed.rests later)

-- what the frames of rounds on a new thread show
pub rounds_are_shown : {C R : Type 0} (answers : C → ℤ → C → Type 0)
    (accepts : R → ThreadKey → List Details → StreamFacts → R → Type 0)
    (refuses : R → ThreadKey → List Details → StreamFacts → Error → R → Type 0) → RoundsShow answers accepts refuses
rounds_are_shown {C} answers accepts refuses seen sees rounds old new name form is none runs =
    let word = ap (λ (t : calls.Thread). t.word) is in
    let rests : Rests (moment_by seen old) empty =
    record {
      is_due = none_due_at_first C (moment_by seen old) name form is none;
      word = word;
      details =
          ap (λ (t : calls.Thread). t.details) is;
    } in
    let s = rounds_show answers seen accepts refuses sees rounds old new empty rests runs in
    record {
      began = s.began;
      now = moment_by seen new;
      timed = s.timed;
      waits = s.waits;
      counted = sym (num_ended-tour s.waits) ∙ ap num_ended (sym s.rests.word);
      shows = s.shows;
    }

-- ---- what a user's own proof cites

-- a new thread that reports to a profiler of its own, both of which were told of these places
pub starts_new : {C I : Type 0} {F : I → Type 0} {name : List ℕ} {clock : C} {details listed told : List Details} {unused : Collected}
    (thread : Thread C (GlobalProfiler I F))
    → listed ≡ details → told ≡ listed → clock_of (profiler_of thread) ≡ clock
    → num_known (scopes_of thread) ≡ length listed → thread_of (profiler_of thread) ≡ new_thread name Short
    → collected_of (reporter_of thread) ≡ after_wanting (after_learning unused told) → unused ≡ nothing_collected 0
    → moment_of thread ≡ at_first name clock details
starts_new {C} {name = name} {clock = clock} {details = details} {told = told} thread same_listed same_told same_clock known new collected
    is_unused =
    ap (λ c. made_of c (num_known (scopes_of thread)) (thread_of (profiler_of thread)) (collected_of (reporter_of thread))) same_clock
    ∙ ap (λ k. made_of clock k (thread_of (profiler_of thread)) (collected_of (reporter_of thread))) (known ∙ ap length same_listed)
    ∙ ap (λ t. made_of clock (length details) t (collected_of (reporter_of thread))) new
    ∙ ap (made_of clock (length details) (new_thread name Short))
    (collected ∙ ap (λ c. after_wanting (after_learning c told)) is_unused
    ∙ ap (λ ds. after_wanting (after_learning (nothing_collected 0) ds)) (same_told ∙ same_listed))
  where
    made_of : C → ℕ → calls.Thread → Collected → Moment C
    made_of c k t x = record { clock = c; known = k; thread = t; collected = x }

module _ {C I : Type 0} {F : I → Type 0} {answers : C → ℤ → C → Type 0} where
  -- code ran, and a frame was taken
  pub runs_round : {code made : Code} {frame : Option (Arc FrameData Global)} {old new : Thread C (GlobalProfiler I F)}
      (ran : Thread C (GlobalProfiler I F))
      → made ≡ code → Runs (BeginsAt answers AcceptsThere RefusesThere) (EndsIn answers AcceptsThere RefusesThere) made old ran
      → Collects (collected_of (reporter_of ran)) frame (collected_of (reporter_of new)) → new ≡ with_reporter ran (reporter_of new)
      → RunsRound answers (record { code = code; frame = frame }) old new
  runs_round {old = old} ran same runs took thread =
      record {
        ran = ran;
        runs = subst (λ c. Runs (BeginsAt answers AcceptsThere RefusesThere)
            (EndsIn answers AcceptsThere RefusesThere) c old ran) same runs;
        took = took;
        thread = thread;
      }

  -- one more round, whose frame was added to those that were taken
  pub runs_more : (round_of : Option (Arc FrameData Global) → Round)
      (frames : List (Option (Arc FrameData Global))) {all : List (Option (Arc FrameData Global))} {frame : Option (Arc FrameData Global)}
      (old mid new : Thread C (GlobalProfiler I F))
      → all ≡ frames ++ (frame ∷ []) → RunsRounds answers (map round_of frames) old mid
      → RunsRound answers (round_of frame) mid new
      → RunsRounds answers (map round_of all) old new
  runs_more round_of frames {all} {frame} old mid new added some one =
      subst (λ rounds. RunsRounds answers rounds old new) (sym (ap (map round_of) added ∙ map-append round_of frames (frame ∷ [])))
      (makes_more answers collected_of AcceptsThere RefusesThere (map round_of frames) (round_of frame) old mid new some one)

  -- what the frames of a new thread's rounds show
  pub shows_rounds : {name : List ℕ} {clock : C} (details : List Details)
      (rounds : List Round) {waiting : ℕ} (old new : Thread C (GlobalProfiler I F))
      → moment_of old ≡ at_first name clock details → RunsRounds answers rounds old new
      → waiting ≡ num_ended (thread_of (profiler_of new)).word
      → ShowsRounds answers (at_first name clock details) rounds waiting
  shows_rounds {name} {clock} details rounds {waiting} old new first runs counted =
      subst (λ (m : Moment C). ShowsRounds answers m rounds waiting) first
      (subst (λ (n : ℕ). ShowsRounds answers (moment_of old) rounds n) (sym counted)
      (rounds_are_shown answers AcceptsThere RefusesThere collected_of sees_there rounds old new name Short
      (ap (λ (m : Moment C). m.thread) first) (ap (λ (m : Moment C). m.collected.streams) first) runs))

-- the frame of the first round lists the details of each place, by the law `places_are_listed`
pub lists_place : {C : Type 0} {answers : C → ℤ → C → Type 0} {name : List ℕ} {clock : C}
    (details : List Details) {code : Code} {frame : Option (Arc FrameData Global)} {rounds : List Round} {waiting : ℕ}
    → ListsPlaces C → ShowsRounds answers (at_first name clock details) (record { code = code; frame = frame } ∷ rounds) waiting
    → (id : ℕ) (listed : Details) → first_with_id id details ≡ Some listed → Lists frame listed
lists_place {C} {answers} {name} {clock} details {code} {frame} {rounds} law shows id listed found = at_began frame shows.began shows.shows
  where
    at_began : (f : Option (Arc FrameData Global)) (began : List Forest)
        → ShowsEach (length details) Short (key_at shows.now) 0 (listed_next (at_first name clock details)) empty
        (record { code = code; frame = f } ∷ rounds) began shows.waits → Lists f listed
    at_began None began each = tt
    at_began (Some f) [] each = absurd each
    at_began (Some f) (one ∷ later) each =
        let (_shown, _left, _are, _kept, (_shows, lists), _later) = each in
        subst (λ (any : List Details). Contains any listed) (sym lists) (law name clock details id listed found)
