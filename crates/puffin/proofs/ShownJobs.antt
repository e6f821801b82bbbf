-- The frames show what each job did whose name no other has.
use Rattle.std.proofs.Common.{◌≡◌, ◌≢◌, ℕ, ℤ, zero, suc, ◌+◌, ◌<◌, Bool, true, false, List, [], ◌∷◌}
use Rattle.std.proofs.Common.{◌++◌, Option, Some, length, map, get_or, refl, ap, sym, subst, ◌∙◌, arith}
use mathlib.Core.Logic.{∥∥₁_map}
use Rattle.std.specs.Prelude.{slice_get, count_by}
use Rattle.std.specs.Str.{bytes_eq}
use Rattle.std.specs.List.{Contains}
use Rattle.std.proofs.lemmas.List.{append-nil}
use Rattle.std.proofs.lemmas.List.Concat.{flat_map-cons}
use Rattle.std.proofs.lemmas.List.Sums.{sum_by-cons, sum_by-append}
use Rattle.std.proofs.lemmas.Slice.Eq.{bytes_eq-Decides}
use Rattle.std.proofs.lemmas.Option.{slice_get_within, slice_get-get_or}
use Rattle.puffin_data.specs.declared.data.form.Form.TheVariants.{Short}
use Rattle.puffin_data.specs.Forest.{Forest, append}
use Rattle.puffin_data.specs.Honesty.{StreamFacts}
use Rattle.puffin_threads.specs.Thread.ThreadKey.{ThreadKey}
use Rattle.puffin.specs.Code.{Code, AreScopesOf}
use Rattle.puffin.specs.Happenings.{Happening, reported, frames_in, reports_under}
use Rattle.puffin.specs.Members.{Member, account_of}
use Rattle.puffin.specs.Recounted.{SpellInTurn}
use Rattle.puffin.specs.Telling.{HasRun, Job, HaveRun}
use Rattle.puffin.specs.Shown.{ShowsCode, IsAlone, names_in, FramesShowJobs}
use Rattle.puffin.proofs.ShownCode.{under_itself, under_others, no_frames, more_under, more_frames, spelled_once, at_most_one, contained}
use Rattle.puffin.proofs.ShownCode.{every, here, is_here}
use Rattle.puffin.proofs.TellingShares.{none_in}

abbrev names_of : List Job → List (List ℕ)
names_of jobs = map (λ job. job.name) jobs

abbrev key : Option ℤ → List ℕ → ThreadKey
key start name = record { start = start; name = name }

-- how often a name stands in a list
abbrev times : List ℕ → List (List ℕ) → ℕ
times name names = count_by (bytes_eq name) names

times-cons : (name x : List ℕ) (xs : List (List ℕ)) → times name (x ∷ xs) ≡ here name x + times name xs
times-cons name x xs = sum_by-cons (here name) x xs

times-append : (name : List ℕ) (xs ys : List (List ℕ)) → times name (xs ++ ys) ≡ times name xs + times name ys
times-append name xs ys = sum_by-append (here name) xs ys

not_here : (name x : List ℕ) → here name x ≡ 0 → name ≢ x
not_here name x none same = let one = is_here name x same in absurd (omega (arith, none, one))

-- whether it is this name
data Which (name x : List ℕ) : Type 0 where
  is_it : name ≡ x → here name x ≡ 1 → Which name x
  is_none : here name x ≡ 0 → Which name x

which : (name x : List ℕ) → Which name x
which name x = by (bytes_eq name x) refl
  where
    by : (b : Bool) → bytes_eq name x ≡ b → Which name x
    by true is = let eq : name ≡ x = (bytes_eq-Decides name x).0 is in is_it eq (is_here name x eq)
    by false is = is_none (ap (λ (b : Bool). Rattle.std.specs.Prelude.cond b 1 0) is)

-- ---- what one thread's jobs add to what is under a name

module _ (is : List ℕ → Code → Type 0) (known : ℕ) where
  -- a job of another name adds nothing
  apart : (name : List ℕ) (job : Job) (before mid : List Happening) → name ≢ job.name
      → HasRun job.name Short known job.code before mid job.unreported → (start : Option ℤ)
      → reports_under (key start name) mid ≡ reports_under (key start name) before
  apart name job before mid differs ran start =
      more_under (key start name) before mid (map (reported (key ran.start job.name)) ran.streams) ran.told
      ∙ ap (λ (rs : List StreamFacts). reports_under (key start name) before ++ rs)
      (under_others (key ran.start job.name) (key start name) differs ran.streams)
      ∙ append-nil (reports_under (key start name) before)

  absent : (name : List ℕ) (jobs : List Job) (before after : List Happening) → times name (names_of jobs) ≡ 0
      → HaveRun is known jobs before after → (start : Option ℤ)
      → reports_under (key start name) after ≡ reports_under (key start name) before
  absent name [] before after none ran start = ap (reports_under (key start name)) ran
  absent name (job ∷ jobs) before after none (mid, it, ran, rest) start =
      let sum = times-cons name job.name (names_of jobs) in
      absent name jobs mid after (omega (arith, none, sum)) rest start
      ∙ apart name job before mid (not_here name job.name (omega (arith, none, sum))) ran start

  untaken : (jobs : List Job) (before after : List Happening) → HaveRun is known jobs before after
      → frames_in after ≡ frames_in before
  untaken [] before after ran = ap frames_in ran
  untaken (job ∷ jobs) before after (mid, it, ran, rest) =
      untaken jobs mid after rest
      ∙ more_frames before mid (map (reported (key ran.start job.name)) ran.streams) ran.told
      ∙ ap (λ fs. frames_in before ++ fs) (no_frames (key ran.start job.name) ran.streams)
      ∙ append-nil (frames_in before)

  -- the one job of a name, and that what was reported under its key is just its streams
  record Found (name : List ℕ) (jobs : List Job) (after : List Happening) : Type 0 where
    pub job : Job
    pub there : Contains jobs job
    pub named : job.name ≡ name
    pub it : is name job.code
    pub before : List Happening
    pub mid : List Happening
    pub ran : HasRun name Short known job.code before mid job.unreported
    pub alone : reports_under (key ran.start name) after ≡ ran.streams

  present : (name : List ℕ) (jobs : List Job) (before after : List Happening) → times name (names_of jobs) ≡ 1
      → HaveRun is known jobs before after → ((start : Option ℤ) → reports_under (key start name) before ≡ [])
      → Found name jobs after
  present name [] before after once ran none = absurd cc
  present name (job ∷ jobs) before after once (mid, it, ran, rest) none = at (which name job.name) (λ zero_here.
      present name jobs mid after (let sum = times-cons name job.name (names_of jobs) in omega (arith, once, sum, zero_here)) rest
      (λ start. apart name job before mid (not_here name job.name zero_here) ran start ∙ none start))
    where
      sum : times name (names_of (job ∷ jobs)) ≡ here name job.name + times name (names_of jobs)
      sum = times-cons name job.name (names_of jobs)

      at : Which name job.name → (here name job.name ≡ 0 → Found name jobs after) → Found name (job ∷ jobs) after
      at (is_it eq one) later =
          let mine : HasRun name Short known job.code before mid job.unreported =
          subst (λ (x : List ℕ). HasRun x Short known job.code before mid job.unreported) (sym eq) ran in
          let i = key mine.start name in
          record {
            job = job;
            there = (0, omega arith, refl);
            named = sym eq;
            it = subst (λ (x : List ℕ). is x job.code) (sym eq) it;
            before = before;
            mid = mid;
            ran = mine;
            alone =
                absent name jobs mid after (omega (arith, once, sum, one)) rest mine.start
                ∙ more_under i before mid (map (reported i) mine.streams) mine.told
                ∙ ap (λ (rs : List StreamFacts). rs ++ reports_under i (map (reported i) mine.streams)) (none mine.start)
                ∙ under_itself i mine.streams;
          }
      at (is_none zero_here) later =
          let f = later zero_here in
          let c = f.there in let less = c.1 in
          record {
            job = f.job;
            there = (suc c.0, omega arith, c.2);
            named = f.named;
            it = f.it;
            before = f.before;
            mid = f.mid;
            ran = f.ran;
            alone = f.alone;
          }

-- ---- the one thread that did a job of a name

times-in : (name : List ℕ) (jobs : List Job) (threads : List (List Job))
    → times name (names_in (jobs ∷ threads)) ≡ times name (names_of jobs) + times name (names_in threads)
times-in name jobs threads = ap (times name) (flat_map-cons names_of jobs threads)
    ∙ times-append name (names_of jobs) (names_in threads)

nowhere : (name : List ℕ) (threads : List (List Job)) → times name (names_in threads) ≡ 0 → (j : ℕ) (jobs : List Job)
    → slice_get threads j ≡ Some jobs → times name (names_of jobs) ≡ 0
nowhere name [] none j jobs e = absurd cc
nowhere name (x ∷ xs) none zero jobs e = let sum = times-in name x xs in let eq : x ≡ jobs = cc in
    subst (λ (js : List Job). times name (names_of js) ≡ 0) eq (omega (arith, none, sum))
nowhere name (x ∷ xs) none (suc j) jobs e = let sum = times-in name x xs in nowhere name xs (omega (arith, none, sum)) j jobs e

record At (name : List ℕ) (threads : List (List Job)) : Type 0 where
  pub k : ℕ
  pub jobs : List Job
  pub there : slice_get threads k ≡ Some jobs
  pub once : times name (names_of jobs) ≡ 1
  pub others : (j : ℕ) (other : List Job) → slice_get threads j ≡ Some other → j ≢ k → times name (names_of other) ≡ 0

find : (name : List ℕ) (threads : List (List Job)) → IsAlone name (names_in threads) → At name threads
find name [] alone = absurd cc
find name (x ∷ xs) alone = by (times name (names_of x)) refl
    (λ none. find name xs (let sum = times-in name x xs in omega (arith, alone, sum, none)))
  where
    sum : times name (names_in (x ∷ xs)) ≡ times name (names_of x) + times name (names_in xs)
    sum = times-in name x xs

    by : (n : ℕ) → times name (names_of x) ≡ n → (times name (names_of x) ≡ 0 → At name xs) → At name (x ∷ xs)
    by zero is later =
        let f = later is in
        record {
          k = suc f.k;
          jobs = f.jobs;
          there = f.there;
          once = f.once;
          others = λ j other e apart. elsewhere f j other e apart;
        }
      where
        elsewhere : (f : At name xs) (j : ℕ) (other : List Job) → slice_get (x ∷ xs) j ≡ Some other → j ≢ suc f.k
            → times name (names_of other) ≡ 0
        elsewhere f zero other e apart = let eq : x ≡ other = cc in subst (λ (js : List Job). times name (names_of js) ≡ 0) eq is
        elsewhere f (suc j) other e apart = f.others j other e (λ same. apart (ap suc same))
    by (suc zero) is later = record {
      k = 0;
      jobs = x;
      there = refl;
      once = is;
      others = λ j other e apart. elsewhere j other e apart;
    }
      where
        elsewhere : (j : ℕ) (other : List Job) → slice_get (x ∷ xs) j ≡ Some other → j ≢ 0 → times name (names_of other) ≡ 0
        elsewhere zero other e apart = absurd (apart refl)
        elsewhere (suc j) other e apart = nowhere name xs (omega (arith, alone, sum, is)) j other e
    by (suc (suc n)) is later = absurd (omega (arith, alone, sum, is))

-- the jobs at each place where there is a share
did_at : (threads : List (List Job)) (shares : List Member) (j : ℕ) (m : Member) → length shares ≡ length threads
    → slice_get shares j ≡ Some m → (jobs : List Job) × (slice_get threads j ≡ Some jobs)
did_at threads shares j m same e = (
  get_or threads j [],
  slice_get-get_or threads j [] (subst (λ (n : ℕ). j < n) same (slice_get_within shares j m e)),
)

pub frames_show_jobs : FramesShowJobs
frames_show_jobs known n is threads shares taker log pending did same quiet recounts name alone =
    let at = find name threads alone in
    let d = did at.k at.jobs at.there in
    let found = present (is at.k) known name at.jobs [] d.0.own at.once d.2 (λ start. refl) in
    (at.k, at.jobs, found.job, at.there, found.there, found.named, found.it, shown at d.0 d.1 found)
  where
    all : List Member
    all = taker ∷ shares

    shown : (at : At name threads) (share : Member) → slice_get shares at.k ≡ Some share
        → (found : Found (is at.k) known name at.jobs share.own)
        → ∥ ShowsCode known found.job.code name (frames_in taker.own) pending found.job.unreported ∥₁
    shown at share there found =
        ∥∥₁_map (recounts.threads i (account_of share) (account_of taker) (contained all (suc at.k) share there)
        (contained all 0 taker refl) (every Others all reports) (every Untaken all takes)) (λ t.
        let one : t.0 ≡ ran.shown = spelled_once ran.streams t.0 ran.shown ran.fit
        (subst (λ (rs : List StreamFacts). SpellInTurn rs t.0) found.alone t.2) ran.spelled in
        record {
          start = ran.start;
          shown = t.0;
          waits = ran.waits;
          spelled = t.1;
          began = subst (λ (x : Forest). AreScopesOf known Short found.job.code (append x ran.waits)) (sym one) ran.began;
          counted = ran.counted;
        })
      where
        ran : HasRun name Short known found.job.code found.before found.mid found.job.unreported
        ran = found.ran

        i : ThreadKey
        i = key ran.start name

        Others : ℕ × List Happening → Type 0
        Others b = b.0 ≢ share.number → reports_under i b.1 ≡ []

        Untaken : ℕ × List Happening → Type 0
        Untaken b = b.0 ≢ taker.number → frames_in b.1 ≡ []

        reports : (j : ℕ) (m : Member) → slice_get all j ≡ Some m → Others (account_of m)
        reports zero m e other = let is_taker : taker ≡ m = cc in
            subst (λ (x : Member). reports_under i x.own ≡ []) is_taker (none_in (reports_under i taker.own) (quiet i))
        reports (suc j) m e other =
            let its = did_at threads shares j m same e in
            let d = did j its.0 its.1 in
            let is_d : d.0 ≡ m = at_most_one (slice_get shares j) d.0 m d.1 e in
            let none = at.others j its.0 its.1 (λ (here_too : j ≡ at.k). other
            (ap (λ (x : Member). x.number) (at_most_one (slice_get shares j) m share e
            (ap (slice_get shares) here_too ∙ there)))) in
            subst (λ (x : Member). reports_under i x.own ≡ []) is_d (absent (is j) known name its.0 [] d.0.own none d.2 ran.start)

        takes : (j : ℕ) (m : Member) → slice_get all j ≡ Some m → Untaken (account_of m)
        takes zero m e other = let is_taker : taker ≡ m = cc in absurd (other (ap (λ (x : Member). x.number) (sym is_taker)))
        takes (suc j) m e other =
            let its = did_at threads shares j m same e in
            let d = did j its.0 its.1 in
            let is_d : d.0 ≡ m = at_most_one (slice_get shares j) d.0 m d.1 e in
            subst (λ (x : Member). frames_in x.own ≡ []) is_d (untaken (is j) known its.0 [] d.0.own d.2)
