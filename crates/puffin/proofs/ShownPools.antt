-- What a pool shows, by what its threads told.
use Rattle.std.proofs.Common.{◌≡◌, ℕ, zero, suc, ◌<◌, Bool, true, false, List, [], ◌∷◌, Some, None, Result, Ok, Err}
use Rattle.std.proofs.Common.{length, string_bytes, refl, sym, ap, subst, ◌∙◌, arith}
use Rattle.std.specs.Prelude.{slice_get, IsOk, IfOk, OnOk}
use Rattle.puffin_data.specs.declared.data.form.Form.TheVariants.{Short}
use Rattle.puffin_frames.specs.Frame.Contents.{Streams}
use Rattle.puffin.specs.declared.light.outcome.Outcome.{Outcome}
use Rattle.puffin.specs.declared.light.outcome.ThreadCounts.{ThreadCounts}
use Rattle.puffin.specs.declared.light.ready.ThreadEnd.{ThreadEnd}
use Rattle.puffin.specs.declared.light.ready.Ready.{Ready}
use Rattle.puffin.specs.Code.{Code}
use Rattle.puffin.specs.Happenings.{Happening, frames_in}
use Rattle.puffin.specs.Joined.{counts_after, AreTold, HasTold}
use Rattle.puffin.specs.Leaving.{accounts_of}
use Rattle.puffin.specs.Members.{Member}
use Rattle.puffin.specs.Places.{num_known}
use Rattle.puffin.specs.Recounted.{Recounts}
use Rattle.puffin.specs.Telling.{HasRun, HasLedAs, Job, HaveRun, HaveRunAs, num_unreported}
use Rattle.puffin.specs.Shown.{NamedTold, EachDid, ShowsPool, PoolShows, leader_before}
use Rattle.puffin.proofs.ShownJobs.{frames_show_jobs}
use Rattle.puffin.proofs.ShownRuns.{there}

-- a list of what there is for each number
pub chosen : {A : Type 0} (P : ℕ → A → Type 0) (n : ℕ) → ((k : ℕ) → k < n → (x : A) × P k x)
    → (xs : List A) × (length xs ≡ n) × ((k : ℕ) (x : A) → slice_get xs k ≡ Some x → P k x)
chosen P zero f = ([], refl, λ k x e. absurd cc)
chosen {A} P (suc n) f = put (f 0 (omega arith)) (chosen (λ k. P (suc k)) n (λ k below. f (suc k) (omega arith)))
  where
    put : (first : (x : A) × P 0 x) → ((xs : List A) × (length xs ≡ n)
        × ((k : ℕ) (x : A) → slice_get xs k ≡ Some x → P (suc k) x))
        → (xs : List A) × (length xs ≡ suc n) × ((k : ℕ) (x : A) → slice_get xs k ≡ Some x → P k x)
    put first rest = (first.0 ∷ rest.0, ap suc rest.1, λ k x e. at first rest.0 rest.2 k x e)
      where
        at : (first : (x : A) × P 0 x) (rest : List A) → ((k : ℕ) (x : A) → slice_get rest k ≡ Some x → P (suc k) x)
            → (k : ℕ) (x : A) → slice_get (first.0 ∷ rest) k ≡ Some x → P k x
        at first rest later zero x e = let eq : first.0 ≡ x = cc in subst (P 0) eq first.1
        at first rest later (suc k) x e = later k x e

-- what is so of what didn't fail
pub well_so : {X E : Type 0} (P : Type 0) (result : Result X E) → IsOk result → OnOk result P → P
well_so P (Ok x) well so = so
well_so P (Err e) well so = absurd cc

-- what a thread did through its share, and how its unreported scopes are counted
record Did (is : List ℕ → Code → Type 0) (known : ℕ) (counts : List ThreadCounts) (shares : List Member)
    (k : ℕ) (jobs : List Job) : Type 0 where
  pub share : Member
  pub count : ThreadCounts
  pub share_is : slice_get shares k ≡ Some share
  pub count_is : slice_get counts k ≡ Some count
  pub ran : HaveRun is known jobs [] share.own
  pub unreported : count.unreported ≡ num_unreported jobs

module _ (C : Type 0) {W : Type 0} (states : W → Bool) (does : W → List ℕ → Code → Type 0) (leads : W → Code → Type 0)
    (takes : W → List Streams → Type 0) where
  abbrev tells : Ready C → W → ℕ → ThreadEnd → List Happening → List Happening → Type 0
  tells ready pool number ended before after =
      OnOk ended.result (HaveRunAs (states pool) (does pool) (num_known ready.scopes) before after ended.unreported)

  abbrev led_tells : Ready C → W → ℕ → List Happening → List Happening → Type 0
  led_tells ready pool unreported before after =
      HasLedAs (states pool) (leads pool) (string_bytes ready.name) Short (num_known ready.scopes) before after unreported

  abbrev took : Ready C → W → List Happening → Type 0
  took ready pool told = takes pool (frames_in told)

  shown : (known : ℕ) (leader_name : List ℕ) (names : List (List ℕ)) (pool : W) (outcome : Outcome)
      → NamedTold tells led_tells took known leader_name names pool outcome → states pool ≡ true → outcome.failed ≡ None
      → ShowsPool (takes pool) known (leads pool) (does pool) leader_name outcome
  shown known leader_name names pool outcome told stated none = record {
    frames = frames_in a.taker.own;
    pending = t.pending;
    taken = a.taken;
    as_many = a.took.as_many;
    handed = t.handed ∙ a.handed ∙ a.took.handed;
    left = t.left;
    led = led;
    threads = all.0;
    leader = (refl, refl);
    counted = λ k jobs e. let d = all.2 k jobs e in (d.count, d.count_is, d.unreported);
    each =
        frames_show_jobs known (length t.shares) (leader_before (leads pool) (does pool))
        ((led ∷ []) ∷ all.0) (a.own ∷ a.rest) a.taker t.log t.pending did (ap suc (a.as_many ∙ sym all.1)) a.took.quiet
        (subst (λ (ms : List Member). Recounts (length t.shares) (accounts_of ms) t.log t.pending) a.shares_are t.recounts);
  }
    where
      t : HasTold tells led_tells took told.threads told.leader pool outcome
      t = told.told

      a : AreTold tells led_tells took told.threads told.leader pool outcome.failed outcome.threads.items outcome.leader
          outcome.frames t.shares
      a = t.are

      its : HasLedAs true (leads pool) (string_bytes told.leader.name) Short
          (num_known told.leader.scopes) [] a.own.own outcome.leader.unreported
      its = subst (λ (b : Bool). HasLedAs b (leads pool) (string_bytes told.leader.name) Short
          (num_known told.leader.scopes) [] a.own.own outcome.leader.unreported) stated a.led

      led : Job
      led = record { name = leader_name; code = its.0; unreported = outcome.leader.unreported }

      led_ran : HasRun leader_name Short known its.0 [] a.own.own outcome.leader.unreported
      led_ran = subst (λ (n : ℕ). HasRun leader_name Short n its.0 [] a.own.own outcome.leader.unreported) told.leader_named.1
          (subst (λ (x : List ℕ). HasRun x Short (num_known told.leader.scopes) its.0 [] a.own.own outcome.leader.unreported)
          told.leader_named.0 its.2)

      one : (k : ℕ) → k < length told.threads → (jobs : List Job) × Did (does pool) known outcome.threads.items a.rest k jobs
      one k below =
          let thread = there told.threads k below in
          let it = a.each k thread.0 thread.1 in
          let known_there = num_known thread.0.scopes in
          let ran = subst (λ (b : Bool). HaveRunAs b (does pool) known_there [] it.share.own it.ended.unreported) stated
          (well_so (HaveRunAs (states pool) (does pool) known_there [] it.share.own it.ended.unreported) it.ended.result
          (it.went_well none) it.told) in (
            ran.0,
            record {
              share = it.share;
              count = counts_after it.reported it.ended;
              share_is = it.share_is;
              count_is = it.count_is;
              ran = subst (λ (n : ℕ). HaveRun (does pool) n ran.0 [] it.share.own) (told.named k thread.0 thread.1).1 ran.1;
              unreported = ran.2;
            },
          )

      all : (threads : List (List Job)) × (length threads ≡ length told.threads)
          × ((k : ℕ) (jobs : List Job) → slice_get threads k ≡ Some jobs
          → Did (does pool) known outcome.threads.items a.rest k jobs)
      all = chosen (Did (does pool) known outcome.threads.items a.rest) (length told.threads) one

      did : EachDid (leader_before (leads pool) (does pool)) known ((led ∷ []) ∷ all.0) (a.own ∷ a.rest)
      did zero jobs e = let same : led ∷ [] ≡ jobs = cc in (
        a.own,
        refl,
        subst (λ (js : List Job). HaveRun (leader_before (leads pool) (does pool) 0) known js [] a.own.own) same
            (a.own.own, its.1, led_ran, refl),
      )
      did (suc k) jobs e = let d = all.2 k jobs e in (d.share, d.share_is, d.ran)

  shows : (known : ℕ) (leader_name : List ℕ) (names : List (List ℕ)) (pool : W) (outcome : Outcome)
      → NamedTold tells led_tells took known leader_name names pool outcome
      → PoolShows (states pool) (takes pool) known (leads pool) (does pool) leader_name outcome
  shows known leader_name names pool outcome told = by (states pool) refl
    where
      by : (b : Bool) → states pool ≡ b → PoolShows b (takes pool) known (leads pool) (does pool) leader_name outcome
      by false is = tt
      by true is = shown known leader_name names pool outcome told is

  pub pool_shows_if : {E : Type 0} (known : ℕ) (leader_name : List ℕ) (names : List (List ℕ)) (pool : W) (r : Result Outcome E)
      → IfOk r (λ outcome. NamedTold tells led_tells took known leader_name names pool outcome)
      → IfOk r (λ outcome. PoolShows (states pool) (takes pool) known (leads pool) (does pool) leader_name outcome)
  pool_shows_if known leader_name names pool (Ok outcome) told = shows known leader_name names pool outcome told
  pool_shows_if known leader_name names pool (Err e) told = tt
