-- Jobs that run one after the other on a thread.
use Rattle.std.proofs.Common.{◌≡◌, ◌⊎◌, ℕ, ℤ, ◌+◌, ◌-◌, ◌^◌, Bool, true, false, List, [], ◌∷◌, ◌++◌}
use Rattle.std.proofs.Common.{Option, Some, None, Result, Ok, Err, inl, inr, refl, ap, subst, ◌∙◌, arith}
use Rattle.std.specs.Prelude.{min, IsOk, OnOk}
use Rattle.std.proofs.lemmas.List.Sums.{sum_by_push}
use Rattle.puffin_data.specs.declared.data.form.Form.TheVariants.{Short}
use Rattle.puffin_data.specs.declared.error.Error.{Error as Failure}
use Rattle.puffin_data.specs.Honesty.{StreamFacts}
use Rattle.puffin_threads.specs.Thread.ThreadKey.{ThreadKey}
use Rattle.puffin_threads.specs.Details.{Details}
use Rattle.puffin_scopes.specs.Guards.Guard.{offset_in}
use Rattle.puffin.specs.declared.light.thread.Thread.{Thread}
use Rattle.puffin.specs.LightThread.{scopes_of}
use Rattle.puffin.specs.Guards.{MakesRoom, BeginsAt, EndsIn, Leaves}
use Rattle.puffin.specs.Code.{Code, nothing, scope, Runs}
use Rattle.puffin.specs.Happenings.{Happening}
use Rattle.puffin.specs.Telling.{HasRun, HasRunAs, RunsAs, Job, HaveRun, HaveRunAs, num_unreported}

-- one job more
more_run : (is : List ℕ → Code → Type 0) (known : ℕ) (jobs : List Job) (job : Job) (before mid after : List Happening)
    → HaveRun is known jobs before mid → is job.name job.code → HasRun job.name Short known job.code mid after job.unreported
    → HaveRun is known (jobs ++ job ∷ []) before after
more_run is known [] job before mid after ran it more =
    (after, it, subst (λ (hs : List Happening). HasRun job.name Short known job.code hs after job.unreported) ran more, refl)
more_run is known (first ∷ jobs) job before mid after (next, its, ran, rest) it more =
    (next, its, ran, more_run is known jobs job next mid after rest it more)

-- the unreported scopes of one job more
more_unreported : (jobs : List Job) (job : Job) (before after : ℕ) → before ≡ num_unreported jobs
    → after ≡ min (before + job.unreported) (2 ^ 64 - 1) → after ≡ num_unreported (jobs ++ job ∷ [])
more_unreported jobs job before after was is = let sum = sum_by_push (λ (j : Job). j.unreported) jobs job in
    omega (arith, was, is, sum)

module _ (is : List ℕ → Code → Type 0) (known : ℕ) where
  pub none_run : (states : Bool) (before : List Happening) → HaveRunAs states is known before before 0
  none_run false before = tt
  none_run true before = ([], refl, refl)

  -- a job ran after the others, and didn't fail
  pub job_run : {X E : Type 0} (states : Bool) (name : List ℕ) (its : Code → Type 0) (r : Result X E)
      (k : ℕ) (before mid after : List Happening) (unreported own sum : ℕ) → ((code : Code) → its code → is name code)
      → IsOk r → (states ≡ true → k ≡ known)
      → HaveRunAs states is known before mid unreported → HasRunAs states its name Short k r mid after own
      → sum ≡ min (unreported + own) (2 ^ 64 - 1)
      → HaveRunAs states is known before after sum
  job_run false name its r k before mid after unreported own sum may well same ran more total = tt
  job_run true name its (Err e) k before mid after unreported own sum may well same ran more total = absurd cc
  job_run true name its (Ok x) k before mid after unreported own sum may well same (jobs, ran, counted) (code, it, run) total =
      let job : Job = record { name = name; code = code; unreported = own } in (
        jobs ++ job ∷ [],
        more_run is known jobs job before mid after ran (may code it)
            (subst (λ (n : ℕ). HasRun name Short n code mid after own) (same refl) run),
        more_unreported jobs job unreported sum counted total,
      )

-- what is so, is so unless the work failed
pub unless_failed : {X E P : Type 0} (r : Result X E) → P → OnOk r P
unless_failed (Ok x) so = so
unless_failed (Err e) so = tt

-- code leaves a thread the scopes that it knows
module _ {C R : Type 0} (answers : C → ℤ → C → Type 0)
    (accepts : R → ThreadKey → List Details → StreamFacts → R → Type 0)
    (refuses : R → ThreadKey → List Details → StreamFacts → Failure → R → Type 0) where
  room_stays : (old new : Thread C R) → (new ≡ old) ⊎ MakesRoom accepts refuses old new → scopes_of new ≡ scopes_of old
  room_stays old new (inl same) = ap scopes_of same
  room_stays old new (inr room) = room.scopes

  leaving_stays : (offset : Option ℕ) (old new : Thread C R) → Leaves (EndsIn answers accepts refuses) offset old new
      → scopes_of new ≡ scopes_of old
  leaving_stays None old new left = ap scopes_of left
  leaving_stays (Some offset) old new left = left.scopes

  stays : (code : Code) (old new : Thread C R)
      → Runs (BeginsAt answers accepts refuses) (EndsIn answers accepts refuses) code old new → scopes_of new ≡ scopes_of old
  stays nothing old new ran = ap scopes_of ran
  stays (scope place text within after) old new (state, begun, left, ended, (ready, room, begins), inner, leaves, later) =
      stays after ended new later ∙ leaving_stays (offset_in state) left ended leaves ∙ stays within begun left inner
      ∙ begins.scopes ∙ room_stays old ready room

  pub scopes_stay : {X E : Type 0} (states : Bool) (is : Code → Type 0) (old new : Thread C R) (r : Result X E) → IsOk r
      → RunsAs states is (BeginsAt answers accepts refuses) (EndsIn answers accepts refuses) old r new → states ≡ true
      → scopes_of new ≡ scopes_of old
  scopes_stay false is old new r well ran stated = absurd cc
  scopes_stay true is old new (Ok x) well ran stated = stays ran.0 old new ran.2
  scopes_stay true is old new (Err e) well ran stated = absurd cc
