-- What code on a new thread reports, where the reporter tells of each accepted report, and what waits.
use Rattle.std.specs.Prelude.{◌≡◌, ℕ, ℤ, List, [], ◌∷◌, ◌++◌, ◌<◌, ◌^◌, ◌-◌, min, sum_by, length, map, Bool, true, false, Option, Result, OnOk}
use Rattle.puffin_data.specs.declared.error.Error.{Error}
use Rattle.puffin_data.specs.declared.data.form.Form.{Form}
use Rattle.puffin_data.specs.declared.data.form.Form.TheVariants.{Short}
use Rattle.puffin_data.specs.Forest.{Forest, append}
use Rattle.puffin_data.specs.Forest.Measures.{scope_count}
use Rattle.puffin_data.specs.Honesty.{StreamFacts}
use Rattle.puffin_threads.specs.Thread.ThreadKey.{ThreadKey}
use Rattle.puffin_threads.specs.Details.{Details}
use Rattle.puffin_scopes.specs.declared.guard_state.GuardState.{GuardState}
use Rattle.puffin.specs.declared.light.scopes.Place.{Place}
use Rattle.puffin.specs.Code.{Code, Runs, AreScopesOf}
use Rattle.puffin.specs.Happenings.{Happening, reported, unmarked}
use Rattle.puffin.specs.Recounted.{SpellInTurn}

-- `told` is what happened through a reporter's share: each accepted report is the last of it, and is no longer than memory; a
-- refused one doesn't change it.
pub record KeepsReports {R : Type 0}
    (accepts : R → ThreadKey → List Details → StreamFacts → R → Type 0)
    (refuses : R → ThreadKey → List Details → StreamFacts → Error → R → Type 0)
    (told : R → List Happening) : Type 0 where
  pub accepted : (old : R) (key : ThreadKey) (details : List Details) (report : StreamFacts) (new : R) →
      accepts old key details report new →
      (told new ≡ told old ++ reported key report ∷ []) × (length report.bytes < 2 ^ 64)
  pub refused : (old : R) (key : ThreadKey) (details : List Details) (report : StreamFacts) (error : Error)
      (new : R) →
      refuses old key details report error new → told new ≡ told old

-- each of these streams is no longer than memory
abbrev pub AllFit : List StreamFacts → Type 0
AllFit [] = Unit {0}
AllFit (report ∷ rest) = (length report.bytes < 2 ^ 64) × AllFit rest

-- Code ran on a new thread with this name and form, which knew so many places. `before` and `after` are what had happened through
-- its share. What came between, beside marks, are its accepted reports, all under one key. One after the other, and then with so
-- many scopes that wait, they are just the scopes of the code that began, in order.
pub record HasRun (name : List ℕ) (form : Form) (known : ℕ) (code : Code) (before after : List Happening)
    (waiting : ℕ) : Type 0 where
  pub start : Option ℤ
  pub streams : List StreamFacts
  pub told : unmarked after
      ≡ unmarked before ++ map (reported (record { start = start; name = name })) streams
  pub fit : AllFit streams
  pub shown : Forest
  pub waits : Forest
  pub spelled : SpellInTurn streams shown
  pub began : AreScopesOf known form code (append shown waits)
  pub counted : scope_count waits ≡ waiting

-- If this is stated, and nothing failed: code of which `holds` is true ran on a thread. `begins` and `ends` say what the thread's
-- calls do.
abbrev pub RunsAs : {T X E : Type 0} → Bool → (Code → Type 0) →
    (T → Place → List ℕ → GuardState → T → Type 0) → (T → ℕ → T → Type 0) →
    T → Result X E → T → Type 0
RunsAs false holds begins ends old result new = Unit {0}
RunsAs true holds begins ends old result new =
    OnOk result ((code : Code) × holds code × Runs begins ends code old new)

-- If this is stated, and nothing failed: code of which `holds` is true ran on a new thread, and told what `HasRun` says.
abbrev pub HasRunAs : {X E : Type 0} → Bool → (Code → Type 0) → (name : List ℕ) → Form → (known : ℕ) →
    Result X E → (before after : List Happening) → (waiting : ℕ) → Type 0
HasRunAs false holds name form known result before after waiting = Unit {0}
HasRunAs true holds name form known result before after waiting =
    OnOk result ((code : Code) × holds code × HasRun name form known code before after waiting)

-- If this is stated: code of which `holds` is true, and which can't fail, ran on a thread.
abbrev pub LeadsAs : {T : Type 0} → Bool → (Code → Type 0) →
    (T → Place → List ℕ → GuardState → T → Type 0) → (T → ℕ → T → Type 0) → T → T → Type 0
LeadsAs false holds begins ends old new = Unit {0}
LeadsAs true holds begins ends old new = (code : Code) × holds code × Runs begins ends code old new

-- If this is stated: code of which `holds` is true, and which can't fail, ran on a new thread, and told what `HasRun` says.
abbrev pub HasLedAs : Bool → (Code → Type 0) → (name : List ℕ) → Form → (known : ℕ) →
    (before after : List Happening) → (waiting : ℕ) → Type 0
HasLedAs false holds name form known before after waiting = Unit {0}
HasLedAs true holds name form known before after waiting =
    (code : Code) × holds code × HasRun name form known code before after waiting

-- ---- jobs

-- a job that a thread did: the name under which it was recorded, its code, and how many of its scopes closed and weren't reported
pub record Job : Type 0 where
  pub name : List ℕ
  pub code : Code
  pub unreported : ℕ

-- Jobs ran one after the other on a thread that knew so many places, each under its own name. `holds` is true of the name and the
-- code of each.
abbrev pub HaveRun : (holds : List ℕ → Code → Type 0) → (known : ℕ) → List Job → (before after : List Happening) → Type 0
HaveRun holds known [] before after = after ≡ before
HaveRun holds known (job ∷ jobs) before after = (mid : List Happening)
    × holds job.name job.code
    × HasRun job.name Short known job.code before mid job.unreported
    × HaveRun holds known jobs mid after

-- the number of unreported scopes of jobs, or the largest `u64` if there are more
abbrev pub num_unreported : List Job → ℕ
num_unreported jobs = min (sum_by (λ job. job.unreported) jobs) (2 ^ 64 - 1)

-- If this is stated: such jobs ran on a thread, and so many of their scopes weren't reported.
abbrev pub HaveRunAs : Bool → (List ℕ → Code → Type 0) → (known : ℕ) → (before after : List Happening) →
    (unreported : ℕ) → Type 0
HaveRunAs false holds known before after unreported = Unit {0}
HaveRunAs true holds known before after unreported = (jobs : List Job)
    × HaveRun holds known jobs before after
    × (unreported ≡ num_unreported jobs)

-- there is a job that may have this name and run this code
abbrev pub Named : {J : Type 0} → (J → List ℕ → Type 0) → (J → Code → Type 0) → List ℕ → Code → Type 0
Named {J} names runs name code = (job : J) × names job name × runs job code
