-- What a run shows, by what its threads told.
use Rattle.std.proofs.Common.{◌≡◌, ℕ, zero, suc, ◌<◌, Bool, true, false, List, [], ◌∷◌, Option, Some, None, Result, Ok}
use Rattle.std.proofs.Common.{Err, length, string_bytes, refl, sym, ap, subst, ◌∙◌, arith}
use Rattle.std.specs.Prelude.{slice_get, IsOk, IfOk}
use Rattle.std.proofs.lemmas.Option.{slice_get_within}
use Rattle.puffin_data.specs.declared.data.form.Form.TheVariants.{Short}
use Rattle.puffin.specs.declared.light.outcome.Failed.{Failed}
use Rattle.puffin.specs.declared.light.outcome.Outcome.{Outcome}
use Rattle.puffin.specs.declared.light.outcome.ThreadCounts.{ThreadCounts}
use Rattle.puffin.specs.declared.light.ready.ThreadEnd.{ThreadEnd}
use Rattle.puffin.specs.declared.light.ready.Ready.{Ready}
use Rattle.puffin.specs.Code.{Code}
use Rattle.puffin.specs.Happenings.{Happening, frames_in}
use Rattle.puffin.specs.Leaving.{accounts_of}
use Rattle.puffin.specs.Members.{Member}
use Rattle.puffin.specs.Places.{num_known}
use Rattle.puffin.specs.Recounted.{Recounts}
use Rattle.puffin.specs.Telling.{HasRun, HasRunAs, HasLedAs}
use Rattle.puffin.specs.Joined.{counts_after, EachTells, HasTold}
use Rattle.puffin_frames.specs.Frame.Contents.{Streams}
use Rattle.puffin.specs.Shown.{AreNamed, NamedTold, RanEach, ShowsProgram, Shows, leader_first}
use Rattle.puffin.proofs.ShownCode.{frames_show, at_most_one}

pub there : {A : Type 0} (xs : List A) (k : ℕ) → k < length xs → (x : A) × (slice_get xs k ≡ Some x)
there [] k below = absurd (omega arith)
there (x ∷ xs) zero below = (x, refl)
there (x ∷ xs) (suc k) below = there xs k (omega arith)

-- what a thread ran that didn't fail
ran_well : {X E : Type 0} (is : Code → Type 0) (name : List ℕ) (known : ℕ) (result : Result X E) (after : List Happening)
    (waiting : ℕ) → IsOk result → HasRunAs true is name Short known result [] after waiting
    → (code : Code) × is code × HasRun name Short known code [] after waiting
ran_well is name known (Ok x) after waiting well ran = ran
ran_well is name known (Err e) after waiting well ran = absurd cc

module _ (C : Type 0) {W : Type 0} (states : W → Bool) (runs : W → ℕ → Code → Type 0) (leads : W → Code → Type 0)
    (takes : W → List Streams → Type 0) where
  abbrev tells : Ready C → W → ℕ → ThreadEnd → List Happening → List Happening → Type 0
  tells ready program number ended before after =
      HasRunAs (states program) (runs program number) (string_bytes ready.name) Short
      (num_known ready.scopes) ended.result before after ended.unreported

  abbrev led_tells : Ready C → W → ℕ → List Happening → List Happening → Type 0
  led_tells ready program unreported before after =
      HasLedAs (states program) (leads program) (string_bytes ready.name) Short (num_known ready.scopes) before after unreported

  abbrev took : Ready C → W → List Happening → Type 0
  took ready program told = takes program (frames_in told)

  ran_each : (known : ℕ) (names : List (List ℕ)) (threads : List (Ready C)) (program : W) (failed : Option Failed)
      (counts : List ThreadCounts) (shares : List Member) → states program ≡ true → failed ≡ None
      → length threads ≡ length names → AreNamed known names threads
      → EachTells tells threads program failed counts shares → RanEach known (runs program) names shares counts
  ran_each known names threads program failed counts shares stated none same named each k name at =
      let t = there threads k (subst (λ (n : ℕ). k < n) (sym same) (slice_get_within names k name at)) in
      let told = each k t.0 t.1 in
      let its = named k t.0 t.1 in
      let its_name : string_bytes t.0.name ≡ name = at_most_one (slice_get names k) (string_bytes t.0.name) name its.0 at in
      let ran = ran_well (runs program k) (string_bytes t.0.name)
      (num_known t.0.scopes) told.ended.result told.share.own told.ended.unreported (told.went_well none)
      (subst (λ (b : Bool). HasRunAs b (runs program k) (string_bytes t.0.name) Short
      (num_known t.0.scopes) told.ended.result [] told.share.own told.ended.unreported) stated told.told) in
      record {
        share = told.share;
        count = counts_after told.reported told.ended;
        code = ran.0;
        share_is = told.share_is;
        count_is = told.count_is;
        right = ran.1;
        ran = subst (λ (n : ℕ). HasRun name Short n ran.0 [] told.share.own told.ended.unreported) its.1
            (subst (λ (x : List ℕ). HasRun x Short (num_known t.0.scopes) ran.0 [] told.share.own told.ended.unreported)
            its_name ran.2);
      }

  -- the leader and the threads
  ran_all : (known : ℕ) (names : List (List ℕ)) (leader_name : List ℕ) (leader : Ready C) (program : W) (counts : List ThreadCounts)
      (led : ThreadCounts) (own : Member) (shares : List Member) → states program ≡ true
      → string_bytes leader.name ≡ leader_name → num_known leader.scopes ≡ known
      → led_tells leader program led.unreported [] own.own → RanEach known (runs program) names shares counts
      → RanEach known (leader_first (leads program) (runs program)) (leader_name ∷ names) (own ∷ shares) (led ∷ counts)
  ran_all known names leader_name leader program counts led own shares stated its_name its_known told each zero name at =
      let l = subst (λ (b : Bool). HasLedAs b (leads program) (string_bytes leader.name) Short
      (num_known leader.scopes) [] own.own led.unreported) stated told in
      let same : leader_name ≡ name = cc in
      record {
        share = own;
        count = led;
        code = l.0;
        share_is = refl;
        count_is = refl;
        right = l.1;
        ran = subst (λ (n : ℕ). HasRun name Short n l.0 [] own.own led.unreported) its_known
            (subst (λ (x : List ℕ). HasRun x Short (num_known leader.scopes) l.0 [] own.own led.unreported) (its_name ∙ same) l.2);
      }
  ran_all known names leader_name leader program counts led own shares stated its_name its_known told each (suc k) name at =
      let its = each k name at in
      record {
        share = its.share;
        count = its.count;
        code = its.code;
        share_is = its.share_is;
        count_is = its.count_is;
        right = its.right;
        ran = its.ran;
      }

  shown : (known : ℕ) (leader_name : List ℕ) (names : List (List ℕ)) (program : W) (outcome : Outcome)
      → NamedTold tells led_tells took known leader_name names program outcome → states program ≡ true → outcome.failed ≡ None
      → ShowsProgram (takes program) known (leader_first (leads program) (runs program)) (leader_name ∷ names) outcome
  shown known leader_name names program outcome told stated none =
      let t = told.told in
      let a = t.are in
      let is = leader_first (leads program) (runs program) in
      let counts = outcome.leader ∷ outcome.threads.items in
      let ran = ran_all known names leader_name told.leader program outcome.threads.items outcome.leader a.own a.rest stated
      told.leader_named.0 told.leader_named.1 a.led
      (ran_each known names told.threads program outcome.failed outcome.threads.items a.rest stated none told.as_many
      told.named a.each) in
      record {
        frames = frames_in a.taker.own;
        pending = t.pending;
        taken = a.taken;
        as_many = a.took.as_many;
        handed = t.handed ∙ a.handed ∙ a.took.handed;
        left = t.left;
        each =
            frames_show known (length t.shares) is (leader_name ∷ names) (a.own ∷ a.rest) counts a.taker t.log t.pending ran
            (ap suc (a.as_many ∙ told.as_many)) a.took.quiet
            (subst (λ (ms : List Member). Recounts (length t.shares) (accounts_of ms) t.log t.pending) a.shares_are t.recounts);
      }

  shows : (known : ℕ) (leader_name : List ℕ) (names : List (List ℕ)) (program : W) (outcome : Outcome)
      → NamedTold tells led_tells took known leader_name names program outcome
      → Shows (states program) (takes program) known (leader_first (leads program) (runs program)) (leader_name ∷ names) outcome
  shows known leader_name names program outcome told = by (states program) refl
    where
      by : (b : Bool) → states program ≡ b → Shows b (takes program) known (leader_first (leads program) (runs program))
          (leader_name ∷ names) outcome
      by false is = tt
      by true is = shown known leader_name names program outcome told is

  pub shows_if : {E : Type 0} (known : ℕ) (leader_name : List ℕ) (names : List (List ℕ)) (program : W) (r : Result Outcome E)
      → IfOk r (λ outcome. NamedTold tells led_tells took known leader_name names program outcome)
      → IfOk r (λ outcome. Shows (states program) (takes program) known (leader_first (leads program) (runs program))
      (leader_name ∷ names) outcome)
  shows_if known leader_name names program (Ok outcome) told = shows known leader_name names program outcome told
  shows_if known leader_name names program (Err e) told = tt

-- the names of threads that told
pub named_told : {C W E : Type 0} (tells : Ready C → W → ℕ → ThreadEnd → List Happening → List Happening → Type 0)
    (leads : Ready C → W → ℕ → List Happening → List Happening → Type 0) (takes : Ready C → W → List Happening → Type 0)
    (known : ℕ) (leader_name : List ℕ) (names : List (List ℕ)) (program : W) (threads : List (Ready C)) (leader : Ready C)
    (r : Result Outcome E)
    → length threads ≡ length names → AreNamed known names threads → (string_bytes leader.name ≡ leader_name)
    × (num_known leader.scopes ≡ known)
    → IfOk r (λ outcome. HasTold tells leads takes threads leader program outcome)
    → IfOk r (λ outcome. NamedTold tells leads takes known leader_name names program outcome)
named_told tells leads takes known leader_name names program threads leader (Ok outcome) same named its told =
    record { threads = threads; leader = leader; as_many = same; named = named; leader_named = its; told = told }
named_told tells leads takes known leader_name names program threads leader (Err e) same named its told = tt
