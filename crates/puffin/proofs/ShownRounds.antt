-- What the frames of a program in rounds show, by what its threads told.
use Rattle.std.proofs.Common.{◌≡◌, ℕ, zero, suc, ◌<◌, Bool, true, false, List, []}
use Rattle.std.proofs.Common.{◌∷◌, Some, None, Result, Ok, Err, length, string_bytes, refl, ap, sym, subst, ◌∙◌, arith}
use Rattle.std.specs.Prelude.{slice_get, IfOk}
use Rattle.std.proofs.lemmas.Option.{slice_get_within}
use Rattle.puffin.specs.declared.light.outcome.Outcome.{Outcome}
use Rattle.puffin.specs.declared.light.outcome.ThreadCounts.{ThreadCounts}
use Rattle.puffin.specs.declared.light.ready.ThreadEnd.{ThreadEnd}
use Rattle.puffin.specs.declared.light.ready.Ready.{Ready}
use Rattle.puffin.specs.Code.{Code, AreRounds}
use Rattle.puffin.specs.Happenings.{Happening, frames_in, num_released}
use Rattle.puffin.specs.Joined.{counts_after, AreTold, HasTold}
use Rattle.puffin.specs.Leaving.{accounts_of}
use Rattle.puffin.specs.Members.{Member}
use Rattle.puffin.specs.Places.{num_known}
use Rattle.puffin.specs.Recounted.{Recounts}
use Rattle.puffin.specs.Rounds.{HasRunRounds, HasRunRoundsAs, HasLedRoundsAs, TakesInTurn, TakesTurns, in_round, ShowsRounds, RoundsShow}
use Rattle.puffin.specs.Shown.{NamedTold, RanEach, leader_first}
use Rattle.puffin.proofs.KeptSteps.{few_frames}
use Rattle.puffin.proofs.ShownCode.{frames_show, at_most_one}
use Rattle.puffin.proofs.ShownPools.{well_so}
use Rattle.puffin.proofs.ShownRuns.{there}
use Rattle.puffin.proofs.RoundFrames.{shows_then}

module _ (C : Type 0) {W : Type 0} (states : W → Bool) (runs : W → ℕ → ℕ → Code → Type 0)
    (leads : W → ℕ → Code → Type 0) (rounds threads : W → ℕ) where
  abbrev tells : Ready C → W → ℕ → ThreadEnd → List Happening → List Happening → Type 0
  tells ready program number ended before after =
      before ≡ [] → HasRunRoundsAs (states program) (runs program number) (rounds program) (string_bytes ready.name)
      (num_known ready.scopes) ended.result after ended.unreported

  abbrev led_tells : Ready C → W → ℕ → List Happening → List Happening → Type 0
  led_tells ready program unreported before after =
      before ≡ [] → HasLedRoundsAs (states program) (leads program) (rounds program) (string_bytes ready.name)
      (num_known ready.scopes) after unreported

  abbrev took : Ready C → W → List Happening → Type 0
  took ready program told = TakesTurns (threads program) (rounds program) told

  module _ (known : ℕ) (leader_name : List ℕ) (names : List (List ℕ))
      (program : W) (outcome : Outcome) (told : NamedTold tells led_tells took known leader_name names program outcome)
      (stated : states program ≡ true) (none : outcome.failed ≡ None) (as_many : threads program ≡ suc (length names)) where
    t : HasTold tells led_tells took told.threads told.leader program outcome
    t = told.told

    a : AreTold tells led_tells took told.threads told.leader program outcome.failed outcome.threads.items outcome.leader
        outcome.frames t.shares
    a = t.are

    abbrev is : ℕ → ℕ → Code → Type 0
    is = in_round (leads program) (runs program)

    abbrev its_names : List (List ℕ)
    its_names = leader_name ∷ names

    abbrev counts : List ThreadCounts
    counts = outcome.leader ∷ outcome.threads.items

    -- what each ran, and how much of it waits
    ran_of : (k : ℕ) (name : List ℕ) → slice_get its_names k ≡ Some name → (share : Member) × (count : ThreadCounts)
        × (slice_get (a.own ∷ a.rest) k ≡ Some share) × (slice_get counts k ≡ Some count)
        × HasRunRounds (is k) (rounds program) name known share.own count.unreported
    ran_of zero name at =
        let same : leader_name ≡ name = cc in
        let l = subst (λ (b : Bool). HasLedRoundsAs b (leads program) (rounds program) (string_bytes told.leader.name)
        (num_known told.leader.scopes) a.own.own outcome.leader.unreported) stated (a.led refl) in (
          a.own,
          outcome.leader,
          refl,
          refl,
          subst (λ (m : ℕ). HasRunRounds (leads program) (rounds program) name m a.own.own outcome.leader.unreported)
              told.leader_named.1
              (subst (λ (x : List ℕ). HasRunRounds (leads program) (rounds program) x
              (num_known told.leader.scopes) a.own.own outcome.leader.unreported) (told.leader_named.0 ∙ same) l),
        )
    ran_of (suc k) name at =
        let thread = there told.threads k (subst (λ (n : ℕ). k < n) (sym told.as_many) (slice_get_within names k name at)) in
        let it = a.each k thread.0 thread.1 in
        let named = told.named k thread.0 thread.1 in
        let its_name : string_bytes thread.0.name ≡ name =
        at_most_one (slice_get names k) (string_bytes thread.0.name) name named.0 at in
        let so = well_so (HasLedRoundsAs (states program) (runs program k) (rounds program) (string_bytes thread.0.name)
        (num_known thread.0.scopes) it.share.own it.ended.unreported) it.ended.result (it.went_well none) (it.told refl) in
        let l = subst (λ (b : Bool). HasLedRoundsAs b (runs program k) (rounds program) (string_bytes thread.0.name)
        (num_known thread.0.scopes) it.share.own it.ended.unreported) stated so in (
          it.share,
          counts_after it.reported it.ended,
          it.share_is,
          it.count_is,
          subst (λ (m : ℕ). HasRunRounds (runs program k) (rounds program) name m it.share.own it.ended.unreported) named.1
              (subst (λ (x : List ℕ). HasRunRounds (runs program k) (rounds program) x
              (num_known thread.0.scopes) it.share.own it.ended.unreported) its_name l),
        )

    all_ran : RanEach known (leader_first (AreRounds (rounds program) (leads program))
        (λ number. AreRounds (rounds program) (runs program number))) its_names (a.own ∷ a.rest) counts
    all_ran zero name at =
        let its = ran_of zero name at in
        record {
          share = its.0;
          count = its.1;
          code = its.4.code;
          share_is = its.2;
          count_is = its.3;
          right = its.4.are;
          ran = its.4.ran;
        }
    all_ran (suc k) name at =
        let its = ran_of (suc k) name at in
        record {
          share = its.0;
          count = its.1;
          code = its.4.code;
          share_is = its.2;
          count_is = its.3;
          right = its.4.are;
          ran = its.4.ran;
        }

    long : length (a.own ∷ a.rest) ≡ length its_names
    long = ap suc (a.as_many ∙ told.as_many)

    recounts : Recounts (length t.shares) (accounts_of (a.taker ∷ a.own ∷ a.rest)) t.log t.pending
    recounts = subst (λ (ms : List Member). Recounts (length t.shares) (accounts_of ms) t.log t.pending) a.shares_are t.recounts

    turns : TakesInTurn (length (a.own ∷ a.rest)) 0 0 0 a.taker.own
    turns = subst (λ (n : ℕ). TakesInTurn n 0 0 0 a.taker.own) (as_many ∙ sym long) a.taken.1

    pub shown : ShowsRounds known (rounds program) (leads program) (runs program) its_names outcome
    shown = record {
      whole = record {
        frames = frames_in a.taker.own;
        pending = t.pending;
        taken = tt;
        as_many = a.took.as_many;
        handed = t.handed ∙ a.handed ∙ a.took.handed;
        left = t.left;
        each = frames_show known (length t.shares)
            (leader_first (AreRounds (rounds program) (leads program)) (λ number. AreRounds (rounds program) (runs program number)))
            its_names (a.own ∷ a.rest) counts a.taker t.log t.pending all_ran long a.took.quiet recounts;
      };
      turns = num_released a.taker.own;
      within = a.taken.0;
      few = let f = few_frames (length (a.own ∷ a.rest)) 0 0 0 a.taker.own turns (omega arith) in omega (arith, f);
      each = λ full round below.
          shows_then known (rounds program) (length t.shares) is its_names (a.own ∷ a.rest) a.taker t.log t.pending
          (λ k name at. let p = ran_of k name at in (p.0, p.1.unreported, p.2, p.4)) long a.took.quiet turns recounts full round
          (omega (arith, full, below));
    }

  shows : (known : ℕ) (leader_name : List ℕ) (names : List (List ℕ)) (program : W) (outcome : Outcome)
      → threads program ≡ suc (length names)
      → NamedTold tells led_tells took known leader_name names program outcome
      → RoundsShow (states program) known (rounds program) (leads program) (runs program) (leader_name ∷ names) outcome
  shows known leader_name names program outcome as_many told = by (states program) refl
    where
      by : (b : Bool) → states program ≡ b → RoundsShow b known (rounds program) (leads program) (runs program)
          (leader_name ∷ names) outcome
      by false is = tt
      by true is = λ none. shown known leader_name names program outcome told is none as_many

  pub rounds_show_if : {E : Type 0} (known : ℕ) (leader_name : List ℕ) (names : List (List ℕ)) (program : W) (r : Result Outcome E)
      → threads program ≡ suc (length names)
      → IfOk r (λ outcome. NamedTold tells led_tells took known leader_name names program outcome)
      → IfOk r (λ outcome. RoundsShow (states program) known (rounds program) (leads program) (runs program)
      (leader_name ∷ names) outcome)
  rounds_show_if known leader_name names program (Ok outcome) as_many told =
      shows known leader_name names program outcome as_many told
  rounds_show_if known leader_name names program (Err e) as_many told = tt
