-- What a walk's caller is told, from how the walk went.
use Rattle.std.proofs.Common.{◌≡◌, ℕ, ◌-◌, ◌<◌, ◌≤◌, ◌^◌, List, [], length, drop, get_or, sym, ap, subst, ◌∙◌, arith, Result, Ok, Err, ◌⊎◌, inl, inr, cond, eqb}
use Rattle.std.specs.Prelude.{MatchResult, IfOk, IfErr}
use Rattle.std.proofs.lemmas.Int.{ints}
use Rattle.std.proofs.lemmas.Bool.{cases_lt}
use Rattle.std.proofs.lemmas.List.{get_or-take, get_or-drop}
use Rattle.puffin_data.specs.declared.data.form.Form.{Form}
use Rattle.puffin_data.specs.declared.error.Error.{Error}
use Rattle.puffin_data.specs.declared.error.Error.TheVariants.{Memory}
use Rattle.puffin_data.specs.declared.data.walk.Walk.{Walk}
use Rattle.puffin_data.specs.Forest.{Forest}
use Rattle.puffin_data.specs.Forest.Measures.{least_start, greatest_stop}
use Rattle.puffin_data.specs.Walk.{region, IsFaultAt, Refuses}
use Rattle.puffin_data.specs.inner.Walking.{tries_in, no_scope_counted, WalksAll, StopsShort}
use Rattle.puffin_data.specs.Forest.Spelling.{Spells}
use Rattle.puffin_data.specs.Honesty.{Counts}
use Rattle.puffin_data.proofs.lemmas.Numbers.{IsBytes}
use Rattle.puffin_data.proofs.lemmas.ForestRanges.{least_in_range, greatest_in_range, from_most, from_least}
use Rattle.puffin_data.proofs.Regions.{whole_region, empty_region, nothing_is_no_fault, between}
use Rattle.puffin_data.proofs.Completes.{completed, tallied, tallies}
use Rattle.puffin_data.proofs.FirstFaults.{stopped_at}
use Rattle.puffin_data.proofs.lemmas.Unique.{faultless, same_forest}

-- a walk's numbers after a forest are its measures
counts : (forest : Forest) → Counts (tallied 0 no_scope_counted forest) forest
counts forest =
    let told =
    tallies 0 no_scope_counted forest (record { depth = omega arith; start = omega (arith, ints); stop = omega (arith, ints) }) in
    record {
      num_scopes = told.num_scopes ∙ omega arith;
      depth = told.depth ∙ omega arith;
      least_start = told.start ∙ from_most (least_start forest) (least_in_range forest);
      greatest_stop = told.stop ∙ from_least (greatest_stop forest) (greatest_in_range forest);
    }

-- a walk that came to the end has gone over a forest
pub told_forest : (form : Form) (bytes : List ℕ) (tries : ℕ) (walk : Walk) → IsBytes bytes → WalksAll form bytes tries walk
    → (forest : Forest) × Spells form bytes forest × Counts walk forest
told_forest form bytes tries walk fits walked =
    let done = completed form bytes 0 no_scope_counted walk 0 (length bytes) fits (omega arith) (omega arith) walked.0 in (
      done.forest,
      record { whole = sym (whole_region bytes) ∙ done.spelled; fits = done.fits },
      subst (λ (any : Walk). Counts any done.forest) (sym done.numbers) (counts done.forest),
    )

-- a fault is at a byte of its region
pub fault_inside : (form : Form) (bytes : List ℕ) (place end : ℕ) (fault : Error) → place ≤ end → IsFaultAt form bytes place end fault
    → place < end
fault_inside form bytes place end fault ordered at =
    elim (cases_lt place end) [
      | inl lt ↦ lt
      | inr le ↦ let same : place ≡ end =
          omega arith in absurd (nothing_is_no_fault form (region bytes place end) fault
          (subst (λ (any : ℕ). region bytes place any ≡ []) same (empty_region bytes place)) at)
    ]

-- whether a place counts as a try is told by its byte
pub tries_at : (bytes : List ℕ) (place end : ℕ) → place < end
    → tries_in (region bytes place end) ≡ cond {A = ℕ} (eqb (get_or bytes place 0) 40) 1 0
tries_at bytes place end inside =
    let same : get_or (region bytes place end) 0 0 ≡ get_or bytes place 0 =
    get_or-take (end - place) (drop place bytes) 0 0 (omega (arith, inside))
    ∙ get_or-drop place bytes 0 0
    ∙ ap (λ (any : ℕ). get_or bytes any 0) (omega arith) in
    ap (λ (byte : ℕ). cond (eqb byte 40) 1 0) same

-- a walk that stopped met the first fault, or memory ran out
pub told_fault : (form : Form) (bytes : List ℕ) (tries : ℕ) (fault : Error) → IsBytes bytes → StopsShort form bytes tries fault
    → (fault ≡ Memory) ⊎ Refuses form bytes fault tries
told_fault form bytes tries fault fits (inl memory) = inl memory
told_fault form bytes tries fault fits (inr (place, walks)) =
    let stop = stopped_at form bytes 0 no_scope_counted 0 (length bytes) _ fits (omega arith) (omega arith) walks in
    let lies = between form bytes 0 (length bytes) place stop.end (omega arith) (omega arith) stop.reached in
    let inside = fault_inside form bytes place stop.end fault lies.middle stop.stands in
    inr (record {
      place = place;
      first = record { end = stop.end; reached = stop.reached; stands = stop.stands; least = stop.least };
      sounds = stop.places;
      are_sounds = stop.sounds;
      number = omega (arith, stop.tries, tries_at bytes place stop.end inside);
    })

-- where the bytes spell a forest, the walk doesn't stop at a fault
pub told_only : (form : Form) (bytes : List ℕ) (tries : ℕ) (result : Result Walk Error) → IsBytes bytes → length bytes < 2 ^ 64
    → MatchResult result (WalksAll form bytes tries) (StopsShort form bytes tries) → (forest : Forest) → Spells form bytes forest
    → MatchResult result (λ walk. Counts walk forest) (λ cause. cause ≡ Memory)
told_only form bytes tries (Ok walk) fits small walked forest spells =
    let told = told_forest form bytes tries walk fits walked in
    subst (λ (any : Forest). Counts walk any)
    (same_forest form told.0 forest told.1.fits spells.fits (omega (arith, ap length told.1.whole)) (sym told.1.whole ∙ spells.whole))
    told.2
told_only form bytes tries (Err cause) fits small (inl memory) forest spells = memory
told_only form bytes tries (Err cause) fits small (inr (place, walks)) forest spells =
    let stop = stopped_at form bytes 0 no_scope_counted 0 (length bytes) _ fits (omega arith) (omega arith) walks in
    absurd (faultless form forest bytes 0 (length bytes) place stop.end cause spells.fits (omega arith) (omega arith) small
    (whole_region bytes ∙ spells.whole) stop.reached stop.stands)

-- ---- the same for what the walk of some bytes gave, at bytes that are equal to these

abbrev pub IsWalkResult : (form : Form) → List ℕ → ℕ → Result Walk Error → Type 0
IsWalkResult form bytes tries result = MatchResult result (WalksAll form bytes tries) (StopsShort form bytes tries)

pub forest_of_result : (form : Form) (bytes stream : List ℕ) (tries : ℕ) (result : Result Walk Error) → bytes ≡ stream → IsBytes bytes
    → IsWalkResult form bytes tries result → IfOk result (λ walk. (forest : Forest) × Spells form stream forest × Counts walk forest)
forest_of_result form bytes stream tries (Ok walk) same fits gave =
    subst (λ (any : List ℕ). (forest : Forest) × Spells form any forest × Counts walk forest) same
    (told_forest form bytes tries walk fits gave)
forest_of_result form bytes stream tries (Err cause) same fits gave = tt

pub fault_of_result : (form : Form) (bytes stream : List ℕ) (tries : ℕ) (result : Result Walk Error) → bytes ≡ stream → IsBytes bytes
    → IsWalkResult form bytes tries result → IfErr result (λ cause. (cause ≡ Memory) ⊎ Refuses form stream cause tries)
fault_of_result form bytes stream tries (Ok walk) same fits gave = tt
fault_of_result form bytes stream tries (Err cause) same fits gave =
    subst (λ (any : List ℕ). (cause ≡ Memory) ⊎ Refuses form any cause tries) same (told_fault form bytes tries cause fits gave)

pub only_of_result : (form : Form) (bytes stream : List ℕ) (tries : ℕ) (result : Result Walk Error) → bytes ≡ stream → IsBytes bytes
    → length bytes < 2 ^ 64 → IsWalkResult form bytes tries result → (forest : Forest) → Spells form stream forest
    → MatchResult result (λ walk. Counts walk forest) (λ cause. cause ≡ Memory)
only_of_result form bytes stream tries result same fits small gave forest spells =
    told_only form bytes tries result fits small gave forest (subst (λ (any : List ℕ). Spells form any forest) (sym same) spells)
