-- The measures of two forests one after the other.
use Rattle.std.proofs.Common.{◌≡◌, ◌≢◌, ℕ, ◌+◌, Bool, true, false, cond, eqb, List, ◌++◌, length, inl, inr, max, refl, sym, ap, subst, ◌∙◌, arith, ℤ}
use Rattle.std.specs.Int.{int_min, int_max}
use Rattle.std.proofs.lemmas.Bool.{cases_eq, eqb-true}
use Rattle.std.proofs.lemmas.Int.{ints, clamps}
use Rattle.puffin_data.specs.declared.data.form.Form.{Form}
use Rattle.puffin_data.specs.declared.data.form.Form.TheVariants.{Short, Long}
use Rattle.puffin_data.specs.Forest.{Forest, IsForest, empty, node, append}
use Rattle.puffin_data.specs.Forest.Measures.{scope_count, height, least_start, greatest_stop}
use Rattle.puffin_data.specs.Forest.Spelling.{spelling, Spells}
use Rattle.puffin_data.specs.Honesty.{StreamFacts, AreHonestFacts, AreUnlike, joined_form, joined_facts}
use Rattle.puffin_data.proofs.lemmas.Unique.{spelling-append, long}
use Rattle.puffin_data.proofs.lemmas.ForestRanges.{least_in_range, greatest_in_range, from_most, from_least}

pub scope_count-append : (first second : Forest) → scope_count (append first second) ≡ scope_count first + scope_count second
scope_count-append empty second = omega arith
scope_count-append (node span children others) second = omega (arith, scope_count-append others second)

pub height-append : (first second : Forest) → height (append first second) ≡ max (height first) (height second)
height-append empty second = omega arith
height-append (node span children others) second = omega (arith, height-append others second)

least_assoc : (own inner later second : ℤ)
    → int_min own (int_min inner (int_min later second)) ≡ int_min (int_min own (int_min inner later)) second
least_assoc own inner later second = omega (arith, ints, clamps)

greatest_assoc : (own inner later second : ℤ)
    → int_max own (int_max inner (int_max later second)) ≡ int_max (int_max own (int_max inner later)) second
greatest_assoc own inner later second = omega (arith, ints, clamps)

pub least_start-append : (first second : Forest) → least_start (append first second) ≡ int_min (least_start first) (least_start second)
least_start-append empty second = sym (from_most (least_start second) (least_in_range second))
least_start-append (node span children others) second =
    ap (λ (any : ℤ). int_min span.start (int_min (least_start children) any)) (least_start-append others second)
    ∙ least_assoc span.start (least_start children) (least_start others) (least_start second)

pub greatest_stop-append : (first second : Forest)
    → greatest_stop (append first second) ≡ int_max (greatest_stop first) (greatest_stop second)
greatest_stop-append empty second = sym (from_least (greatest_stop second) (greatest_in_range second))
greatest_stop-append (node span children others) second =
    ap (λ (any : ℤ). int_max span.stop (int_max (greatest_stop children) any)) (greatest_stop-append others second)
    ∙ greatest_assoc span.stop (greatest_stop children) (greatest_stop others) (greatest_stop second)

pub IsForest-append : (form : Form) (first second : Forest) → IsForest form first → IsForest form second
    → IsForest form (append first second)
IsForest-append form empty second fits second_fits = second_fits
IsForest-append form (node span children others) second fits second_fits =
    (fits.0, fits.1, IsForest-append form others second fits.2 second_fits)

-- no scope has one spelling in all forms
respelled : (form other_form : Form) (forest : Forest) (bytes : List ℕ) → length bytes ≡ 0 → Spells form bytes forest
    → Spells other_form bytes forest
respelled form other_form empty bytes none spells = record { whole = spells.whole; fits = tt }
respelled form other_form (node span children others) bytes none spells =
    absurd (omega (arith, none, ap length spells.whole, long form span (spelling form children) (spelling form others)))

same_form : (form other_form : Form) → (form ≢ other_form → ⊥) → form ≡ other_form
same_form Short Short not_apart = refl
same_form Short Long not_apart = absurd (not_apart (λ same. cc))
same_form Long Short not_apart = absurd (not_apart (λ same. cc))
same_form Long Long not_apart = refl

on_one_form : (first second : StreamFacts) (first_forest second_forest : Forest) (none : Bool) → eqb (length first.bytes) 0 ≡ none
    → (AreUnlike first second → ⊥) → Spells first.form first.bytes first_forest → Spells second.form second.bytes second_forest
    → Spells (cond none second.form first.form) first.bytes first_forest
    × Spells (cond none second.form first.form) second.bytes second_forest
on_one_form first second first_forest second_forest true is not_unlike first_spells second_spells =
    (respelled first.form second.form first_forest first.bytes (eqb-true _ _ is) first_spells, second_spells)
on_one_form first second first_forest second_forest false is not_unlike first_spells second_spells = (
  first_spells,
  elim (cases_eq (length second.bytes) 0) [
    | inl none ↦ respelled second.form first.form second_forest second.bytes none second_spells
    | inr some ↦ subst (λ (form : Form). Spells form second.bytes second_forest)
        (sym (same_form first.form second.form (λ apart. not_unlike (grind arith, omega (arith, some), apart)))) second_spells
  ],
)

-- two honest infos make an honest one
pub honest_joined : (first second : StreamFacts) (first_forest second_forest : Forest) → (AreUnlike first second → ⊥)
    → AreHonestFacts first first_forest → AreHonestFacts second second_forest
    → AreHonestFacts (joined_facts first second) (append first_forest second_forest)
honest_joined first second first_forest second_forest not_unlike of_first of_second =
    let form = joined_form first second in
    let both =
    on_one_form first second first_forest second_forest (eqb (length first.bytes) 0) refl not_unlike of_first.stream
    of_second.stream in
    record {
      stream = record {
        whole =
            ap (λ (any : List ℕ). any ++ second.bytes) both.0.whole
            ∙ ap (λ (any : List ℕ). spelling form first_forest ++ any) both.1.whole
            ∙ sym (spelling-append form first_forest second_forest);
        fits = IsForest-append form first_forest second_forest both.0.fits both.1.fits;
      };
      counts = record {
        num_scopes = omega (arith, of_first.counts.num_scopes, of_second.counts.num_scopes, scope_count-append first_forest second_forest);
        depth = omega (arith, of_first.counts.depth, of_second.counts.depth, height-append first_forest second_forest);
        least_start =
            ap (λ (any : ℤ). int_min any second.range_ns.0) of_first.counts.least_start
            ∙ ap (λ (any : ℤ). int_min (least_start first_forest) any) of_second.counts.least_start
            ∙ sym (least_start-append first_forest second_forest);
        greatest_stop =
            ap (λ (any : ℤ). int_max any second.range_ns.1) of_first.counts.greatest_stop
            ∙ ap (λ (any : ℤ). int_max (greatest_stop first_forest) any) of_second.counts.greatest_stop
            ∙ sym (greatest_stop-append first_forest second_forest);
      };
    }

-- an info that was extended field by field
pub extended : (info first second : StreamFacts) (first_forest second_forest : Forest) → info.form ≡ joined_form first second
    → (AreUnlike first second → ⊥) → info.bytes ≡ first.bytes ++ second.bytes → info.num_scopes ≡ first.num_scopes + second.num_scopes
    → info.depth ≡ max first.depth second.depth → info.range_ns.0 ≡ int_min first.range_ns.0 second.range_ns.0
    → info.range_ns.1 ≡ int_max first.range_ns.1 second.range_ns.1
    → AreHonestFacts first first_forest → AreHonestFacts second second_forest → AreHonestFacts info (append first_forest second_forest)
extended info first second first_forest second_forest form_is not_unlike bytes_are num_is depth_is start_is stop_is of_first of_second =
    let joined = honest_joined first second first_forest second_forest not_unlike of_first of_second in
    record {
      stream =
          subst (λ (form : Form). Spells form info.bytes (append first_forest second_forest)) (sym form_is)
          (record { whole = bytes_are ∙ joined.stream.whole; fits = joined.stream.fits });
      counts =
          record {
            num_scopes = num_is ∙ joined.counts.num_scopes;
            depth = depth_is ∙ joined.counts.depth;
            least_start = start_is ∙ joined.counts.least_start;
            greatest_stop = stop_is ∙ joined.counts.greatest_stop;
          };
    }

-- a test isn't both
pub true_not_false : (test : Bool) → test ≡ true → test ≡ false → ⊥
true_not_false test is_true is_false = cc
