-- A walk that stops has met the fault at the least place, and tried what stands before it.
use Rattle.std.proofs.Common.{◌≡◌, ℕ, suc, ◌+◌, ◌<◌, ◌≤◌, List, [], ◌∷◌, ◌++◌, length, refl, ap, subst, arith, Err, ltb, cond, Bool, true, false}
use Rattle.std.specs.Prelude.{nat_lt}
use Rattle.std.specs.List.{count_by}
use Rattle.std.proofs.lemmas.List.{length-append}
use Rattle.std.proofs.lemmas.List.Sums.{sum_by-append, sum_by-cons}
use Rattle.puffin_data.specs.declared.data.form.Form.{Form}
use Rattle.puffin_data.specs.declared.error.Error.{Error}
use Rattle.puffin_data.specs.declared.data.walk.Walk.{Walk}
use Rattle.puffin_data.specs.Forest.{Forest, empty, node}
use Rattle.puffin_data.specs.Forest.Measures.{scope_count}
use Rattle.puffin_data.specs.Walk.Reading.{FoundScope}
use Rattle.puffin_data.specs.Walk.{region, IsSoundAt, IsFaultAt, Reaches, here, child, sibling, Sounds, no_more, one_more}
use Rattle.puffin_data.specs.inner.Walking.{tries_in, with_scope, Stop, WalksTo, stops, stops_within, goes_on}
use Rattle.puffin_data.proofs.lemmas.Numbers.{IsBytes}
use Rattle.puffin_data.proofs.Resuming.{found_places}
use Rattle.puffin_data.proofs.Regions.{sound_is_no_fault, one_sound, between}
use Rattle.puffin_data.proofs.Completes.{tallied, completed}
use Rattle.puffin_data.proofs.Sounds.{has_sounds}

lt_test : (a b : ℕ) → a < b → ltb a b ≡ true
lt_test a b ordered = grind arith

le_test : (a b : ℕ) → b ≤ a → ltb a b ≡ false
le_test a b ordered = grind arith

-- ---- the sound places of a region lie in it

-- how many places lie below one
abbrev pub below : ℕ → List ℕ → ℕ
below place places = count_by (λ one. nat_lt one place) places

below-append : (place : ℕ) (places others : List ℕ) → below place (places ++ others) ≡ below place places + below place others
below-append place places others = sum_by-append (λ one. cond (ltb one place) 1 0) places others

below-cons : (place first : ℕ) (places : List ℕ) → below place (first ∷ places) ≡ cond (ltb first place) 1 0 + below place places
below-cons place first places = sum_by-cons (λ one. cond (ltb one place) 1 0) first places

-- where a scope and what lies in it stand below a place, so many do: those after it are counted apart
pub below_more : (place own : ℕ) (inner later : List ℕ) → own < place
    → below place (own ∷ (inner ++ later)) ≡ 1 + below place inner + below place later
below_more place own inner later earlier =
    let first : cond {A = ℕ} (ltb own place) 1 0 ≡ 1 = ap (λ (test : Bool). cond test 1 0) (lt_test own place earlier) in
    omega (arith, below-cons place own (inner ++ later), below-append place inner later, first)

below_none : (place own : ℕ) (inner later : List ℕ) → place ≤ own
    → below place (own ∷ (inner ++ later)) ≡ below place inner + below place later
below_none place own inner later later_place =
    let first : cond {A = ℕ} (ltb own place) 1 0 ≡ 0 = ap (λ (test : Bool). cond test 1 0) (le_test own place later_place) in
    omega (arith, below-cons place own (inner ++ later), below-append place inner later, first)

-- the places of a region's scopes lie in it: so all of them, or none, are below a place after it, or before it
all_below : (form : Form) (bytes : List ℕ) (begin end place : ℕ) (places : List ℕ) → begin ≤ end → end ≤ length bytes → end ≤ place
    → Sounds form bytes begin end places → below place places ≡ length places
all_below form bytes begin end place places ordered bounded apart (no_more none) = refl
all_below form bytes begin end place places ordered bounded apart
    (one_more {found = found} {inner = inner} {later = later} sound of_inner of_later) =
    let at = found_places form bytes begin end found sound ordered bounded in
    let inner_is =
    all_below form bytes (begin + found.child_begin) (begin + found.child_end) place inner (omega (arith, at)) (omega (arith, at))
    (omega (arith, at)) of_inner in
    let later_is = all_below form bytes (begin + found.next_sibling) end place later (omega (arith, at)) bounded apart of_later in
    omega (arith, inner_is, later_is, below_more place begin inner later (omega (arith, at)), length-append inner later)

none_below : (form : Form) (bytes : List ℕ) (begin end place : ℕ) (places : List ℕ) → begin ≤ end → end ≤ length bytes → place ≤ begin
    → Sounds form bytes begin end places → below place places ≡ 0
none_below form bytes begin end place places ordered bounded apart (no_more none) = refl
none_below form bytes begin end place places ordered bounded apart
    (one_more {found = found} {inner = inner} {later = later} sound of_inner of_later) =
    let at = found_places form bytes begin end found sound ordered bounded in
    let inner_is =
    none_below form bytes (begin + found.child_begin) (begin + found.child_end) place inner (omega (arith, at))
    (omega (arith, at)) (omega (arith, at)) of_inner in
    let later_is =
    none_below form bytes (begin + found.next_sibling) end place later (omega (arith, at)) bounded (omega (arith, at)) of_later in
    omega (arith, inner_is, later_is, below_none place begin inner later apart)

-- ---- a walk that stops

-- the number of scopes among a walk's numbers
tallied_num : (level : ℕ) (walk : Walk) (forest : Forest) → (tallied level walk forest).num_scopes ≡ walk.num_scopes + scope_count forest
tallied_num level walk empty = omega arith
tallied_num level walk (node span children others) =
    omega (
      arith,
      tallied_num (suc level) (with_scope walk (suc level) span) children,
      tallied_num level (tallied (suc level) (with_scope walk (suc level) span) children) others,
    )

-- what a stopped walk of a region shows: its first fault, and how many scopes it tried before
pub record Stops (form : Form) (bytes : List ℕ) (walk : Walk) (begin limit : ℕ) (stop : Stop) : Type 0 where
  pub end : ℕ
  pub reached : Reaches form bytes begin limit stop.place end
  pub stands : IsFaultAt form bytes stop.place end stop.fault
  pub least : (to to_end : ℕ) (other : Error) → Reaches form bytes begin limit to to_end → IsFaultAt form bytes to to_end other
      → stop.place ≤ to
  pub places : List ℕ
  pub sounds : Sounds form bytes begin limit places
  pub tries : stop.tries ≡ walk.num_scopes + below stop.place places + tries_in (region bytes stop.place end)

-- what is reached from a place where a sound scope stands, and isn't that place, is reached from its children or its next sibling
pub by_parts : (form : Form) (bytes : List ℕ) (begin limit to to_end place : ℕ) (found : FoundScope) (fault : Error)
    → IsSoundAt form bytes begin limit found
    → (Reaches form bytes (begin + found.child_begin) (begin + found.child_end) to to_end → place ≤ to)
    → (Reaches form bytes (begin + found.next_sibling) limit to to_end → place ≤ to) → Reaches form bytes begin limit to to_end
    → IsFaultAt form bytes to to_end fault → place ≤ to
by_parts form bytes begin limit to to_end place found fault sound inner later here at =
    absurd (sound_is_no_fault form (region bytes begin limit) found fault sound at)
by_parts form bytes begin limit to to_end place found fault sound inner later (child {found = again} other reach) at =
    inner (subst (λ (any : FoundScope). Reaches form bytes (begin + any.child_begin) (begin + any.child_end) to to_end)
    (one_sound form (region bytes begin limit) again found other sound) reach)
by_parts form bytes begin limit to to_end place found fault sound inner later (sibling {found = again} other reach) at =
    later (subst (λ (any : FoundScope). Reaches form bytes (begin + any.next_sibling) limit to to_end)
    (one_sound form (region bytes begin limit) again found other sound) reach)

-- By induction over how the walk went. If it stopped in a scope's children, none of the later scopes is before the fault; else all
-- in the scope are.
pub stopped_at : (form : Form) (bytes : List ℕ) (level : ℕ) (walk : Walk) (begin limit : ℕ) (stop : Stop) → IsBytes bytes
    → begin ≤ limit → limit ≤ length bytes → WalksTo form bytes level walk begin limit (Err stop)
    → Stops form bytes walk begin limit stop
stopped_at form bytes level walk begin limit stop fits ordered bounded (stops {fault = fault} at) =
    record {
      end = limit;
      reached = here;
      stands = at;
      least = λ to to_end other reach faulty. (between form bytes begin limit to to_end ordered bounded reach).low;
      places = [];
      sounds = no_more (λ found sound. sound_is_no_fault form (region bytes begin limit) found fault sound at);
      tries = omega arith;
    }
stopped_at form bytes level walk begin limit stop fits ordered bounded (stops_within {found = found} sound inner) =
    let at = found_places form bytes begin limit found sound ordered bounded in
    let children =
    stopped_at form bytes (suc level) (with_scope walk (suc level) found.span) (begin + found.child_begin)
    (begin + found.child_end) stop fits (omega (arith, at)) (omega (arith, at)) inner in
    let inside =
    between form bytes (begin + found.child_begin) (begin + found.child_end) stop.place children.end (omega (arith, at))
    (omega (arith, at)) children.reached in
    let others = has_sounds form bytes (suc limit) (begin + found.next_sibling) limit (omega arith) (omega (arith, at)) bounded in
    let none =
    none_below form bytes (begin + found.next_sibling) limit stop.place others.0 (omega (arith, at)) bounded
    (omega (arith, at, inside)) others.1 in
    record {
      end = children.end;
      reached = child sound children.reached;
      stands = children.stands;
      least =
          λ to to_end other reach faulty.
          by_parts form bytes begin limit to to_end stop.place found other sound (λ way. children.least to to_end other way faulty)
          (λ way. let lies = between form bytes (begin + found.next_sibling) limit to to_end (omega (arith, at)) bounded way in omega
          (arith, at, inside, lies)) reach faulty;
      places = begin ∷ (children.places ++ others.0);
      sounds = one_more sound children.sounds others.1;
      tries = omega (arith, children.tries, none, below_more stop.place begin children.places others.0 (omega (arith, at, inside)));
    }
stopped_at form bytes level walk begin limit stop fits ordered bounded (goes_on {inner = walked} {found = found} sound inner later) =
    let at = found_places form bytes begin limit found sound ordered bounded in
    let children =
    completed form bytes (suc level) (with_scope walk (suc level) found.span) walked (begin + found.child_begin)
    (begin + found.child_end) fits (omega (arith, at)) (omega (arith, at)) inner in
    let others = stopped_at form bytes level walked (begin + found.next_sibling) limit stop fits (omega (arith, at)) bounded later in
    let after = between form bytes (begin + found.next_sibling) limit stop.place others.end (omega (arith, at)) bounded others.reached in
    let all =
    all_below form bytes (begin + found.child_begin) (begin + found.child_end) stop.place children.places (omega (arith, at))
    (omega (arith, at)) (omega (arith, at, after)) children.sounds in
    let so_far : walked.num_scopes ≡ walk.num_scopes + 1 + length children.places =
    omega (
      arith,
      ap (λ (one : Walk). one.num_scopes) children.numbers,
      tallied_num (suc level) (with_scope walk (suc level) found.span) children.forest,
      children.number_of_places,
    ) in
    record {
      end = others.end;
      reached = sibling sound others.reached;
      stands = others.stands;
      least =
          λ to to_end other reach faulty.
          by_parts form bytes begin limit to to_end stop.place found other sound
          (λ way. absurd (children.faultless to to_end other way faulty)) (λ way. others.least to to_end other way faulty) reach
          faulty;
      places = begin ∷ (children.places ++ others.places);
      sounds = one_more sound children.sounds others.sounds;
      tries =
          omega (
            arith,
            others.tries,
            all,
            so_far,
            below_more stop.place begin children.places others.places (omega (arith, at, after)),
          );
    }
