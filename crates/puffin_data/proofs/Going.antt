-- How a walk with a visitor goes, scope by scope, and from its place within open scopes on, whose regions it keeps, the innermost first.
use Rattle.std.proofs.Common.{◌≡◌, ℕ, ◌+◌, ◌*◌, ◌≤◌, List, [], ◌∷◌, ◌++◌, length, reverse, map, sym, ap, subst, ◌∙◌, arith}
use Rattle.std.proofs.lemmas.List.{reverse-append, map-append, length-map}
use Rattle.puffin_data.specs.declared.data.form.Form.{Form}
use Rattle.puffin_data.specs.declared.error.Error.{Error}
use Rattle.puffin_data.specs.declared.data.visit.Region.{Region}
use Rattle.puffin_data.specs.Forest.{Span}
use Rattle.puffin_data.specs.Walk.Reading.{FoundScope}
use Rattle.puffin_data.specs.Walk.{region, IsSoundAt, IsFaultAt}
use Rattle.puffin_data.specs.inner.Walking.{tries_in}
use Rattle.puffin_data.proofs.Resuming.{IsNested, nested_push, nested_pop, nested_low}

-- How a walk ends: over its whole region, at a fault, or at a scope that the visitor refuses. `to` is the visitor's state then.
pub data End (V : Type 0) : Type 0 where
  over_all : (to : V) → (tries : ℕ) → End V
  at_fault : (to : V) → (place : ℕ) → (fault : Error) → (tries : ℕ) → End V
  at_refusal : (place : ℕ) → (cause : Error) → (tries : ℕ) → End V

-- the walk ends before its region does
abbrev pub IsEarly : {V : Type 0} → End V → Type 0
IsEarly (over_all to tries) = ⊥
IsEarly (at_fault to place fault tries) = Unit {0}
IsEarly (at_refusal place cause tries) = Unit {0}

-- A walk from `place`, in the region that ends at `end`, comes to this result. `within` is what the visitor keeps for the scope of the
-- region, `state` its state and `tries` the tries so far. `enters` and `refuses` say what the visitor may do with a scope.
pub data Goes (form : Form) {V W : Type 0} (enters : V → W → Span → W → V → Type 0)
    (refuses : V → W → Span → Error → Type 0) (bytes : List ℕ) :
    (within : W) → (state : V) → (tries : ℕ) → (place : ℕ) → (end : ℕ) → (result : End V) → Type 0 where
  ends : {within : W} {state : V} {tries place : ℕ} → Goes form enters refuses bytes within state tries place place (over_all state tries)
  meets_fault : {within : W} {state : V} {tries place end : ℕ} {fault : Error} → IsFaultAt form bytes place end fault →
      Goes form enters refuses bytes within state tries place end (at_fault state place fault (tries + tries_in (region bytes place end)))
  is_refused : {within : W} {state : V} {tries place end : ℕ} {cause : Error} {found : FoundScope} → IsSoundAt form bytes place end found →
      refuses state within found.span cause
      → Goes form enters refuses bytes within state tries place end (at_refusal place cause (tries + 1))
  stops_within : {within kept : W} {state visited : V} {tries place end : ℕ} {found : FoundScope} {result : End V}
      → IsSoundAt form bytes place end found →
      enters state within found.span kept visited → IsEarly result →
      Goes form enters refuses bytes kept visited (tries + 1) (place + found.child_begin) (place + found.child_end) result →
      Goes form enters refuses bytes within state tries place end result
  goes_on : {within kept : W} {state visited left : V} {tries later_tries place end : ℕ} {found : FoundScope} {result : End V}
      → IsSoundAt form bytes place end found →
      enters state within found.span kept visited →
      Goes form enters refuses bytes kept visited (tries + 1) (place + found.child_begin) (place + found.child_end)
      (over_all left later_tries) →
      Goes form enters refuses bytes within left later_tries (place + found.next_sibling) end result →
      Goes form enters refuses bytes within state tries place end result

-- The same from a place within open scopes on, whose regions are `outers`: the walk leaves each at its end and goes on behind its
-- scope, unless it ends early.
pub data Resumes (form : Form) {V W : Type 0} (enters : V → W → Span → W → V → Type 0)
    (refuses : V → W → Span → Error → Type 0) (bytes : List ℕ) :
    (outers : List (Region W)) → W → V → ℕ → ℕ → ℕ → End V → Type 0 where
  outermost : {within : W} {state : V} {tries place end : ℕ} {result : End V}
      → Goes form enters refuses bytes within state tries place end result
      → Resumes form enters refuses bytes [] within state tries place end result
  leaves : {outer : Region W} {outers : List (Region W)} {within : W} {state left : V} {tries later_tries place end : ℕ}
      {result : End V} → Goes form enters refuses bytes within state tries place end (over_all left later_tries)
      → Resumes form enters refuses bytes outers outer.within left later_tries (end + 9) outer.end result
      → Resumes form enters refuses bytes (outer ∷ outers) within state tries place end result
  breaks : {outer : Region W} {outers : List (Region W)} {within : W} {state : V} {tries place end : ℕ} {result : End V}
      → IsEarly result → Goes form enters refuses bytes within state tries place end result
      → Resumes form enters refuses bytes (outer ∷ outers) within state tries place end result

-- what a walk does first, put before the rest of it
preceded : (form : Form)
    → {V W : Type 0} {enters : V → W → Span → W → V → Type 0} {refuses : V → W → Span → Error → Type 0} {bytes : List ℕ}
    (outers : List (Region W)) (within : W) (state left : V) (tries later_tries place from end : ℕ) (result : End V)
    → ((any_end : End V) → Goes form enters refuses bytes within left later_tries from end any_end
    → Goes form enters refuses bytes within state tries place end any_end)
    → Resumes form enters refuses bytes outers within left later_tries from end result
    → Resumes form enters refuses bytes outers within state tries place end result
preceded form [] within state left tries later_tries place from end result step (outermost rest) = outermost (step _ rest)
preceded form (outer ∷ outers) within state left tries later_tries place from end result step (leaves rest outside) =
    leaves (step _ rest) outside
preceded form (outer ∷ outers) within state left tries later_tries place from end result step (breaks early rest) =
    breaks early (step _ rest)

-- a walk that ends early in its region does so as a whole
early_end : (form : Form)
    → {V W : Type 0} {enters : V → W → Span → W → V → Type 0} {refuses : V → W → Span → Error → Type 0} {bytes : List ℕ}
    (outers : List (Region W)) (within : W) (state : V) (tries place end : ℕ) (result : End V)
    → IsEarly result → Goes form enters refuses bytes within state tries place end result
    → Resumes form enters refuses bytes outers within state tries place end result
early_end form [] within state tries place end result early goes = outermost goes
early_end form (outer ∷ outers) within state tries place end result early goes = breaks early goes

-- a scope is entered
entered : (form : Form)
    → {V W : Type 0} {enters : V → W → Span → W → V → Type 0} {refuses : V → W → Span → Error → Type 0} {bytes : List ℕ}
    (outers : List (Region W)) (within kept : W) (state visited : V) (tries place end : ℕ) (found : FoundScope) (result : End V)
    → IsSoundAt form bytes place end found → enters state within found.span kept visited → found.child_end + 9 ≡ found.next_sibling
    → Resumes form enters refuses bytes (record { end = end; within = within } ∷ outers) kept visited (tries + 1)
    (place + found.child_begin) (place + found.child_end) result
    → Resumes form enters refuses bytes outers within state tries place end result
entered form {V = V} {W = W} {enters = enters} {refuses = refuses} {bytes = bytes} outers within kept state visited tries place end
    found result sound enter next (leaves {left = left} {later_tries = later_tries} goes outside) =
    let after : place + found.child_end + 9 ≡ place + found.next_sibling = omega arith in
    preceded form outers within state left tries later_tries place (place + found.next_sibling) end result
    (λ any_end rest. goes_on sound enter goes rest)
    (subst (λ (any : ℕ). Resumes form enters refuses bytes outers within left later_tries any end result) after outside)
entered form outers within kept state visited tries place end found result sound enter next (breaks early goes) =
    early_end form outers within state tries place end result early (stops_within sound enter early goes)

-- ---- the same for the regions as the code keeps them, the innermost last

abbrev pub ends_of : {W : Type 0} → List (Region W) → List ℕ
ends_of regions = map (λ one. one.end) regions

turned : {W : Type 0} (items all : List (Region W)) (outer : Region W) → all ≡ items ++ outer ∷ [] → reverse all ≡ outer ∷ reverse items
turned items all outer pushed = ap reverse pushed ∙ reverse-append items (outer ∷ [])

ends_push : {W : Type 0} (items all : List (Region W)) (outer : Region W) → all ≡ items ++ outer ∷ []
    → ends_of all ≡ ends_of items ++ outer.end ∷ []
ends_push items all outer pushed = ap ends_of pushed ∙ map-append (λ (one : Region _). one.end) items (outer ∷ [])

-- a region is opened within the others, and left again
pub regions_push : {W : Type 0} (items all : List (Region W)) (outer : Region W) (inner_end size : ℕ) → all ≡ items ++ outer ∷ []
    → IsNested outer.end (reverse (ends_of items)) size → inner_end + 9 ≤ outer.end → IsNested inner_end (reverse (ends_of all)) size
regions_push items all outer inner_end size pushed nested fits =
    nested_push (ends_of items) (ends_of all) outer.end inner_end size (ends_push items all outer pushed) nested fits

pub regions_pop : {W : Type 0} (items all : List (Region W)) (end : ℕ) (outer : Region W) (size : ℕ) → all ≡ items ++ outer ∷ []
    → IsNested end (reverse (ends_of all)) size → (end + 9 ≤ outer.end) × IsNested outer.end (reverse (ends_of items)) size
regions_pop items all end outer size pushed nested =
    nested_pop (ends_of items) (ends_of all) end outer.end size (ends_push items all outer pushed) nested

-- each open region leaves room for the ends of those around it
pub nested_low_regions : {W : Type 0} (items : List (Region W)) (end size : ℕ) → IsNested end (reverse (ends_of items)) size
    → end + 9 * length items ≤ size
nested_low_regions {W = W} items end size nested =
    omega (arith, nested_low (ends_of items) end size nested, length-map items (λ (one : Region W). one.end))

-- a walk that enters a scope resumes at its children
pub enters_region : (form : Form)
    → {V W : Type 0} {enters : V → W → Span → W → V → Type 0} {refuses : V → W → Span → Error → Type 0} {bytes : List ℕ}
    (items all : List (Region W)) (within kept : W) (state visited : V) (tries later_tries place end : ℕ) (found : FoundScope)
    (result : End V)
    → IsSoundAt form bytes place end found → enters state within found.span kept visited → found.child_end + 9 ≡ found.next_sibling
    → all ≡ items ++ record { end = end; within = within } ∷ [] → later_tries ≡ tries + 1
    → Resumes form enters refuses bytes (reverse all) kept visited later_tries (place + found.child_begin) (place + found.child_end)
    result → Resumes form enters refuses bytes (reverse items) within state tries place end result
enters_region form {V = V} {W = W} {enters = enters} {refuses = refuses} {bytes = bytes} items all within kept state visited tries
    later_tries place end found result sound enter next pushed one_more outside =
    entered form (reverse items) within kept state visited tries place end found result sound enter next
    (subst (λ (any : ℕ). Resumes form enters refuses bytes (record { end = end; within = within } ∷ reverse items) kept visited any
    (place + found.child_begin) (place + found.child_end) result) one_more
    (subst (λ (any : List (Region W)).
    Resumes form enters refuses bytes any kept visited later_tries (place + found.child_begin) (place + found.child_end) result)
    (turned items all (record { end = end; within = within }) pushed) outside))

-- a walk at its region's end resumes behind the region's scope
pub leaves_region : (form : Form)
    → {V W : Type 0} {enters : V → W → Span → W → V → Type 0} {refuses : V → W → Span → Error → Type 0} {bytes : List ℕ}
    (items all : List (Region W)) (outer : Region W) (within : W) (state : V) (tries place end : ℕ) (result : End V)
    → all ≡ items ++ outer ∷ [] → place ≡ end
    → Resumes form enters refuses bytes (reverse items) outer.within state tries (end + 9) outer.end result
    → Resumes form enters refuses bytes (reverse all) within state tries place end result
leaves_region form {V = V} {W = W} {enters = enters} {refuses = refuses} {bytes = bytes} items all outer within state tries place end
    result pushed at outside =
    subst (λ (any : ℕ). Resumes form enters refuses bytes (reverse all) within state tries any end result) (sym at)
    (subst (λ (any : List (Region W)). Resumes form enters refuses bytes any within state tries end end result)
    (sym (turned items all outer pushed)) (leaves ends outside))

-- a walk at the end of the outermost region is over
pub ended : (form : Form)
    → {V W : Type 0} {enters : V → W → Span → W → V → Type 0} {refuses : V → W → Span → Error → Type 0} {bytes : List ℕ}
    (items : List (Region W)) (within : W) (state : V) (tries place end : ℕ) → items ≡ [] → place ≡ end
    → Resumes form enters refuses bytes (reverse items) within state tries place end (over_all state tries)
ended form {V = V} {W = W} {enters = enters} {refuses = refuses} {bytes = bytes} items within state tries place end nothing at =
    subst (λ (any : List (Region W)).
    Resumes form enters refuses bytes (reverse any) within state tries place end (over_all state tries)) (sym nothing)
    (subst (λ (any : ℕ). Resumes form enters refuses bytes [] within state tries any end (over_all state tries)) (sym at) (outermost ends))

-- a walk ends at a fault, and at a scope that is refused
pub fails : (form : Form)
    → {V W : Type 0} {enters : V → W → Span → W → V → Type 0} {refuses : V → W → Span → Error → Type 0} {bytes : List ℕ}
    (outers : List (Region W)) (within : W) (state : V) (tries place end : ℕ) (fault : Error)
    → IsFaultAt form bytes place end fault
    → Resumes form enters refuses bytes outers within state tries place end
    (at_fault state place fault (tries + tries_in (region bytes place end)))
fails form outers within state tries place end fault at = early_end form outers within state tries place end _ tt (meets_fault at)

pub refusing : (form : Form)
    → {V W : Type 0} {enters : V → W → Span → W → V → Type 0} {refuses : V → W → Span → Error → Type 0} {bytes : List ℕ}
    (outers : List (Region W)) (within : W) (state : V) (tries place end : ℕ) (found : FoundScope) (cause : Error)
    → IsSoundAt form bytes place end found → refuses state within found.span cause
    → Resumes form enters refuses bytes outers within state tries place end (at_refusal place cause (tries + 1))
refusing form outers within state tries place end found cause sound refused =
    early_end form outers within state tries place end _ tt (is_refused sound refused)

-- without open scopes, a walk from here is all that is left
pub all_of_it : (form : Form)
    → {V W : Type 0} {enters : V → W → Span → W → V → Type 0} {refuses : V → W → Span → Error → Type 0} {bytes : List ℕ} (within : W)
    (state : V) (tries place end : ℕ) (result : End V) → Resumes form enters refuses bytes [] within state tries place end result
    → Goes form enters refuses bytes within state tries place end result
all_of_it form within state tries place end result (outermost goes) = goes
