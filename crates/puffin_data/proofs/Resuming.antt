-- A walk from its place within open scopes on, whose regions' ends it keeps, the innermost first.
use Rattle.std.proofs.Common.{◌≡◌, ℕ, suc, ◌+◌, ◌-◌, ◌*◌, ◌≤◌, List, [], ◌∷◌, ◌++◌, length, reverse, Result, Ok, Err, refl, sym, ap, subst, ◌∙◌, arith, inr}
use Rattle.std.proofs.lemmas.List.{length-take, length-drop, length-reverse, reverse-append}
use Rattle.puffin_data.specs.declared.data.form.Form.{Form}
use Rattle.puffin_data.proofs.FoundScope.{Places, places}
use Rattle.puffin_data.specs.declared.error.Error.{Error}
use Rattle.puffin_data.specs.declared.data.walk.Walk.{Walk}
use Rattle.puffin_data.specs.Walk.Reading.{FoundScope}
use Rattle.puffin_data.specs.Walk.{IsSoundAt, IsFaultAt, region}
use Rattle.puffin_data.specs.inner.Walking.{tries_in, no_scope_counted, StopsShort, Stop, WalksTo, ends, stops, stops_within, goes_on, with_scope}

-- From a place within open scopes on, whose regions end at `outers`, a walk comes to this result: it leaves each region at its end and
-- goes on behind its scope, unless it stops.
pub data Resumes (form : Form) (bytes : List ℕ) :
    (outers : List ℕ) → Walk → (place : ℕ) → (end : ℕ) → Result Walk Stop → Type 0 where
  outermost : {walk : Walk} {place end : ℕ} {result : Result Walk Stop} → WalksTo form bytes 0 walk place end result
      → Resumes form bytes [] walk place end result
  leaves : {outer : ℕ} {outers : List ℕ} {walk inner : Walk} {place end : ℕ} {result : Result Walk Stop}
      → WalksTo form bytes (suc (length outers)) walk place end (Ok inner) → Resumes form bytes outers inner (end + 9) outer result
      → Resumes form bytes (outer ∷ outers) walk place end result
  breaks : {outer : ℕ} {outers : List ℕ} {walk : Walk} {place end : ℕ} {stop : Stop}
      → WalksTo form bytes (suc (length outers)) walk place end (Err stop)
      → Resumes form bytes (outer ∷ outers) walk place end (Err stop)

-- each region ends nine bytes or more before the one around it does
abbrev pub IsNested : ℕ → List ℕ → ℕ → Type 0
IsNested end [] size = end ≡ size
IsNested end (outer ∷ outers) size = (end + 9 ≤ outer) × IsNested outer outers size

-- so the innermost leaves nine bytes for each one around it
pub nested_bound : (end : ℕ) (outers : List ℕ) (size : ℕ) → IsNested end outers size → end + 9 * length outers ≤ size
nested_bound end [] size nested = omega arith
nested_bound end (outer ∷ outers) size nested = omega (arith, nested_bound outer outers size nested.1)

-- the same walk, at equal numbers and places
moved : (form : Form) (bytes : List ℕ) (level : ℕ) (old walk : Walk) (begin limit place end : ℕ) (result : Result Walk Stop)
    → old ≡ walk → begin ≡ place → limit ≡ end → WalksTo form bytes level old begin limit result
    → WalksTo form bytes level walk place end result
moved form bytes level old walk begin limit place end result same_walk same_place same_end goes =
    subst (λ (any : ℕ). WalksTo form bytes level walk place any result) same_end
    (subst (λ (any : ℕ). WalksTo form bytes level walk any limit result) same_place
    (subst (λ (any : Walk). WalksTo form bytes level any begin limit result) same_walk goes))

-- what a walk does first, put before the rest of it
before : (form : Form) (bytes : List ℕ) (outers : List ℕ) (walk inner : Walk) (place from end : ℕ) (result : Result Walk Stop)
    → ((out : Result Walk Stop) → WalksTo form bytes (length outers) inner from end out
    → WalksTo form bytes (length outers) walk place end out) → Resumes form bytes outers inner from end result
    → Resumes form bytes outers walk place end result
before form bytes [] walk inner place from end result step (outermost rest) = outermost (step _ rest)
before form bytes (outer ∷ outers) walk inner place from end result step (leaves rest outside) = leaves (step _ rest) outside
before form bytes (outer ∷ outers) walk inner place from end result step (breaks rest) = breaks (step _ rest)

-- a walk that stops in its region stops as a whole
stopped : (form : Form) (bytes : List ℕ) (outers : List ℕ) (walk : Walk) (place end : ℕ) (stop : Stop)
    → WalksTo form bytes (length outers) walk place end (Err stop) → Resumes form bytes outers walk place end (Err stop)
stopped form bytes [] walk place end stop goes = outermost goes
stopped form bytes (outer ∷ outers) walk place end stop goes = breaks goes

-- a walk that enters a scope resumes at its children
entered : (form : Form) (bytes : List ℕ) (outers : List ℕ) (walk with_found : Walk) (place end : ℕ) (found : FoundScope)
    (begin limit : ℕ) (result : Result Walk Stop) → IsSoundAt form bytes place end found
    → with_found ≡ with_scope walk (suc (length outers)) found.span → begin ≡ place + found.child_begin
    → limit ≡ place + found.child_end → limit + 9 ≡ place + found.next_sibling
    → Resumes form bytes (end ∷ outers) with_found begin limit result → Resumes form bytes outers walk place end result
entered form bytes outers walk with_found place end found begin limit result sound walk_is begin_is limit_is next
    (leaves {inner = inner} goes outside) =
    before form bytes outers walk inner place (limit + 9) end result
    (λ out rest. goes_on sound (moved form bytes (suc (length outers)) with_found _ begin limit _ _ _ walk_is begin_is limit_is goes)
    (subst (λ (any : ℕ). WalksTo form bytes (length outers) inner any end out) next rest)) outside
entered form bytes outers walk with_found place end found begin limit result sound walk_is begin_is limit_is next (breaks goes) =
    stopped form bytes outers walk place end _
    (stops_within sound (moved form bytes (suc (length outers)) with_found _ begin limit _ _ _ walk_is begin_is limit_is goes))

-- a fault ends the walk
pub fail : (form : Form) (bytes : List ℕ) (outers : List ℕ) (walk : Walk) (place end : ℕ) (fault : Error)
    → IsFaultAt form bytes place end fault
    → Resumes form bytes outers walk place end
    (Err (record { place = place; fault = fault; tries = walk.num_scopes + tries_in (region bytes place end) }))
fail form bytes outers walk place end fault at = stopped form bytes outers walk place end _ (stops at)

-- without open scopes, a walk from here is all that is left
pub whole : (form : Form) (bytes : List ℕ) (walk : Walk) (place end : ℕ) (result : Result Walk Stop)
    → Resumes form bytes [] walk place end result → WalksTo form bytes 0 walk place end result
whole form bytes walk place end result (outermost goes) = goes

-- ---- the same for the list of open scopes' ends as the walk keeps it, the innermost last

-- where a scope is found, it lies within its region
pub found_places : (form : Form) (bytes : List ℕ) (place end : ℕ) (found : FoundScope) → IsSoundAt form bytes place end found
    → place ≤ end → end ≤ length bytes → Places (end - place) found
found_places form bytes place end found sound low high =
    let size : length (region bytes place end) ≡ end - place = simp (length-take, length-drop) (omega arith) in
    subst (λ (any : ℕ). Places any found) size (places form (region bytes place end) found sound)

turned : (items all : List ℕ) (last : ℕ) → all ≡ items ++ last ∷ [] → reverse all ≡ last ∷ reverse items
turned items all last pushed = ap reverse pushed ∙ reverse-append items (last ∷ [])

-- the three facts on nesting, for the list turned round
pub nested_low : (items : List ℕ) (end size : ℕ) → IsNested end (reverse items) size → end + 9 * length items ≤ size
nested_low items end size nested = omega (arith, nested_bound end (reverse items) size nested, length-reverse items)

pub nested_push : (items all : List ℕ) (end inner_end size : ℕ) → all ≡ items ++ end ∷ [] → IsNested end (reverse items) size
    → inner_end + 9 ≤ end → IsNested inner_end (reverse all) size
nested_push items all end inner_end size pushed nested fits =
    subst (λ (any : List ℕ). IsNested inner_end any size) (sym (turned items all end pushed)) (fits, nested)

pub nested_pop : (items all : List ℕ) (end outer size : ℕ) → all ≡ items ++ outer ∷ [] → IsNested end (reverse all) size
    → (end + 9 ≤ outer) × IsNested outer (reverse items) size
nested_pop items all end outer size pushed nested =
    subst (λ (any : List ℕ). IsNested end any size) (turned items all outer pushed) nested

-- a walk enters a scope, leaves a region, and is over
pub enters : (form : Form) (bytes items all : List ℕ) (walk with_found : Walk) (depth place end : ℕ) (found : FoundScope)
    (result : Result Walk Stop) → IsSoundAt form bytes place end found → found.child_end + 9 ≡ found.next_sibling
    → all ≡ items ++ end ∷ [] → depth ≡ length all → with_found ≡ with_scope walk depth found.span
    → Resumes form bytes (reverse all) with_found (place + found.child_begin) (place + found.child_end) result
    → Resumes form bytes (reverse items) walk place end result
enters form bytes items all walk with_found depth place end found result sound next pushed depth_is walk_is outside =
    let deep : depth ≡ suc (length (reverse items)) = omega (arith, ap length (turned items all end pushed), length-reverse all) in
    let same_walk : with_found ≡ with_scope walk (suc (length (reverse items))) found.span =
    walk_is ∙ ap (λ (any : ℕ). with_scope walk any found.span) deep in
    let turned_outside =
    subst (λ (any : List ℕ). Resumes form bytes any with_found (place + found.child_begin) (place + found.child_end) result)
    (turned items all end pushed) outside in
    entered form bytes (reverse items) walk with_found place end found _ _ result sound same_walk refl refl (omega arith) turned_outside

pub exits : (form : Form) (bytes items all : List ℕ) (walk : Walk) (place end outer : ℕ) (result : Result Walk Stop)
    → all ≡ items ++ outer ∷ [] → place ≡ end → Resumes form bytes (reverse items) walk (end + 9) outer result
    → Resumes form bytes (reverse all) walk place end result
exits form bytes items all walk place end outer result pushed at outside =
    subst (λ (any : ℕ). Resumes form bytes (reverse all) walk any end result) (sym at)
    (subst (λ (any : List ℕ). Resumes form bytes any walk end end result) (sym (turned items all outer pushed)) (leaves ends outside))

pub done : (form : Form) (bytes items : List ℕ) (walk : Walk) (place end : ℕ) → items ≡ [] → place ≡ end
    → Resumes form bytes (reverse items) walk place end (Ok walk)
done form bytes items walk place end nothing at =
    subst (λ (any : List ℕ). Resumes form bytes (reverse any) walk place end (Ok walk)) (sym nothing)
    (subst (λ (any : ℕ). Resumes form bytes [] walk any end (Ok walk)) (sym at) (outermost ends))

-- a walk that stopped, as its caller is told
pub stops_at : (form : Form) (bytes items : List ℕ) (walk : Walk) (place end tries : ℕ) (fault : Error)
    → IsFaultAt form bytes place end fault → tries ≡ walk.num_scopes + tries_in (region bytes place end)
    → ((result : Result Walk Stop) → Resumes form bytes (reverse items) walk place end result
    → Resumes form bytes [] no_scope_counted 0 (length bytes) result) → StopsShort form bytes tries fault
stops_at form bytes items walk place end tries fault at tried resumes =
    subst (λ (any : ℕ). StopsShort form bytes any fault) (sym tried)
    (inr (
      place,
      whole form bytes no_scope_counted 0 (length bytes) _
          (resumes _ (fail form bytes (reverse items) walk place end fault at)),
    ))
