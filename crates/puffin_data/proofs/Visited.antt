-- What a walk with a visitor comes to, by induction over how it went.
use Rattle.std.proofs.Common.{◌≡◌, ℕ, ◌+◌, ◌≤◌, List, [], ◌∷◌, ◌++◌, length, map, refl, sym, ap, subst, ◌∙◌, arith, append_assoc}
use Rattle.std.proofs.lemmas.List.{length-append}
use Rattle.puffin_data.specs.declared.data.form.Form.{Form}
use Rattle.puffin_data.specs.declared.error.Error.{Error}
use Rattle.puffin_data.specs.Forest.{Span}
use Rattle.puffin_data.specs.Walk.{region, IsFaultAt, Reaches, here, child, sibling}
use Rattle.puffin_data.specs.inner.Walking.{tries_in}
use Rattle.puffin_data.specs.Walk.PlacedScopes.{ScopeInContext, PlacedScope, Sees, no_scope, one_scope, scopes_of, before}
use Rattle.puffin_data.specs.Walk.Visitor.{Entering, Refusing, TakesAll, StopsAtFault, StopsAtRefusal}
use Rattle.puffin_data.proofs.lemmas.Numbers.{IsBytes}
use Rattle.puffin_data.proofs.Resuming.{found_places}
use Rattle.puffin_data.proofs.Regions.{whole_region, sound_is_no_fault, between}
use Rattle.puffin_data.proofs.FirstFaults.{by_parts}
use Rattle.puffin_data.proofs.ScopesSeen.{placed_in, before-first, all_before, none_before}
use Rattle.puffin_data.proofs.RangesTold.{fault_inside, tries_at}
use Rattle.puffin_data.proofs.Going.{over_all, at_fault, at_refusal, Goes, meets_fault, is_refused, stops_within, goes_on}
use Rattle.puffin_data.proofs.WalkedOver.{VisitorLaws, placed_at, taken_more, still_after, walks_over}

-- ---- a walk that meets a fault

-- the first fault of the region is at `place`, and the visitor has taken the scopes before it
pub record Meets (form : Form) {V : Type 0} (takes : V → List ScopeInContext → V → Type 0) (bytes : List ℕ) (around : List Span)
    (old new : V) (tries_before tries_after begin limit place : ℕ) (fault : Error) : Type 0 where
  pub end : ℕ
  pub reached : Reaches form bytes begin limit place end
  pub stands : IsFaultAt form bytes place end fault
  pub least : (to to_end : ℕ) (other : Error) → Reaches form bytes begin limit to to_end → IsFaultAt form bytes to to_end other → place ≤ to
  pub placed : List PlacedScope
  pub sees : Sees form bytes around begin limit placed
  pub taken : takes old (scopes_of (before place placed)) new
  pub tries : tries_after ≡ tries_before + length (before place placed) + tries_in (region bytes place end)

-- A walk that meets a fault. If it is within a scope, nothing behind that scope is before it; if it is behind, all in the scope is.
pub meets : (form : Form)
    → {V W : Type 0} {takes : V → List ScopeInContext → V → Type 0} (refuses : V → ScopeInContext → Error → Type 0)
    {stands_for : V → W → List Span → Type 0} (laws : VisitorLaws takes stands_for) (bytes : List ℕ) (around : List Span) (within : W)
    (old new : V) (tries_before tries_after begin limit place : ℕ) (fault : Error)
    → IsBytes bytes → begin ≤ limit → limit ≤ length bytes → stands_for old within around
    → Goes form (Entering takes stands_for) (Refusing refuses stands_for) bytes within old tries_before begin limit
    (at_fault new place fault tries_after) → Meets form takes bytes around old new tries_before tries_after begin limit place fault
meets form refuses laws bytes around within old new tries_before tries_after begin limit place fault fits ordered bounded stands
    (meets_fault faulty_here) =
    record {
      end = limit;
      reached = here;
      stands = faulty_here;
      least = λ to to_end other reach faulty. (between form bytes begin limit to to_end ordered bounded reach).low;
      placed = [];
      sees = no_scope (λ found sound. sound_is_no_fault form (region bytes begin limit) found fault sound faulty_here);
      taken = laws.none old;
      tries = omega arith;
    }
meets form {takes = takes} refuses laws bytes around within old new tries_before tries_after begin limit place fault fits ordered
    bounded stands (stops_within {kept = kept} {visited = visited} {found = found} sound enter early inner) =
    let places = found_places form bytes begin limit found sound ordered bounded in
    let first = enter around stands in
    let children =
    meets form refuses laws bytes (around ++ (found.span ∷ [])) kept visited new (tries_before + 1) tries_after
    (begin + found.child_begin) (begin + found.child_end) place fault fits (omega (arith, places)) (omega (arith, places)) first.1
    inner in
    let inside =
    between form bytes (begin + found.child_begin) (begin + found.child_end) place children.end (omega (arith, places))
    (omega (arith, places)) children.reached in
    let others = placed_in form bytes around (begin + found.next_sibling) limit (omega (arith, places)) bounded in
    let none =
    none_before form bytes around (begin + found.next_sibling) limit place others.0 (omega (arith, places)) bounded
    (omega (arith, places, inside)) others.1 in
    let split =
    before-first place (placed_at begin around found) children.placed others.0 (omega (arith, places, inside))
    ∙ ap (λ (any : List PlacedScope). placed_at begin around found ∷ (before place children.placed ++ any)) none in
    record {
      end = children.end;
      reached = child sound children.reached;
      stands = children.stands;
      least =
          λ to to_end other reach faulty.
          by_parts form bytes begin limit to to_end place found other sound (λ way. children.least to to_end other way faulty)
          (λ way. let lies = between form bytes (begin + found.next_sibling) limit to to_end (omega (arith, places)) bounded
          way in omega (arith, places, inside, lies)) reach faulty;
      placed = placed_at begin around found ∷ (children.placed ++ others.0);
      sees = one_scope sound children.sees others.1;
      taken =
          subst (λ (any : List PlacedScope). takes old (scopes_of any) new) (sym split)
          (taken_more laws old visited new new (placed_at begin around found) (before place children.placed) [] first.0 children.taken
          (laws.none new));
      tries = omega (arith, children.tries, ap length split, length-append (before place children.placed) []);
    }
meets form {takes = takes} refuses laws bytes around within old new tries_before tries_after begin limit place fault fits ordered
    bounded stands (goes_on {kept = kept} {visited = visited} {left = left} {later_tries = tries_between} {found = found} sound enter
    inner later) =
    let places = found_places form bytes begin limit found sound ordered bounded in
    let first = enter around stands in
    let children =
    walks_over form refuses laws bytes (around ++ (found.span ∷ [])) kept visited left (tries_before + 1) tries_between
    (begin + found.child_begin) (begin + found.child_end) fits (omega (arith, places)) (omega (arith, places)) first.1 inner in
    let others =
    meets form refuses laws bytes around within left new tries_between tries_after (begin + found.next_sibling) limit place fault
    fits (omega (arith, places)) bounded (still_after laws old visited left _ _ within around first.0 children.taken stands) later in
    let after = between form bytes (begin + found.next_sibling) limit place others.end (omega (arith, places)) bounded others.reached in
    let all =
    all_before form bytes (around ++ (found.span ∷ [])) (begin + found.child_begin) (begin + found.child_end) place
    children.placed (omega (arith, places)) (omega (arith, places)) (omega (arith, places, after)) children.sees in
    let split =
    before-first place (placed_at begin around found) children.placed others.placed (omega (arith, places, after))
    ∙ ap (λ (any : List PlacedScope). placed_at begin around found ∷ (any ++ before place others.placed)) all in
    record {
      end = others.end;
      reached = sibling sound others.reached;
      stands = others.stands;
      least =
          λ to to_end other reach faulty.
          by_parts form bytes begin limit to to_end place found other sound
          (λ way. absurd (children.faultless to to_end other way faulty)) (λ way. others.least to to_end other way faulty) reach
          faulty;
      placed = placed_at begin around found ∷ (children.placed ++ others.placed);
      sees = one_scope sound children.sees others.sees;
      taken =
          subst (λ (any : List PlacedScope). takes old (scopes_of any) new) (sym split)
          (taken_more laws old visited left new (placed_at begin around found) children.placed (before place others.placed) first.0
          children.taken others.taken);
      tries = omega (arith, children.tries, others.tries, ap length split, length-append children.placed (before place others.placed));
    }

-- ---- a walk that is refused

-- the visitor has taken the scopes before one that it refuses, and no fault is before that one
pub record MeetsRefusal (form : Form) {V : Type 0} (takes : V → List ScopeInContext → V → Type 0)
    (refuses : V → ScopeInContext → Error → Type 0) (bytes : List ℕ) (around : List Span) (old : V)
    (tries_before tries_after begin limit : ℕ) (cause : Error) : Type 0 where
  pub earlier : List PlacedScope
  pub met : PlacedScope
  pub later : List PlacedScope
  pub sees : Sees form bytes around begin limit (earlier ++ (met ∷ later))
  pub to : V
  pub taken : takes old (scopes_of earlier) to
  pub refused : refuses to met.scope cause
  pub first : (to to_end : ℕ) (fault : Error) → Reaches form bytes begin limit to to_end → IsFaultAt form bytes to to_end fault
      → met.place ≤ to
  pub low : begin ≤ met.place
  pub high : met.place ≤ limit
  pub tries : tries_after ≡ tries_before + (length earlier + 1)

regroup_inner : (outer met : PlacedScope) (earlier later rest : List PlacedScope)
    → outer ∷ ((earlier ++ (met ∷ later)) ++ rest) ≡ (outer ∷ earlier) ++ (met ∷ (later ++ rest))
regroup_inner outer met earlier later rest = ap (λ (any : List PlacedScope). outer ∷ any) (append_assoc earlier (met ∷ later) rest)

regroup_later : (outer met : PlacedScope) (inner earlier later : List PlacedScope)
    → outer ∷ (inner ++ (earlier ++ (met ∷ later))) ≡ (outer ∷ (inner ++ earlier)) ++ (met ∷ later)
regroup_later outer met inner earlier later = ap (λ (any : List PlacedScope). outer ∷ any) (sym (append_assoc inner earlier (met ∷ later)))

-- A walk that ends at a refused scope. Placed scopes behind that one are there too, though no walk went over them.
pub refused_at : (form : Form)
    → {V W : Type 0} {takes : V → List ScopeInContext → V → Type 0} (refuses : V → ScopeInContext → Error → Type 0)
    {stands_for : V → W → List Span → Type 0} (laws : VisitorLaws takes stands_for) (bytes : List ℕ) (around : List Span) (within : W)
    (old : V) (tries_before tries_after begin limit place : ℕ) (cause : Error)
    → IsBytes bytes → begin ≤ limit → limit ≤ length bytes → stands_for old within around
    → Goes form (Entering takes stands_for) (Refusing refuses stands_for) bytes within old tries_before begin limit
    (at_refusal place cause tries_after) → MeetsRefusal form takes refuses bytes around old tries_before tries_after begin limit cause
refused_at form refuses laws bytes around within old tries_before tries_after begin limit place cause fits ordered bounded stands
    (is_refused {found = found} sound refused) =
    let places = found_places form bytes begin limit found sound ordered bounded in
    let children =
    placed_in form bytes (around ++ (found.span ∷ [])) (begin + found.child_begin) (begin + found.child_end)
    (omega (arith, places)) (omega (arith, places)) in
    let others = placed_in form bytes around (begin + found.next_sibling) limit (omega (arith, places)) bounded in
    record {
      earlier = [];
      met = placed_at begin around found;
      later = children.0 ++ others.0;
      sees = one_scope sound children.1 others.1;
      to = old;
      taken = laws.none old;
      refused = refused around stands;
      first = λ to to_end fault reach faulty. (between form bytes begin limit to to_end ordered bounded reach).low;
      low = omega arith;
      high = ordered;
      tries = omega arith;
    }
refused_at form {takes = takes} refuses laws bytes around within old tries_before tries_after begin limit place cause fits ordered
    bounded stands (stops_within {kept = kept} {visited = visited} {found = found} sound enter early inner) =
    let places = found_places form bytes begin limit found sound ordered bounded in
    let first = enter around stands in
    let children =
    refused_at form refuses laws bytes (around ++ (found.span ∷ [])) kept visited (tries_before + 1) tries_after
    (begin + found.child_begin) (begin + found.child_end) place cause fits (omega (arith, places)) (omega (arith, places)) first.1
    inner in
    let others = placed_in form bytes around (begin + found.next_sibling) limit (omega (arith, places)) bounded in
    let children_low = children.low in
    let children_high = children.high in
    record {
      earlier = placed_at begin around found ∷ children.earlier;
      met = children.met;
      later = children.later ++ others.0;
      sees =
          subst (λ (any : List PlacedScope). Sees form bytes around begin limit any)
          (regroup_inner (placed_at begin around found) children.met children.earlier children.later others.0)
          (one_scope sound children.sees others.1);
      to = children.to;
      taken =
          laws.more old visited children.to (record { around = around; span = found.span } ∷ []) (scopes_of children.earlier) first.0
          children.taken;
      refused = children.refused;
      first =
          λ to to_end fault reach faulty.
          by_parts form bytes begin limit to to_end children.met.place found fault sound
          (λ way. children.first to to_end fault way faulty)
          (λ way. let lies = between form bytes (begin + found.next_sibling) limit to to_end (omega (arith, places)) bounded
          way in omega (arith, places, children_high, lies)) reach faulty;
      low = omega (arith, places, children_low);
      high = omega (arith, places, children_high);
      tries = omega (arith, children.tries);
    }
refused_at form {takes = takes} refuses laws bytes around within old tries_before tries_after begin limit place cause fits ordered
    bounded stands (goes_on {kept = kept} {visited = visited} {left = left} {later_tries = tries_between} {found = found} sound enter
    inner later) =
    let places = found_places form bytes begin limit found sound ordered bounded in
    let first = enter around stands in
    let children =
    walks_over form refuses laws bytes (around ++ (found.span ∷ [])) kept visited left (tries_before + 1) tries_between
    (begin + found.child_begin) (begin + found.child_end) fits (omega (arith, places)) (omega (arith, places)) first.1 inner in
    let others =
    refused_at form refuses laws bytes around within left tries_between tries_after (begin + found.next_sibling) limit place cause
    fits (omega (arith, places)) bounded (still_after laws old visited left _ _ within around first.0 children.taken stands) later in
    let others_low = others.low in
    let others_high = others.high in
    record {
      earlier = placed_at begin around found ∷ (children.placed ++ others.earlier);
      met = others.met;
      later = others.later;
      sees =
          subst (λ (any : List PlacedScope). Sees form bytes around begin limit any)
          (regroup_later (placed_at begin around found) others.met children.placed others.earlier others.later)
          (one_scope sound children.sees others.sees);
      to = others.to;
      taken =
          taken_more laws old visited left others.to (placed_at begin around found) children.placed others.earlier first.0
          children.taken others.taken;
      refused = others.refused;
      first =
          λ to to_end fault reach faulty.
          by_parts form bytes begin limit to to_end others.met.place found fault sound
          (λ way. absurd (children.faultless to to_end fault way faulty)) (λ way. others.first to to_end fault way faulty) reach
          faulty;
      low = omega (arith, places, others_low);
      high = omega (arith, others_high);
      tries = omega (arith, children.tries, others.tries, length-append children.placed others.earlier);
    }

-- ---- the same of all bytes, as the specs say it

pub all_taken : (form : Form)
    → {V W : Type 0} {takes : V → List ScopeInContext → V → Type 0} (refuses : V → ScopeInContext → Error → Type 0)
    {stands_for : V → W → List Span → Type 0} (laws : VisitorLaws takes stands_for) (bytes : List ℕ) (within : W) (old new : V)
    (tries : ℕ)
    → IsBytes bytes → stands_for old within []
    → Goes form (Entering takes stands_for) (Refusing refuses stands_for) bytes within old 0 0 (length bytes) (over_all new tries)
    → TakesAll form takes old new bytes tries
all_taken form {takes = takes} refuses laws bytes within old new tries fits stands goes =
    let all = walks_over form refuses laws bytes [] within old new 0 tries 0 (length bytes) fits (omega arith) (omega arith) stands goes in
    record {
      forest = all.forest;
      spells = record { whole = sym (whole_region bytes) ∙ all.spelled; fits = all.fits };
      taken = subst (λ (any : List ScopeInContext). takes old any new) all.same all.taken;
      tries = omega (arith, all.tries, ap length all.same, map_length (λ (one : PlacedScope). one.scope) all.placed);
    }
  where
    map_length : {A B : Type 0} (f : A → B) (any : List A) → length (map f any) ≡ length any
    map_length f [] = refl
    map_length f (one ∷ any) = let e = map_length f any in omega arith

pub stops_at_fault : (form : Form)
    → {V W : Type 0} {takes : V → List ScopeInContext → V → Type 0} (refuses : V → ScopeInContext → Error → Type 0)
    {stands_for : V → W → List Span → Type 0} (laws : VisitorLaws takes stands_for) (bytes : List ℕ) (within : W) (old new : V)
    (tries place : ℕ) (fault : Error)
    → IsBytes bytes → stands_for old within []
    → Goes form (Entering takes stands_for) (Refusing refuses stands_for) bytes within old 0 0 (length bytes)
    (at_fault new place fault tries) → StopsAtFault form takes old new bytes tries fault
stops_at_fault form refuses laws bytes within old new tries place fault fits stands goes =
    let met =
    meets form refuses laws bytes [] within old new 0 tries 0 (length bytes) place fault fits (omega arith) (omega arith) stands
    goes in
    let lies = between form bytes 0 (length bytes) place met.end (omega arith) (omega arith) met.reached in
    let inside = fault_inside form bytes place met.end fault lies.middle met.stands in
    record {
      place = place;
      first = record { end = met.end; reached = met.reached; stands = met.stands; least = met.least };
      placed = met.placed;
      sees = met.sees;
      taken = met.taken;
      tries = omega (arith, met.tries, tries_at bytes place met.end inside);
    }

pub stops_at_refusal : (form : Form)
    → {V W : Type 0} {takes : V → List ScopeInContext → V → Type 0} (refuses : V → ScopeInContext → Error → Type 0)
    {stands_for : V → W → List Span → Type 0} (laws : VisitorLaws takes stands_for) (bytes : List ℕ) (within : W) (old : V)
    (tries place : ℕ) (cause : Error)
    → IsBytes bytes → stands_for old within []
    → Goes form (Entering takes stands_for) (Refusing refuses stands_for) bytes within old 0 0 (length bytes)
    (at_refusal place cause tries) → StopsAtRefusal form takes refuses old bytes tries cause
stops_at_refusal form refuses laws bytes within old tries place cause fits stands goes =
    let met =
    refused_at form refuses laws bytes [] within old 0 tries 0 (length bytes) place cause fits (omega arith) (omega arith) stands
    goes in
    record {
      earlier = met.earlier;
      met = met.met;
      later = met.later;
      sees = met.sees;
      to = met.to;
      taken = met.taken;
      refused = met.refused;
      first = met.first;
      tries = omega (arith, met.tries);
    }
