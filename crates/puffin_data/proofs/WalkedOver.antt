-- What a walk with a visitor comes to that goes over its whole region: the region spells a forest.
use Rattle.std.proofs.Common.{◌≡◌, ℕ, ◌+◌, ◌-◌, ◌≤◌, List, [], ◌∷◌, ◌++◌, length, take, drop, refl, sym, ap, subst, ◌∙◌, arith}
use Rattle.std.proofs.lemmas.List.{length-append, map-append}
use Rattle.puffin_data.specs.declared.data.form.Form.{Form}
use Rattle.puffin_data.specs.declared.error.Error.{Error}
use Rattle.puffin_data.specs.Forest.{Span, Forest, empty, node, IsForest}
use Rattle.puffin_data.specs.Forest.Spelling.{spelling}
use Rattle.puffin_data.specs.Walk.Reading.{FoundScope}
use Rattle.puffin_data.specs.Walk.{region, IsFaultAt, Reaches}
use Rattle.puffin_data.specs.Walk.PlacedScopes.{ScopeInContext, nested_in, PlacedScope, Sees, no_scope, one_scope, scopes_of}
use Rattle.puffin_data.specs.Walk.Visitor.{Entering, Refusing}
use Rattle.puffin_data.proofs.lemmas.Numbers.{IsBytes, IsBytes-drop, IsBytes-take}
use Rattle.puffin_data.proofs.Spelled.{is_spelled}
use Rattle.puffin_data.proofs.Resuming.{found_places}
use Rattle.puffin_data.proofs.Regions.{length-region, part_of_region, rest_of_region, empty_region, nothing_is_not_sound}
use Rattle.puffin_data.proofs.Completes.{nothing_reached, after_sound, joined}
use Rattle.puffin_data.proofs.Going.{over_all, Goes, ends, stops_within, goes_on}

-- laws of what a visitor takes, and of what it keeps of open scopes
pub record VisitorLaws {V W : Type 0} (takes : V → List ScopeInContext → V → Type 0)
    (stands_for : V → W → List Span → Type 0) : Type 0 where
  pub none : (state : V) → takes state [] state
  pub more : (old mid new : V) (first second : List ScopeInContext) → takes old first mid → takes mid second new →
      takes old (first ++ second) new
  pub still : (old new : V) (scopes : List ScopeInContext) (within : W) (around : List Span) → takes old scopes new →
      stands_for old within around → stands_for new within around

-- a scope that was found, at its place within others
abbrev pub placed_at : ℕ → List Span → FoundScope → PlacedScope
placed_at place around found = record { place = place; scope = record { around = around; span = found.span } }

-- the scopes of a placed one, of those in it and of those after it
scopes_split : (first : PlacedScope) (inner later : List PlacedScope)
    → scopes_of (first ∷ (inner ++ later)) ≡ (first.scope ∷ []) ++ (scopes_of inner ++ scopes_of later)
scopes_split first inner later =
    ap (λ (any : List ScopeInContext). first.scope ∷ any) (map-append (λ (one : PlacedScope). one.scope) inner later)

-- ---- a walk over its whole region

-- the region spells a forest, and the visitor has taken its scopes
pub record WalksOver (form : Form) {V : Type 0} (takes : V → List ScopeInContext → V → Type 0) (bytes : List ℕ) (around : List Span)
    (old new : V) (tries_before tries_after begin limit : ℕ) : Type 0 where
  pub forest : Forest
  pub fits : IsForest form forest
  pub spelled : region bytes begin limit ≡ spelling form forest
  pub placed : List PlacedScope
  pub sees : Sees form bytes around begin limit placed
  pub same : scopes_of placed ≡ nested_in around forest
  pub taken : takes old (scopes_of placed) new
  pub tries : tries_after ≡ tries_before + length placed
  pub faultless : (to to_end : ℕ) (fault : Error) → Reaches form bytes begin limit to to_end → IsFaultAt form bytes to to_end fault → ⊥

-- the scopes of a placed one and of those behind it, from those of its parts
pub same_scopes : (first : PlacedScope) (inner later : List PlacedScope) (inner_scopes later_scopes : List ScopeInContext)
    → scopes_of inner ≡ inner_scopes → scopes_of later ≡ later_scopes
    → scopes_of (first ∷ (inner ++ later)) ≡ first.scope ∷ (inner_scopes ++ later_scopes)
same_scopes first inner later inner_scopes later_scopes inner_is later_is =
    scopes_split first inner later
    ∙ ap (λ (any : List ScopeInContext). first.scope ∷ (any ++ scopes_of later)) inner_is
    ∙ ap (λ (any : List ScopeInContext). first.scope ∷ (inner_scopes ++ any)) later_is

-- what is taken of a scope, its children and its later siblings is taken of all of them
pub taken_more : {V : Type 0} {W : Type 0} {takes : V → List ScopeInContext → V → Type 0} {stands_for : V → W → List Span → Type 0}
    (laws : VisitorLaws takes stands_for) (old visited left new : V) (scope : PlacedScope) (inner later : List PlacedScope)
    → takes old (scope.scope ∷ []) visited → takes visited (scopes_of inner) left → takes left (scopes_of later) new
    → takes old (scopes_of (scope ∷ (inner ++ later))) new
taken_more {V = V} {takes = takes} laws old visited left new scope inner later takes_scope takes_inner takes_later =
    subst (λ (any : List ScopeInContext). takes old any new) (sym (scopes_split scope inner later))
    (laws.more old visited new (scope.scope ∷ []) (scopes_of inner ++ scopes_of later) takes_scope
    (laws.more visited left new (scopes_of inner) (scopes_of later) takes_inner takes_later))

-- what is kept around a scope still stands after it
pub still_after : {V : Type 0} {W : Type 0} {takes : V → List ScopeInContext → V → Type 0} {stands_for : V → W → List Span → Type 0}
    (laws : VisitorLaws takes stands_for) (old visited left : V) (scope : ScopeInContext) (inner : List ScopeInContext) (within : W)
    (around : List Span)
    → takes old (scope ∷ []) visited → takes visited inner left → stands_for old within around → stands_for left within around
still_after laws old visited left scope inner within around takes_scope takes_inner stands =
    laws.still visited left inner within around takes_inner (laws.still old visited (scope ∷ []) within around takes_scope stands)

-- A walk over its whole region. The scope that goes on gives the node, its children and its siblings the two forests.
pub walks_over : (form : Form)
    → {V W : Type 0} {takes : V → List ScopeInContext → V → Type 0} (refuses : V → ScopeInContext → Error → Type 0)
    {stands_for : V → W → List Span → Type 0} (laws : VisitorLaws takes stands_for) (bytes : List ℕ) (around : List Span) (within : W)
    (old new : V) (tries_before tries_after begin limit : ℕ)
    → IsBytes bytes → begin ≤ limit → limit ≤ length bytes → stands_for old within around
    → Goes form (Entering takes stands_for) (Refusing refuses stands_for) bytes within old tries_before begin limit
    (over_all new tries_after) → WalksOver form takes bytes around old new tries_before tries_after begin limit
walks_over form refuses laws bytes around within old new tries_before tries_after begin limit fits ordered bounded stands ends =
    record {
      forest = empty;
      fits = tt;
      spelled = empty_region bytes begin;
      placed = [];
      sees = no_scope (λ found sound. nothing_is_not_sound form (region bytes begin begin) found (empty_region bytes begin) sound);
      same = refl;
      taken = laws.none old;
      tries = omega arith;
      faultless =
          λ to to_end fault reach faulty.
          nothing_reached form bytes begin begin to to_end fault (empty_region bytes begin) reach faulty;
    }
walks_over form refuses laws bytes around within old new tries_before tries_after begin limit fits ordered bounded stands
    (stops_within sound enter early inner) =
    absurd early
walks_over form refuses laws bytes around within old new tries_before tries_after begin limit fits ordered bounded stands
    (goes_on {kept = kept} {visited = visited} {left = left} {later_tries = tries_between} {found = found} sound enter inner later) =
    let places = found_places form bytes begin limit found sound ordered bounded in
    let first = enter around stands in
    let children =
    walks_over form refuses laws bytes (around ++ (found.span ∷ [])) kept visited left (tries_before + 1) tries_between
    (begin + found.child_begin) (begin + found.child_end) fits (omega (arith, places)) (omega (arith, places)) first.1 inner in
    let others =
    walks_over form refuses laws bytes around within left new tries_between tries_after (begin + found.next_sibling) limit fits
    (omega (arith, places)) bounded (still_after laws old visited left _ _ within around first.0 children.taken stands) later in
    let part = region bytes begin limit in
    let spell = is_spelled form part found (IsBytes-take (limit - begin) (drop begin bytes) (IsBytes-drop begin bytes fits)) sound in
    let inner_is : take (found.child_end - found.child_begin) (drop found.child_begin part)
    ≡ region bytes (begin + found.child_begin) (begin + found.child_end) =
    sym (part_of_region bytes begin limit found.child_begin found.child_end places.inside (omega (arith, places))) in
    let rest_is : drop found.next_sibling part ≡ region bytes (begin + found.next_sibling) limit =
    sym (rest_of_region bytes begin limit found.next_sibling (omega (arith, places))) in
    let size : length (take (found.child_end - found.child_begin) (drop found.child_begin part))
    ≡ found.child_end - found.child_begin =
    ap length inner_is
    ∙ length-region bytes (begin + found.child_begin) (begin + found.child_end) (omega (arith, places))
    ∙ omega arith in
    record {
      forest = node found.span children.forest others.forest;
      fits = (spell.fits, children.fits, others.fits);
      spelled =
          joined form part _ _ found.span (found.child_end - found.child_begin) children.forest others.forest spell.whole size
          (inner_is ∙ children.spelled) (rest_is ∙ others.spelled);
      placed = placed_at begin around found ∷ (children.placed ++ others.placed);
      sees = one_scope sound children.sees others.sees;
      same = same_scopes (placed_at begin around found) children.placed others.placed _ _ children.same others.same;
      taken =
          taken_more laws old visited left new (placed_at begin around found) children.placed others.placed first.0 children.taken
          others.taken;
      tries = omega (arith, length-append children.placed others.placed, children.tries, others.tries);
      faultless =
          λ to to_end fault reach faulty.
          after_sound form bytes begin limit to to_end found fault sound (λ way. children.faultless to to_end fault way faulty)
          (λ way. others.faultless to to_end fault way faulty) reach faulty;
    }
