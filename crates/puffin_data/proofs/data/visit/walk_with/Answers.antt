use Rattle.std.proofs.Common.{ℕ, ◌≡◌, ◌+◌, List, [], ◌∷◌, ◌++◌, length, reverse, Some, ap, subst, sym, ◌∙◌, get_or, cond, eqb, arith, inl, inr, refl, ◌-◌, drop}
use Rattle.std.proofs.lemmas.List.{length_push, nil_from_length}
use Rattle.std.proofs.lemmas.List.Elements.{All-push, All-pop}
use Rattle.std.proofs.lemmas.Result.{err_from_is_err_and}
use Rattle.puffin_data.specs.declared.data.visit.Region.{Region}
use Rattle.puffin_data.specs.Forest.{Span}
use Rattle.puffin_data.specs.Walk.{region}
use Rattle.puffin_data.specs.inner.Walking.{tries_in}
use Rattle.puffin_data.specs.Walk.FoundScopes.{found_of}
use Rattle.puffin_data.specs.Walk.Visitor.{StopsAtFault, StopsAtRefusal}
use Rattle.puffin_data.proofs.lemmas.Numbers.{IsBytes, IsBytes-drop, IsBytes-take}
use Rattle.puffin_data.proofs.FoundScope.{passes}
use Rattle.puffin_data.proofs.Resuming.{found_places, IsNested}
use Rattle.puffin_data.proofs.Spelled.{is_spelled}
use Rattle.puffin_data.proofs.Going.{nested_low_regions, regions_push, regions_pop, ends_of, enters_region, leaves_region, ended, fails, refusing, all_of_it}
use Rattle.puffin_data.proofs.Visited.{all_taken, stops_at_fault, stops_at_refusal}
use Rattle.puffin_data.proofs.WalkedOver.{VisitorLaws}
use Rattle.puffin_data.proofs.data.visit.walk_with.Goals as goal

-- The loop's invariant says that whatever the walk comes to from here, it comes to from the beginning. So each answer says how the
-- walk goes on from here: it enters a scope, leaves a region, or ends.

-- a fault ends the walk
pub returns-in_err-scope-clause-err : goal.returns-in_err-scope-clause-err
returns-in_err-scope-clause-err g c =
    let form = c.args.form in
    let bytes = c.args.bytes.now in
    let now = c.scopes in
    let fault = c.in_err-scope.field-0.0 in
    let laws : VisitorLaws g.V.Visitor.takes g.V.Visitor.stands_for = record {
      none = (g.met.V.Visitor c.lifetimes assumption).takes_none;
      more = (g.met.V.Visitor c.lifetimes assumption).takes_more;
      still = (g.met.V.Visitor c.lifetimes assumption).still_stands;
    } in
    let fits : IsBytes bytes = λ index. omega (arith, c.type_inv.bytes index) in
    let returned = err_from_is_err_and c.from_residual.result c.from_residual.ensures.1 in
    let tried : c.next_scope.new.tries ≡ now.tries + tries_in (region bytes now.at now.region.end) = c.next_scope.ensures.tried in
    let from_here =
    fails form (reverse now.outers.items) now.region.within now.visitor now.tries now.at now.region.end fault
    c.in_err-scope.ensures.fault in
    let from_begin = all_of_it form c.args.outside c.args.visitor.now 0 0 (length bytes) _ (now.invariant.resumes _ from_here) in
    let told =
    stops_at_fault form g.V.Visitor.refuses laws bytes c.args.outside c.args.visitor.now now.visitor _ now.at fault fits
    c.requires from_begin in
    rw (returned.1, returned.2) (inr (inl (subst
    (λ (any : ℕ). StopsAtFault form g.V.Visitor.takes c.args.visitor.now now.visitor bytes any fault) (sym tried) told)))

-- a scope that the visitor refuses ends the walk
pub returns-in_err-within-clause-err : goal.returns-in_err-within-clause-err
returns-in_err-within-clause-err g c =
    let form = c.args.form in
    let bytes = c.args.bytes.now in
    let now = c.scopes in
    let part = region bytes now.at now.region.end in
    let found = found_of c.in_ok-scope.scope in
    let sound = c.in_ok-scope.ensures.sound in
    let cause = c.in_err-within.field-0.0 in
    let laws : VisitorLaws g.V.Visitor.takes g.V.Visitor.stands_for = record {
      none = (g.met.V.Visitor c.lifetimes assumption).takes_none;
      more = (g.met.V.Visitor c.lifetimes assumption).takes_more;
      still = (g.met.V.Visitor c.lifetimes assumption).still_stands;
    } in
    let fits : IsBytes bytes = λ index. omega (arith, c.type_inv.bytes index) in
    let returned = err_from_is_err_and c.from_residual-in_err-within.result c.from_residual-in_err-within.ensures.1 in
    let begins : get_or part 0 0 ≡ 40 = (passes form part found sound).begins in
    let tried : c.next_scope.new.tries ≡ now.tries + tries_in part = c.next_scope.ensures.tried in
    let one_try : tries_in part ≡ 1 = ap (λ (byte : ℕ). cond (eqb byte 40) 1 0) begins in
    let one_more : c.next_scope.new.tries ≡ now.tries + 1 = omega (arith, tried, one_try) in
    rw (returned.1, returned.2) (elim (c.in_err-within.ensures.err) [
      | inl memory ↦ inl memory
      | inr refused ↦
          let from_here =
          refusing form (reverse now.outers.items) now.region.within now.visitor now.tries now.at now.region.end found cause sound
          refused in
          let from_begin = all_of_it form c.args.outside c.args.visitor.now 0 0 (length bytes) _ (now.invariant.resumes _ from_here) in
          let told =
          stops_at_refusal form g.V.Visitor.refuses laws bytes c.args.outside c.args.visitor.now (now.tries + 1) now.at cause fits
          c.requires from_begin in
          inr (inr (subst (λ (any : ℕ). StopsAtRefusal form g.V.Visitor.takes g.V.Visitor.refuses c.args.visitor.now bytes any cause)
          (sym one_more) told))
    ])

-- a scope that was read can be written
pub enter-requires : goal.enter-requires
enter-requires g c κs =
    let form = c.args.form in
    let bytes = c.args.bytes.now in
    let now = c.scopes in
    let part = region bytes now.at now.region.end in
    let fits : IsBytes bytes = λ index. omega (arith, c.type_inv.bytes index) in
    let part_fits : IsBytes part = IsBytes-take (now.region.end - now.at) (drop now.at bytes) (IsBytes-drop now.at bytes fits) in
    let spelled = is_spelled form part (found_of c.in_ok-scope.scope) part_fits c.in_ok-scope.ensures.sound in
    ((refl, tt), (now.invariant.stands, (form, spelled.fits)))

-- a scope lies within its region, so no sum overflows and the walk goes forward
pub overflow_add-region : goal.overflow_add-region
overflow_add-region g c =
    let places = found_places c.args.form c.args.bytes.now c.scopes.at c.scopes.region.end (found_of c.in_ok-scope.scope)
    c.in_ok-scope.ensures.sound c.scopes.invariant.within (omega arith) in
    omega (arith, places)

pub overflow_add-at : goal.overflow_add-at
overflow_add-at g c =
    let places = found_places c.args.form c.args.bytes.now c.scopes.at c.scopes.region.end (found_of c.in_ok-scope.scope)
    c.in_ok-scope.ensures.sound c.scopes.invariant.within (omega arith) in
    omega (arith, places)

pub scopes-smaller-then-at-region : goal.scopes-smaller-then-at-region
scopes-smaller-then-at-region g c =
    let places = found_places c.args.form c.args.bytes.now c.scopes.at c.scopes.region.end (found_of c.in_ok-scope.scope)
    c.in_ok-scope.ensures.sound c.scopes.invariant.within (omega arith) in
    omega (arith, places)

-- the walk enters a scope
pub scopes-preserved-then-at-region : goal.scopes-preserved-then-at-region
scopes-preserved-then-at-region g c =
    let form = c.args.form in
    let bytes = c.args.bytes.now in
    let now = c.scopes in
    let part = region bytes now.at now.region.end in
    let pushed = c.in_ok-push.ensures in
    let found = found_of c.in_ok-scope.scope in
    let sound = c.in_ok-scope.ensures.sound in
    let places = found_places form bytes now.at now.region.end found sound now.invariant.within (omega arith) in
    let grown : length c.push.new.self.items ≡ length now.outers.items + 1 =
    ap length pushed.items ∙ length_push now.outers.items now.region in
    let begins : get_or part 0 0 ≡ 40 = (passes form part found sound).begins in
    let tried : c.next_scope.new.tries ≡ now.tries + tries_in part = c.next_scope.ensures.tried in
    let one_try : tries_in part ≡ 1 = ap (λ (byte : ℕ). cond (eqb byte 40) 1 0) begins in
    let one_more : c.next_scope.new.tries ≡ now.tries + 1 = omega (arith, tried, one_try) in
    let enter = c.in_ok-within.ensures.ok in
    let around = now.invariant.stands.0 in
    let first = enter around now.invariant.stands.1 in
    let still : (one : Region _) → (spans : List Span) × g.V.Visitor.stands_for now.visitor one.within spans
    → (spans : List Span) × g.V.Visitor.stands_for c.enter.new.self one.within spans =
    λ one holds. (
      holds.0,
      (g.met.V.Visitor c.lifetimes assumption).still_stands now.visitor c.enter.new.self _ one.within holds.0 first.0 holds.1,
    ) in
    record {
      within = omega (arith, places);
      nested =
          regions_push now.outers.items c.push.new.self.items now.region (now.at + c.in_ok-scope.scope.child_end) (length bytes)
          pushed.items now.invariant.nested (omega (arith, places));
      inside = omega (arith, places, pushed.len);
      few = omega (arith, places, one_more, grown);
      stands = (around ++ (found.span ∷ []), first.1);
      outers_stand =
          rw pushed.items (All-push (λ (one : Region _). (spans : List Span) × g.V.Visitor.stands_for c.enter.new.self one.within spans)
          now.outers.items now.region
          (λ index default inside. still (get_or now.outers.items index default) (now.invariant.outers_stand index default inside))
          (still now.region now.invariant.stands));
      resumes = λ result rest. now.invariant.resumes result (
          enters_region form now.outers.items c.push.new.self.items now.region.within c.in_ok-within.within now.visitor
          c.enter.new.self now.tries c.next_scope.new.tries now.at now.region.end found result sound enter places.next pushed.items
          one_more rest);
    }

-- the walk is at the end of all bytes
pub returns-in-None-clause-ok : goal.returns-in-None-clause-ok
returns-in-None-clause-ok g c =
    let form = c.args.form in
    let bytes = c.args.bytes.now in
    let now = c.scopes in
    let laws : VisitorLaws g.V.Visitor.takes g.V.Visitor.stands_for = record {
      none = (g.met.V.Visitor c.lifetimes assumption).takes_none;
      more = (g.met.V.Visitor c.lifetimes assumption).takes_more;
      still = (g.met.V.Visitor c.lifetimes assumption).still_stands;
    } in
    let fits : IsBytes bytes = λ index. omega (arith, c.type_inv.bytes index) in
    let nothing : now.outers.items ≡ [] = nil_from_length now.outers.items (omega (arith, c.in-None.ensures.cases)) in
    let last : now.region.end ≡ length bytes =
    subst (λ (any : List (Region _)). IsNested now.region.end (reverse (ends_of any)) (length bytes)) nothing now.invariant.nested in
    let from_here =
    ended form now.outers.items now.region.within now.visitor now.tries now.at now.region.end nothing (omega arith) in
    let from_begin = all_of_it form c.args.outside c.args.visitor.now 0 0 (length bytes) _ (now.invariant.resumes _ from_here) in
    all_taken form g.V.Visitor.refuses laws bytes c.args.outside c.args.visitor.now now.visitor now.tries fits c.requires from_begin

-- the walk leaves a region
pub scopes-preserved : goal.scopes-preserved
scopes-preserved g c =
    let form = c.args.form in
    let bytes = c.args.bytes.now in
    let now = c.scopes in
    let outer = c.in-Some.outer in
    let popped = c.in-Some.ensures.items in
    let left = regions_pop c.pop.new.self.items now.outers.items now.region.end outer (length bytes) popped now.invariant.nested in
    let shrunk : length now.outers.items ≡ length c.pop.new.self.items + 1 =
    ap length popped ∙ length_push c.pop.new.self.items outer in
    let stand =
    All-pop (λ (one : Region _). (spans : List Span) × g.V.Visitor.stands_for now.visitor one.within spans) now.outers.items
    c.pop.new.self.items (Some outer) popped now.invariant.outers_stand in
    record {
      within = omega (arith, left.0);
      nested = left.1;
      inside = nested_low_regions c.pop.new.self.items outer.end (length bytes) left.1;
      few = omega (arith, shrunk);
      stands = stand.1;
      outers_stand = stand.0;
      resumes = λ result rest. now.invariant.resumes result (
          leaves_region form c.pop.new.self.items now.outers.items outer now.region.within now.visitor now.tries now.at
          now.region.end result popped (omega arith) rest);
    }
