use Rattle.std.proofs.Common.{List, [], subst, ap, ◌∙◌, get_or, cond, eqb, ◌≡◌, ℕ, ◌+◌, arith, length, reverse}
use Rattle.std.proofs.lemmas.List.{length_push, nil_from_length}
use Rattle.std.proofs.lemmas.Result.{err_from_is_err_and}
use Rattle.puffin_data.specs.declared.data.walk.Walk.{Walk}
use Rattle.puffin_data.specs.Walk.{region}
use Rattle.puffin_data.specs.inner.Walking.{tries_in, no_scope_counted}
use Rattle.puffin_data.proofs.FoundScope.{passes}
use Rattle.puffin_data.specs.Walk.FoundScopes.{found_of}
use Rattle.puffin_data.proofs.Resuming.{nested_low, nested_push, nested_pop, found_places, enters, exits, done, stops_at, whole, IsNested}
use Rattle.puffin_data.proofs.data.walk.walk_bytes.Goals as goal

-- The loop's invariant says that whatever the walk comes to from here, it comes to from the beginning. So each answer says how the
-- walk goes on from here: it enters a scope, leaves a region, or ends.

-- a scope lies within its region, so no sum overflows and the walk goes forward
pub overflow_add-end : goal.overflow_add-end
overflow_add-end c =
    let places =
    found_places c.args.form c.args.bytes.now c.scopes.at c.scopes.end (found_of c.in_ok-scope.scope) c.in_ok-scope.ensures.sound
    c.scopes.invariant.within (omega arith) in
    omega (arith, places)

pub overflow_add-at : goal.overflow_add-at
overflow_add-at c =
    let places =
    found_places c.args.form c.args.bytes.now c.scopes.at c.scopes.end (found_of c.in_ok-scope.scope) c.in_ok-scope.ensures.sound
    c.scopes.invariant.within (omega arith) in
    omega (arith, places)

pub scopes-smaller-then-at-end : goal.scopes-smaller-then-at-end
scopes-smaller-then-at-end c =
    let places =
    found_places c.args.form c.args.bytes.now c.scopes.at c.scopes.end (found_of c.in_ok-scope.scope) c.in_ok-scope.ensures.sound
    c.scopes.invariant.within (omega arith) in
    omega (arith, places)

-- the walk enters a scope
pub scopes-preserved-then-at-end : goal.scopes-preserved-then-at-end
scopes-preserved-then-at-end c =
    let form = c.args.form in
    let bytes = c.args.bytes.now in
    let now = c.scopes in
    let part = region bytes now.at now.end in
    let pushed = c.in_ok-push.ensures in
    let counted = c.with_scope-walk in
    let found = found_of c.in_ok-scope.scope in
    let sound = c.in_ok-scope.ensures.sound in
    let places = found_places form bytes now.at now.end found sound now.invariant.within (omega arith) in
    let grown : length c.push.new.self.items ≡ length now.ends.items + 1 = ap length pushed.items ∙ length_push now.ends.items now.end in
    let deep : c.len.result ≡ length c.push.new.self.items = omega (arith, grown, c.len.ensures, pushed.len) in
    let one_more : counted.result.num_scopes ≡ now.walk.num_scopes + 1 = ap (λ (walk : Walk). walk.num_scopes) counted.ensures in
    let begins : get_or part 0 0 ≡ 40 = (passes form part found sound).begins in
    let tried : c.next_scope.new.tries ≡ now.tries + tries_in part = c.next_scope.ensures.tried in
    let one_try : tries_in part ≡ 1 = ap (λ (byte : ℕ). cond (eqb byte 40) 1 0) begins in
    record {
      within = omega (arith, places);
      nested =
          nested_push now.ends.items c.push.new.self.items now.end (now.at + c.in_ok-scope.scope.child_end) (length bytes)
          pushed.items now.invariant.nested (omega (arith, places));
      inside = omega (arith, places, pushed.len);
      tried = omega (arith, tried, one_try, one_more);
      few = omega (arith, places, one_more, grown);
      resumes = λ result rest. now.invariant.resumes result (
          enters form bytes now.ends.items c.push.new.self.items now.walk counted.result c.len.result now.at now.end found result
          sound places.next pushed.items deep counted.ensures rest);
    }

-- the walk leaves a region
pub scopes-smaller : goal.scopes-smaller
scopes-smaller c =
    let now = c.scopes in
    let size = length c.args.bytes.now in
    let outer = c.in-Some.outer in
    let left = nested_pop c.pop.new.self.items now.ends.items now.end outer size c.in-Some.ensures.items now.invariant.nested in
    omega (arith, left.0, nested_low c.pop.new.self.items outer size left.1)

pub scopes-preserved : goal.scopes-preserved
scopes-preserved c =
    let form = c.args.form in
    let bytes = c.args.bytes.now in
    let now = c.scopes in
    let outer = c.in-Some.outer in
    let popped = c.in-Some.ensures.items in
    let left = nested_pop c.pop.new.self.items now.ends.items now.end outer (length bytes) popped now.invariant.nested in
    let shrunk : length now.ends.items ≡ length c.pop.new.self.items + 1 =
    ap length popped ∙ length_push c.pop.new.self.items outer in
    record {
      within = omega (arith, left.0);
      nested = left.1;
      inside = nested_low c.pop.new.self.items outer (length bytes) left.1;
      tried = now.invariant.tried;
      few = omega (arith, shrunk);
      resumes = λ result rest. now.invariant.resumes result (
          exits form bytes c.pop.new.self.items now.ends.items now.walk now.at now.end outer result popped (omega arith) rest);
    }

-- a fault ends the walk
pub returns-in_err-scope-clause-walked : goal.returns-in_err-scope-clause-walked
returns-in_err-scope-clause-walked c =
    let form = c.args.form in
    let bytes = c.args.bytes.now in
    let now = c.scopes in
    let returned = err_from_is_err_and c.from_residual.result c.from_residual.ensures.1 in
    let tried : c.next_scope.new.tries ≡ now.tries + tries_in (region bytes now.at now.end) = c.next_scope.ensures.tried in
    let told =
    stops_at form bytes now.ends.items now.walk now.at now.end c.next_scope.new.tries c.in_err-scope.field-0.0
    c.in_err-scope.ensures.fault (omega (arith, tried)) now.invariant.resumes in
    rw (returned.1, returned.2) told

-- the walk is at the end of all bytes
pub returns-in-None-clause-walked : goal.returns-in-None-clause-walked
returns-in-None-clause-walked c =
    let form = c.args.form in
    let bytes = c.args.bytes.now in
    let now = c.scopes in
    let nothing : now.ends.items ≡ [] = nil_from_length now.ends.items (omega (arith, c.in-None.ensures.cases)) in
    let ended : now.end ≡ length bytes =
    subst (λ (any : List ℕ). IsNested now.end (reverse any) (length bytes)) nothing now.invariant.nested in
    let from_here = done form bytes now.ends.items now.walk now.at now.end nothing (omega arith) in
    (whole form bytes no_scope_counted 0 (length bytes) _ (now.invariant.resumes _ from_here), now.invariant.tried)
