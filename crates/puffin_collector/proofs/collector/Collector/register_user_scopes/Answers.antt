-- One more scope is registered, or what is registered so far is a beginning.
use Rattle.std.proofs.Common.{◌≡◌, ◌+◌, List, ℕ, [], ◌∷◌, ◌++◌, take, sym, ap, ◌∙◌, subst, arith}
use Rattle.std.proofs.lemmas.Result.{err_from_is_err_and}
use Rattle.std.proofs.lemmas.List.{take_more, map-append}
use Rattle.puffin_threads.specs.declared.scope_details.details.ScopeDetails.{ScopeDetails}
use Rattle.puffin_threads.specs.Details.{Details, details_of, details_seen}
use Rattle.puffin_collector.specs.Collector.Registering.{Adds}
use Rattle.puffin_collector.proofs.lemmas.Registrations.{Adds-none, Adds-more, AddsSome-none, AddsSome-at}
use Rattle.puffin_collector.proofs.collector.Collector.register_user_scopes.Goals as goal

-- no memory for the ids: none is registered
pub returns-in_err-scope_ids-clause-err : goal.returns-in_err-scope_ids-clause-err
returns-in_err-scope_ids-clause-err c =
    let passed_on = err_from_is_err_and c.from_residual.result c.from_residual.ensures.1 in
    rw (passed_on.1, passed_on.2) (AddsSome-none c.args.self.now (details_seen c.args.details.now))

pub loop-details-init : goal.loop-details-init
loop-details-init c =
    let self = c.args.self.now in
    record {
      added = subst (λ (ids : List ℕ). Adds self [] ids self) (sym c.in_ok-scope_ids.ensures.items) (Adds-none self);
      room = c.in_ok-scope_ids.ensures.capacity;
      filled = c.in_ok-scope_ids.ensures.len;
    }

-- one is refused: those before it are registered
pub returns-in_err-id-clause-err : goal.returns-in_err-id-clause-err
returns-in_err-id-clause-err c =
    let passed_on = err_from_is_err_and c.from_residual-in_err-id.result c.from_residual-in_err-id.ensures.1 in
    let loop = c.loop-details in
    let refusal = c.in_err-id.ensures in
    rw (passed_on.1, passed_on.2)
    (AddsSome-at c.args.self.now loop.self c.register_user_scope.new.self c.args.details.now loop.details-index c.details-item.result
    loop.scope_ids.items c.in_err-id.field-0.0 c.loop-details-test.true c.details-item.is loop.invariant.added refusal.err refusal.cause)

pub loop-details-preserved : goal.loop-details-preserved
loop-details-preserved c =
    let old = c.args.self.now in
    let new = c.register_user_scope.new.self in
    let loop = c.loop-details in
    let i = loop.details-index in
    let details = c.args.details.now in
    let this = c.details-item.result in
    let asked = details_seen (take i details) in
    let more : details_seen (take (i + 1) details) ≡ asked ++ (details_of this ∷ []) =
    ap details_seen (take_more details i this c.loop-details-test.true
    ∙ ap (λ (one : ScopeDetails). take i details ++ (one ∷ [])) (sym c.details-item.is))
    ∙ map-append details_of (take i details) (this ∷ []) in
    let one_more = Adds-more old loop.self new asked loop.scope_ids.items (details_of this) c.in_ok-id.id
    loop.invariant.added c.in_ok-id.ensures.ok in
    let pushed = subst (λ (ids : List ℕ). Adds old (asked ++ (details_of this ∷ [])) ids new)
    (sym c.push_reserved.ensures.items) one_more in
    record {
      added = subst (λ (asked : List Details). Adds old asked c.push_reserved.new.self.items new) (sym more) pushed;
      room = omega (arith, loop.invariant.room, c.push_reserved.ensures.capacity);
      filled = omega (arith, loop.invariant.filled, c.push_reserved.ensures.len);
    }
