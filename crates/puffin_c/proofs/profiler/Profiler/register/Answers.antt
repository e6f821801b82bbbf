-- Details with an id are learned unless memory runs out.
use Rattle.std.proofs.Common.{◌≡◌, List, [], ◌∷◌, refl, ap, ◌∙◌, subst, inr}
use Rattle.std.proofs.lemmas.Result.{err_from_is_err_and}
use Rattle.std.specs.List.{list_any}
use Rattle.puffin_threads.specs.Details.{Details, details_of, with_id, lacks_id, shared_details}
use Rattle.puffin_threads.specs.declared.scope_details.details.ScopeDetails.{ScopeDetails}
use Rattle.puffin_collector.specs.Collector.Collecting.{KnowsSome}
use Rattle.puffin_c.proofs.Frames.{memory_alone}
use Rattle.puffin_c.proofs.profiler.Profiler.register.Goals as goal

pub returns-in_err-details-clause-err : goal.returns-in_err-details-clause-err
returns-in_err-details-clause-err c =
    let (_, is_err, same_cause) = err_from_is_err_and c.from_residual-in_err-details.result c.from_residual-in_err-details.ensures.1 in
    rw is_err (inr (same_cause, c.in_ok-id.id, c.args.self.now.collector, ([], (_, refl), refl), refl))

pub returns-in_err-learn-clause-err : goal.returns-in_err-learn-clause-err
returns-in_err-learn-clause-err c =
    let named : Details = with_id (details_of c.args.details) c.in_ok-id.id in
    let given : shared_details (c.in_ok-details.details ∷ []) ≡ named ∷ [] =
    ap (λ (d : ScopeDetails). details_of d ∷ []) c.in_ok-details.ensures.ok ∙ ap (λ (d : Details). d ∷ []) c.with_scope_id.ensures in
    let (_, is_err, same_cause) = err_from_is_err_and c.from_residual-in_err-learn.result c.from_residual-in_err-learn.ensures.1 in
    let memory = memory_alone c.learn.result c.in_err-learn.field-0.0
    (list_any lacks_id (shared_details (c.in_ok-details.details ∷ []))) c.in_err-learn.was
    (ap (list_any lacks_id) given) c.learn.ensures.missing c.in_err-learn.ensures.cause in
    rw is_err (inr (
      same_cause ∙ memory,
      c.in_ok-id.id,
      c.learn.new.self,
      subst (λ (ds : List Details). KnowsSome c.args.self.now.collector ds c.learn.new.self) given c.in_err-learn.ensures.err,
      refl,
    ))
