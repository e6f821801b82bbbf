-- What is inserted so far is a beginning, and details that have ids are refused for memory alone.
use Rattle.std.proofs.Common.{rules, ◌≡◌, Ok, Err, refl, ◌∙◌}
use Rattle.std.specs.Prelude.{IfErr}
use Rattle.std.proofs.lemmas.Result.{err_from_is_err_and}
use Rattle.std.specs.Arc.{arc_value}
use Rattle.puffin_data.specs.declared.error.Error.TheVariants.{Memory}
use Rattle.puffin_threads.specs.Details.{details_of}
use Rattle.puffin_threads.proofs.lemmas.Ids.{never_missing}
use Rattle.puffin_threads.proofs.InsertingAll.{tested, id_at, memory_alone, learnt_so_far}
use Rattle.puffin_threads.proofs.scope_details.collection.ScopeCollection.insert_all.Goals as goal

pub returns-then-any_lacks_id-clause-missing : goal.returns-then-any_lacks_id-clause-missing
returns-then-any_lacks_id-clause-missing c =
    (λ is. tested _ c.args.details.now c.any_lacks_id.ensures ∙ c.if-any_lacks_id.true, λ lacks. refl)

pub returns-in_err-clone-clause-missing : goal.returns-in_err-clone-clause-missing
returns-in_err-clone-clause-missing c =
    let memory : IfErr c.from_residual.result (λ e. e ≡ Memory) = search rules in
    never_missing c.from_residual.result _ memory
    (tested _ c.args.details.now c.any_lacks_id.ensures ∙ c.if-any_lacks_id.false)

pub returns-in_err-clone-clause-err : goal.returns-in_err-clone-clause-err
returns-in_err-clone-clause-err c =
    learnt_so_far _ c.args.details.now c.loop-details.details-index _ _ c.loop-details.invariant

pub returns-in_err-_kept-clause-missing : goal.returns-in_err-_kept-clause-missing
returns-in_err-_kept-clause-missing c =
    let (cause, is_err, same_cause) =
    err_from_is_err_and c.from_residual-in_err-_kept.result c.from_residual-in_err-_kept.ensures.1 in
    let none = tested _ c.args.details.now c.any_lacks_id.ensures ∙ c.if-any_lacks_id.false in
    let memory =
    memory_alone c.insert.result c.in_err-_kept.field-0.0 (details_of (arc_value c.in_ok-clone.field-0))
    (id_at c.args.details.now c.loop-details.details-index c.details-item.result c.in_ok-clone.field-0 none
    c.loop-details-test.true c.details-item.is c.in_ok-clone.ensures.cases) c.in_err-_kept.was
    c.insert.ensures.missing c.in_err-_kept.ensures.cause in
    rw is_err (never_missing (Err cause) _ (same_cause ∙ memory) none)

pub returns-in_err-_kept-clause-err : goal.returns-in_err-_kept-clause-err
returns-in_err-_kept-clause-err c =
    learnt_so_far _ c.args.details.now c.loop-details.details-index _ _
    (c.in_err-_kept.ensures.err ∙ c.loop-details.invariant)

pub returns-clause-missing : goal.returns-clause-missing
returns-clause-missing c =
    never_missing (Ok (tt {0})) _ tt (tested _ c.args.details.now c.any_lacks_id.ensures ∙ c.if-any_lacks_id.false)
