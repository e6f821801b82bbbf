-- The handle is tested first, then the name, and then the view's frames are merged.
use Rattle.std.proofs.Common.{refl, subst, inr}
use Rattle.std.proofs.lemmas.Result.{err_from_is_err_and}
use Rattle.puffin_threads.specs.Thread.ThreadKey.{ThreadKey, key_of}
use Rattle.puffin_c.specs.declared.profiler.Profiler.{Profiler}
use Rattle.puffin_c.specs.Merges.{newest_fields, IsMergeOf, LacksMerge}
use Rattle.puffin_c.proofs.Refusals.{something_held}
use Rattle.puffin_c.proofs.MergesMade.{name_not_viewed}
use Rattle.puffin_c.proofs.merge.merge_view.Goals as goal

pub returns-in_err-info-clause-merges : goal.returns-in_err-info-clause-merges
returns-in_err-info-clause-merges c =
    let (cause, is_err, same_cause) = err_from_is_err_and c.from_residual.result c.from_residual.ensures.1 in
    let held = something_held _ _ c.args.profiler.now.tied c.if-not-profiler.false in
    rw is_err (name_not_viewed _ held _ _ _ cause _ same_cause c.in_err-info.ensures.err)

pub returns-in_err-answer-clause-merges : goal.returns-in_err-answer-clause-merges
returns-in_err-answer-clause-merges c =
    let (_, is_err, same_cause) = err_from_is_err_and c.from_residual-in_err-answer.result c.from_residual-in_err-answer.ensures.1 in
    let e = c.in_err-answer.field-0.0 in
    let q : Profiler = c.take-whole.result.value in
    let lacks = subst (λ (i : ThreadKey). LacksMerge i (newest_fields c.args.frames q.view) e) c.in_ok-info.ensures.ok
    (subst (λ (here : Profiler). LacksMerge (key_of c.in_ok-info.info) (newest_fields c.args.frames here.view) e)
    c.deref.ensures c.in_err-answer.ensures.err) in
    rw (is_err, same_cause) (refl, inr (q, c.take-whole.ensures.taken, inr (c.in_ok-info.ensures.text, lacks)))

pub returns-clause-merges : goal.returns-clause-merges
returns-clause-merges c =
    let q : Profiler = c.take-whole.result.value in
    let (forest, merges, listed) = c.in_ok-answer.ensures.ok in
    let merge = subst (λ (i : ThreadKey). IsMergeOf i (newest_fields c.args.frames q.view) forest) c.in_ok-info.ensures.ok
    (subst (λ (here : Profiler). IsMergeOf (key_of c.in_ok-info.info) (newest_fields c.args.frames here.view) forest)
    c.deref.ensures merges) in
    (q, forest, c.take-whole.ensures.taken, c.in_ok-info.ensures.text, merge, c.give.ensures _ listed)
