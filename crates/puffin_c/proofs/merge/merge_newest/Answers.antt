-- The newest frames are unpacked, merged and listed; each step may be refused.
use Rattle.std.proofs.Common.{List, subst, sym, ap, ◌∙◌}
use Rattle.std.proofs.lemmas.Result.{err_from_is_err_and}
use Rattle.std.specs.Prelude.{Ok}
use Rattle.std.specs.declared.sync.Arc.{Arc}
use Rattle.std.specs.declared.alloc.Global.{Global}
use Rattle.puffin_threads.specs.Thread.ThreadKey.{key_of}
use Rattle.puffin_frames.specs.declared.frame_data.unpacked.UnpackedFrameData.{UnpackedFrameData}
use Rattle.puffin_merge.specs.declared.merge.scope.MergeScope.{MergeScope}
use Rattle.puffin_merge.specs.Merge.Refusals.{AreMerged}
use Rattle.puffin_merge.specs.Merge.Scopes.{frames_bytes, forest_in}
use Rattle.puffin_c.specs.Merges.{IsListOf}
use Rattle.puffin_c.proofs.MergesMade.{frame_not_opened, merge_refused}
use Rattle.puffin_c.proofs.merge.merge_newest.Goals as goal

pub returns-in_err-frames-clause-err : goal.returns-in_err-frames-clause-err
returns-in_err-frames-clause-err c =
    let (cause, is_err, same_cause) = err_from_is_err_and c.from_residual.result c.from_residual.ensures.1 in
    rw is_err (frame_not_opened _ _ cause _ same_cause c.in_err-frames.ensures.err)

pub returns-in_err-merged-clause-err : goal.returns-in_err-merged-clause-err
returns-in_err-merged-clause-err c =
    let (cause, is_err, same_cause) = err_from_is_err_and c.from_residual-in_err-merged.result c.from_residual-in_err-merged.ensures.1 in
    let info = key_of c.args.thread.now in
    let opened = c.in_ok-frames.ensures.ok info
    ∙ ap (λ (fs : List (Arc UnpackedFrameData Global)). Ok (frames_bytes info fs)) (sym c.deref.ensures.value) in
    rw is_err (merge_refused info _ _ cause _ same_cause opened c.in_err-merged.ensures.refused)

pub returns-clause-ok : goal.returns-clause-ok
returns-clause-ok c =
    let info = key_of c.args.thread.now in
    let forest = forest_in c.in_ok-merged.merged.items in
    let merged = subst (λ (fs : List (Arc UnpackedFrameData Global)). AreMerged (frames_bytes info fs) forest)
    c.deref.ensures.value c.in_ok-merged.ensures.merged in
    let listed = subst (λ (scopes : List MergeScope). IsListOf (forest_in scopes) c.in_ok-list_of.field-0)
    c.deref-2.ensures.value c.in_ok-list_of.ensures in
    (forest, (_, c.in_ok-frames.ensures.ok info, merged), listed)
