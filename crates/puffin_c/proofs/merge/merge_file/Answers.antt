-- The name is tested first, and then the file is summed up and listed.
use Rattle.std.proofs.Common.{List, subst}
use Rattle.std.proofs.lemmas.Result.{err_from_is_err_and}
use Rattle.std.specs.Prelude.{Some}
use Rattle.puffin_threads.specs.Thread.ThreadKey.{ThreadKey}
use Rattle.puffin_merge.specs.declared.merge.scope.MergeScope.{MergeScope}
use Rattle.puffin_merge.specs.Merge.Scopes.{forest_in}
use Rattle.puffin_report.specs.Report.{HasSummary}
use Rattle.puffin_c.specs.Merges.{IsListOf}
use Rattle.puffin_c.specs.Reporting.{LacksSummary}
use Rattle.puffin_c.proofs.MergesMade.{name_not_merged, file_not_merged, no_room_for_file}
use Rattle.puffin_c.proofs.merge.merge_file.Goals as goal

pub returns-in_err-info : goal.returns-in_err-info
returns-in_err-info c =
    let (cause, is_err, same_cause) = err_from_is_err_and c.from_residual.result c.from_residual.ensures.1 in
    rw is_err (name_not_merged _ _ _ cause _ same_cause c.in_err-info.ensures.err)

pub returns-in_err-summary : goal.returns-in_err-summary
returns-in_err-summary c =
    let (cause, is_err, same_cause) = err_from_is_err_and c.from_residual-in_err-summary.result c.from_residual-in_err-summary.ensures.1 in
    rw is_err (file_not_merged _ _ _ cause _ same_cause c.in_ok-info.ensures.text
    (subst (λ (i : ThreadKey). LacksSummary c.args.file.now i c.in_err-summary.field-0.0) c.in_ok-info.ensures.ok
    c.in_err-summary.ensures.err))

pub returns-in_err-made : goal.returns-in_err-made
returns-in_err-made c =
    let (cause, is_err, same_cause) = err_from_is_err_and c.from_residual-in_err-made.result c.from_residual-in_err-made.ensures.1 in
    rw is_err (no_room_for_file _ _ _ cause same_cause c.in_ok-info.ensures.text)

pub returns : goal.returns
returns c =
    let (left, summed_up) = c.in_ok-summary.ensures.ok in
    let is = subst (λ (scopes : List MergeScope). IsListOf (forest_in scopes) c.in_ok-made.made) c.deref.ensures.value
    c.in_ok-made.ensures in (
      c.in_ok-info.ensures.text,
      left,
      c.in_ok-summary.summary,
      subst (λ (i : ThreadKey). HasSummary i (Some c.args.file.now) left c.in_ok-summary.summary) c.in_ok-info.ensures.ok
          summed_up,
      c.give.ensures _ is,
    )
