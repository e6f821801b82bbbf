-- What the merge of the kept frames gives, or what stopped it, is the outcome for the file that was read.
use Rattle.std.proofs.Common.{refl, inr, ap}
use Rattle.std.proofs.lemmas.Result.{err_from_is_err_and}
use Rattle.puffin_data.specs.Cause.{file_error_of}
use Rattle.puffin_view.proofs.lemmas.ReadingViews.{kept_by_reading}
use Rattle.puffin_report.proofs.Stepping.{kept_is_read, summed, refused_before, not_unpacked_before, refused_at_end, no_io_before, refused_of}
use Rattle.puffin_report.proofs.summing.Summing.finish.Goals as goal

pub returns-in-Refused-clause-err : goal.returns-in-Refused-clause-err
returns-in-Refused-clause-err c = λ info stored h few.
    inr (refused_before info stored c.args.self h (kept_is_read stored kept_by_reading few) c.in-Refused.cause c.in-Refused.is)

pub returns-in-NotUnpacked-clause-err : goal.returns-in-NotUnpacked-clause-err
returns-in-NotUnpacked-clause-err c = λ info stored h few.
    inr (not_unpacked_before info stored c.args.self h (kept_is_read stored kept_by_reading few) c.in-NotUnpacked.fault c.in-NotUnpacked.is)

pub returns-in-NotUnpacked-clause-cause : goal.returns-in-NotUnpacked-clause-cause
returns-in-NotUnpacked-clause-cause c =
    let taken = c.requires in
    no_io_before taken.info taken.stored c.args.self c.in-NotUnpacked.fault taken.summed c.in-NotUnpacked.is

pub returns-clause-ok : goal.returns-clause-ok
returns-clause-ok c = λ info stored h few.
    summed info stored c.args.self h (kept_is_read stored kept_by_reading few) c.in-Merged.merger _ c.in-Merged.is
    c.frames-frames.ensures (λ added k. (c.in_ok-merged.ensures.merged added k).0) refl

pub returns-in_err-merged-clause-err : goal.returns-in_err-merged-clause-err
returns-in_err-merged-clause-err c =
    let p = err_from_is_err_and c.from_residual.result c.from_residual.ensures.1 in
    let cause = c.in_err-merged.field-0.0 in
    rw (p.1, p.2)
    (λ info stored h few. refused_at_end info stored c.args.self h (kept_is_read stored kept_by_reading few)
    c.in-Merged.merger cause (file_error_of cause) c.in-Merged.is c.in_err-merged.ensures.refused
    (λ memory. ap file_error_of memory) (refused_of cause))
