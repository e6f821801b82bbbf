-- What is kept beside the pending streams with one report more, and why a report is refused.
use Rattle.std.proofs.Common.{◌≡◌, ◌+◌, [], refl, sym, subst, ◌∙◌, ap}
use Rattle.std.proofs.lemmas.Result.{err_from_is_err_and}
use Rattle.std.proofs.lemmas.List.{append-nil}
use Rattle.puffin_data.specs.Honesty.{AreUnlike, facts_of_ref}
use Rattle.puffin_threads.specs.Thread.ThreadKey.{key_of}
use Rattle.puffin_frames.specs.Frame.Contents.{Streams, stream_under, reported_to}
use Rattle.puffin_frames.specs.Frame.Holding.{HaveLayout}
use Rattle.puffin_frames.proofs.lemmas.Measured.{after_report as totals_after_report, bytes_measure, scopes_measure, starts_measure, stops_measure, under_one}
use Rattle.puffin_frames.proofs.lemmas.Honest.{honest-report}
use Rattle.puffin_collector.specs.Collector.State.{Collected, PendingFits, range_with, IsTooLong, IsUnlike, IsReportRefusal, after_report}
use Rattle.puffin_collector.specs.Collector.Collecting.{IsTallied}
use Rattle.puffin_collector.specs.inner.ReportSums.{AddsUp}
use Rattle.puffin_collector.proofs.Seen.{seen_of}
use Rattle.puffin_collector.proofs.Appending.{no_ids}
use Rattle.puffin_collector.proofs.Reporting.{Laws, kept_after}
use Rattle.puffin_collector.proofs.Refusing.{first_of_sums, late_refusal, reported_as}
use Rattle.puffin_collector.proofs.collector.Collector.append.Goals as goal

-- once the report is appended, the new sums are those of the new streams
pub invariant_of-self-2 : goal.invariant_of-self-2
invariant_of-self-2 c =
    let seen = seen_of c.self.inside in
    let thread = key_of c.args.info in
    let stream = facts_of_ref c.args.times.now in
    let meta = c.in-Ok.sums.0 in
    let total = c.in-Ok.sums.1 in
    let sums = c.in-Ok.ensures.sums in
    let kept = c.self.invariant in
    let put = c.in_ok-report_to.ensures.ok in
    let like : ¬ AreUnlike (stream_under seen.streams thread) stream =
    (λ apart. let refused = c.in_ok-report_to.ensures.unlike.1 apart in absurd cc) in
    let laws : Laws seen.streams thread stream c.requires.0 = record {
      bytes = totals_after_report bytes_measure _ thread stream;
      scopes = totals_after_report scopes_measure _ thread stream;
      start = totals_after_report starts_measure _ thread stream;
      stop = totals_after_report stops_measure _ thread stream;
      honest = honest-report _ thread stream _ like;
    } in
    let adds : AddsUp seen meta stream = subst (λ (old : Collected). AddsUp old meta stream) (sym c.self.view_is) sums.0 in
    let reported : total ≡ seen.reported + stream.num_scopes =
    subst (λ (old : Collected). total ≡ old.reported + stream.num_scopes) (sym c.self.view_is) sums.1 in
    let layout : HaveLayout (reported_to seen.streams thread stream) =
    subst HaveLayout put (c.in_ok-report_to.ensures.layout kept.0.layout) in (
      subst (λ (streams : Streams). IsTallied streams meta total seen.emitted) (sym put)
          (kept_after seen _ _ thread stream c.requires.0 _ laws adds kept.0 layout c.requires.1 reported),
      kept.1,
    )

-- refused because of the sums
pub returns-in-Err-clause-err : goal.returns-in-Err-clause-err
returns-in-Err-clause-err c =
    let stream = facts_of_ref c.args.times.now in (
      first_of_sums c.args.self.now (key_of c.args.info) [] stream no_ids _ _ c.first_cause.ensures c.in-Err.ensures.refusal,
      refl,
    )

-- refused as it is appended
pub returns-in_err-report_to-clause-err : goal.returns-in_err-report_to-clause-err
returns-in_err-report_to-clause-err c =
    let passed_on = err_from_is_err_and c.from_residual.result c.from_residual.ensures.1 in
    let seen = seen_of c.self.inside in
    let thread = key_of c.args.info in
    let stream = facts_of_ref c.args.times.now in
    let cause = c.in_err-report_to.field-0.0 in
    let said = c.in_err-report_to.ensures in
    let fits = subst (λ (old : Collected). PendingFits old stream × ¬ IsTooLong (range_with old stream))
    (sym c.self.view_is) c.in-Ok.ensures.fits in
    let refused = late_refusal seen thread [] stream no_ids cause said.unlike said.too_large
    (under_one seen.streams thread) fits said.cause in
    rw (passed_on.1, passed_on.2) (
      subst (λ (old : Collected). IsReportRefusal old thread [] stream cause) c.self.view_is refused,
      ap (λ (streams : Streams). record seen { streams = streams }) said.err ∙ c.self.view_is,
    )

pub returns-clause-ok : goal.returns-clause-ok
returns-clause-ok c =
    let seen = seen_of c.self.inside in
    let thread = key_of c.args.info in
    let stream = facts_of_ref c.args.times.now in
    let meta = c.in-Ok.sums.0 in
    let total = c.in-Ok.sums.1 in
    let sums = c.in-Ok.ensures.sums in
    let like : ¬ IsUnlike seen thread stream =
    (λ apart. let refused = c.in_ok-report_to.ensures.unlike.1 apart in absurd cc) in
    let adds : AddsUp seen meta stream = subst (λ (old : Collected). AddsUp old meta stream) (sym c.self.view_is) sums.0 in
    let reported : total ≡ seen.reported + stream.num_scopes =
    subst (λ (old : Collected). total ≡ old.reported + stream.num_scopes) (sym c.self.view_is) sums.1 in (
      reported_as seen thread [] stream _ _ _ _ adds.frame_index reported c.in_ok-report_to.ensures.ok (sym (append-nil seen.new_details))
          ∙ ap (λ (old : Collected). after_report old thread [] stream) c.self.view_is,
      no_ids,
      subst (λ (old : Collected). ¬ IsUnlike old thread stream) c.self.view_is like,
      c.in-Ok.ensures.fits.0,
      c.in-Ok.ensures.fits.1,
    )
