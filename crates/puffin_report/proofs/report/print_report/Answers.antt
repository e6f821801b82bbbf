-- Nothing was written before the summary was made; then its lines were, or a prefix of them.
use Rattle.std.proofs.Common.{List, ℕ, inl, inr, subst, ◌∙◌}
use Rattle.std.proofs.lemmas.Result.{err_from_is_err_and, on_ok_weaker}
use Rattle.std.specs.Io.KnownBytes.{Appends}
use Rattle.puffin_data.specs.Device.{WritesBeginning}
use Rattle.puffin_threads.specs.Thread.ThreadKey.{key_of}
use Rattle.puffin_report.specs.Report.{HasSummary}
use Rattle.puffin_report.proofs.lemmas.WrittenLines.{nothing_written, told-cut}
use Rattle.puffin_report.proofs.report.print_report.Goals as goal

pub returns-in_err-summary-clause-err : goal.returns-in_err-summary-clause-err
returns-in_err-summary-clause-err g c =
    let (_, is_err, same_cause) = err_from_is_err_and c.from_residual.result c.from_residual.ensures.1 in
    rw (is_err, same_cause) (inl (c.in_err-summary.ensures.err, nothing_written (g.D.Drain.contents c.args.drain.now)))

pub returns-clause-ok : goal.returns-clause-ok
returns-clause-ok g c =
    let (stored, took, sums) = c.in_ok-summary.ensures.summary in
    let summary : HasSummary (key_of c.args.thread.now) (g.S.Source.remaining c.args.source.now)
    (g.S.Source.remaining c.summarize.new.source) c.in_ok-summary.summary =
    record { stored = stored; took = took; sums = sums } in
    let lines = c.as_bytes.ensures.value ∙ c.in_ok-lines.ensures in
    on_ok_weaker c.write_all.result
    (λ written. (
      c.in_ok-summary.summary,
      summary,
      subst
          (λ (bytes : List ℕ). Appends (g.D.Drain.contents c.args.drain.now) (g.D.Drain.contents c.write_all.new.drain) bytes)
          lines written,
    )) c.write_all.ensures.ok

pub returns-clause-err : goal.returns-clause-err
returns-clause-err g c =
    let (stored, took, sums) = c.in_ok-summary.ensures.summary in
    let summary : HasSummary (key_of c.args.thread.now) (g.S.Source.remaining c.args.source.now)
    (g.S.Source.remaining c.summarize.new.source) c.in_ok-summary.summary =
    record { stored = stored; took = took; sums = sums } in
    let lines = c.as_bytes.ensures.value ∙ c.in_ok-lines.ensures in
    told-cut _ _ c.write_all.result
    (λ cause io part. inr (
      io,
      c.in_ok-summary.summary,
      summary,
      subst
          (λ (bytes : List ℕ). WritesBeginning (g.D.Drain.contents c.args.drain.now)
          (g.D.Drain.contents c.write_all.new.drain) bytes) lines part,
    )) c.write_all.ensures.err c.write_all.ensures.io
