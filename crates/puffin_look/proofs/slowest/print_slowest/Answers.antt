-- What was printed is the list of the slowest frames.
use Rattle.std.proofs.Common.{inl, inr, ap, ◌∙◌}
use Rattle.std.proofs.lemmas.Result.{err_from_is_err_and, on_ok_weaker}
use Rattle.puffin_look.specs.FrameLines.{frame_list}
use Rattle.puffin_look.proofs.SlowestPrinted.{slowest_stopped, slowest_printed, slowest_cut}
use Rattle.puffin_look.proofs.Closings.{cut_told}
use Rattle.puffin_look.proofs.slowest.print_slowest.Goals as goal

pub returns-in_err-list_frames-clause-err : goal.returns-in_err-list_frames-clause-err
returns-in_err-list_frames-clause-err g c =
    let (cause, is_err, same_cause) = err_from_is_err_and c.from_residual.result c.from_residual.ensures.1 in
    rw (is_err, same_cause) (inl (slowest_stopped _ _ _ _ _ _ _ c.in_err-list_frames.ensures.err))

pub returns-clause-ok : goal.returns-clause-ok
returns-clause-ok g c =
    let lines = c.deref-2.ensures.value ∙ c.in_ok-text.ensures ∙ ap (frame_list c.args.form) c.deref.ensures.value in
    on_ok_weaker c.write_all.result
    (slowest_printed _ _ _ _ _ _ c.in_ok-list_frames.ensures.ok c.args.form c.new.ensures.items _ lines _)
    c.write_all.ensures.ok

pub returns-clause-err : goal.returns-clause-err
returns-clause-err g c =
    let lines = c.deref-2.ensures.value ∙ c.in_ok-text.ensures ∙ ap (frame_list c.args.form) c.deref.ensures.value in
    cut_told _ _ c.write_all.result
    (λ e io part. inr (
      io,
      slowest_cut _ _ _ _ _ _ c.in_ok-list_frames.ensures.ok c.args.form c.new.ensures.items
          _ lines _ part,
    )) c.write_all.ensures.err c.write_all.ensures.io
