-- What was written is the list of the frames that were read.
--
-- The lemmas of `Closings` want the same each time: that the text of the frames and the end are the list (`closed`), what a frame is
-- refused for, and what `list_behind` says of a file whose letters were read (`begun`).
use Rattle.std.proofs.Common.{inr, refl, sym, ◌∙◌}
use Rattle.std.proofs.lemmas.Result.{err_from_is_err_and, on_ok_weaker}
use Rattle.puffin_look.specs.Forms.{closing}
use Rattle.puffin_look.specs.FrameLines.{IsFrameList}
use Rattle.puffin_look.specs.Printed.{RefusesNone}
use Rattle.puffin_look.specs.inner.Lining.{TakesFrames}
use Rattle.puffin_look.proofs.Closings.{end_failed, none_written, no_letters, told_open, told_closed, told_printed, end_cut}
use Rattle.puffin_look.proofs.FramesPrinted.{text_in, closed}
use Rattle.puffin_look.proofs.Listed.{if_err_so}
use Rattle.puffin_look.proofs.frames.print_frames.Goals as goal

pub returns-in_err-list-clause-err : goal.returns-in_err-list-clause-err
returns-in_err-list-clause-err g c =
    let (cause, is_err, memory) = err_from_is_err_and c.from_residual.result c.from_residual.ensures.1 in
    rw is_err (none_written (IsFrameList c.args.form c.args.indices) RefusesNone _ refl _ _ _ cause (inr memory))

pub returns-in_err-read_magic-clause-err : goal.returns-in_err-read_magic-clause-err
returns-in_err-read_magic-clause-err g c =
    let (cause, is_err, same_cause) = err_from_is_err_and c.from_residual-in_err-read_magic.result
    c.from_residual-in_err-read_magic.ensures.1 in
    rw (is_err, same_cause) (no_letters (IsFrameList c.args.form c.args.indices) RefusesNone _ refl _ _ _ _ c.in_err-read_magic.ensures.err)

pub returns-then-fails_outside-clause-err : goal.returns-then-fails_outside-clause-err
returns-then-fails_outside-clause-err g c =
    told_open text_in TakesFrames (λ _ _ _. ⊥) c.args.indices (IsFrameList c.args.form c.args.indices) RefusesNone
    (closing c.args.form) c.in_ok-list.list c.list_behind-answer.new.listing
    (closed c.args.form c.args.indices c.in_ok-list.list _ refl c.in_ok-list.ensures)
    (λ frames more v frame cause taken there refused. refused) _ _ _ _ _ c.list_behind-answer.result refl
    (sym c.fails_outside.ensures ∙ c.if-fails_outside.true) (
      on_ok_weaker c.list_behind-answer.result (λ h. h _ c.in_ok-read_magic.ensures.begun) c.list_behind-answer.ensures.ok,
      if_err_so c.list_behind-answer.result (λ e h. h _ c.in_ok-read_magic.ensures.begun) c.list_behind-answer.ensures.err,
    )

pub returns-in_err-write_all-clause-err : goal.returns-in_err-write_all-clause-err
returns-in_err-write_all-clause-err g c =
    let (is_io, why) = c.in_err-write_all.ensures.io in
    let (cause, is_err, same_cause) = err_from_is_err_and c.from_residual-in_err-write_all.result
    c.from_residual-in_err-write_all.ensures.1 in
    rw (is_err, same_cause) (end_cut text_in TakesFrames (λ _ _ _. ⊥) c.args.indices
    (IsFrameList c.args.form c.args.indices) RefusesNone c.closing.result.now c.in_ok-list.list
    c.list_behind-answer.new.listing (closed c.args.form c.args.indices c.in_ok-list.list
    _ c.closing.ensures c.in_ok-list.ensures)
    (λ frames more v frame cause taken there refused. refused) _ _ _ _ _ c.list_behind-answer.result
    _ (sym c.fails_outside.ensures ∙ c.if-fails_outside.false) (
      on_ok_weaker c.list_behind-answer.result (λ h. h _ c.in_ok-read_magic.ensures.begun) c.list_behind-answer.ensures.ok,
      if_err_so c.list_behind-answer.result (λ e h. h _ c.in_ok-read_magic.ensures.begun) c.list_behind-answer.ensures.err,
    )
    is_io c.in_err-write_all.ensures.err)

pub returns-clause-ok : goal.returns-clause-ok
returns-clause-ok g c =
    told_printed text_in TakesFrames (λ _ _ _. ⊥) c.args.indices
    (IsFrameList c.args.form c.args.indices) RefusesNone c.closing.result.now c.in_ok-list.list
    c.list_behind-answer.new.listing (closed c.args.form c.args.indices c.in_ok-list.list
    _ c.closing.ensures c.in_ok-list.ensures)
    (λ frames more v frame cause taken there refused. refused) _ _ _ _ _ c.list_behind-answer.result (
      on_ok_weaker c.list_behind-answer.result (λ h. h _ c.in_ok-read_magic.ensures.begun) c.list_behind-answer.ensures.ok,
      if_err_so c.list_behind-answer.result (λ e h. h _ c.in_ok-read_magic.ensures.begun) c.list_behind-answer.ensures.err,
    )
    c.in_ok-write_all.ensures.ok

pub returns-clause-err : goal.returns-clause-err
returns-clause-err g c =
    told_closed text_in TakesFrames (λ _ _ _. ⊥) c.args.indices
    (IsFrameList c.args.form c.args.indices) RefusesNone c.closing.result.now c.in_ok-list.list
    c.list_behind-answer.new.listing (closed c.args.form c.args.indices c.in_ok-list.list
    _ c.closing.ensures c.in_ok-list.ensures)
    (λ frames more v frame cause taken there refused. refused) _ _ _ _ _ c.list_behind-answer.result
    (sym c.fails_outside.ensures
    ∙ c.if-fails_outside.false) (
      on_ok_weaker c.list_behind-answer.result
          (λ h. h _ c.in_ok-read_magic.ensures.begun) c.list_behind-answer.ensures.ok,
      if_err_so c.list_behind-answer.result
          (λ e h. h _ c.in_ok-read_magic.ensures.begun) c.list_behind-answer.ensures.err,
    ) c.in_ok-write_all.ensures.ok

pub returns-in_err-write_all-clause-io : goal.returns-in_err-write_all-clause-io
returns-in_err-write_all-clause-io g c =
    let (is_io, failed) = c.in_err-write_all.ensures.io in
    λ is. end_failed c.list_behind-answer.result _ _ _
    (sym c.fails_outside.ensures ∙ c.if-fails_outside.false) c.list_behind-answer.ensures.drained failed
