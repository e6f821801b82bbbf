-- What was printed is the data of the page.
use Rattle.std.proofs.Common.{refl}
use Rattle.std.proofs.lemmas.Result.{err_from_is_err_and, on_ok_weaker}
use Rattle.puffin_look.proofs.Listed.{if_err_so}
use Rattle.puffin_look.proofs.PagesPrinted.{none_written, page_stopped, page_printed}
use Rattle.puffin_look.proofs.page.print_page_data.Goals as goal

pub returns-in_err-details_text-clause-err : goal.returns-in_err-details_text-clause-err
returns-in_err-details_text-clause-err g c =
    let (cause, is_err, memory) = err_from_is_err_and c.from_residual.result c.from_residual.ensures.1 in
    rw is_err (none_written c.args.overview.now.details c.args.frames.now _ _ _ cause memory)

pub returns-clause-ok : goal.returns-clause-ok
returns-clause-ok g c =
    on_ok_weaker c.list_frames.result
    (page_printed _ _ c.args.overview.now.details c.args.frames.now c.in_ok-details_text.ensures refl
    _ _ _ _) c.list_frames.ensures.ok

pub returns-clause-err : goal.returns-clause-err
returns-clause-err g c =
    if_err_so c.list_frames.result
    (λ e h. page_stopped _ _ c.args.overview.now.details c.args.frames.now c.in_ok-details_text.ensures refl _ _ _ _ e h)
    c.list_frames.ensures.err
