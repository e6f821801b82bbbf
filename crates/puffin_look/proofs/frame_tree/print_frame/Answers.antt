-- What was printed is the frames with the index.
use Rattle.std.proofs.Common.{refl}
use Rattle.std.proofs.lemmas.Result.{err_from_is_err_and}
use Rattle.puffin_look.proofs.TreesPrinted.{frames_stopped}
use Rattle.puffin_look.proofs.frame_tree.print_frame.Goals as goal

pub returns-in_err-list_frames-clause-err : goal.returns-in_err-list_frames-clause-err
returns-in_err-list_frames-clause-err g c =
    let (cause, is_err, same_cause) = err_from_is_err_and c.from_residual.result c.from_residual.ensures.1 in
    rw (is_err, same_cause) (frames_stopped _ _ c.new.ensures.items c.args.overview.now.details
    refl refl _ _ _ _ _ c.in_err-list_frames.ensures.err)
