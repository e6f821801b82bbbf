-- What was read is the scopes of the file by name.
use Rattle.std.proofs.Common.{refl}
use Rattle.std.proofs.lemmas.Result.{err_from_is_err_and}
use Rattle.puffin_look.proofs.TalliesTaken.{tallying_stopped, top_told}
use Rattle.puffin_look.proofs.top.read_top.Goals as goal

pub returns-in_err-list_frames-clause-err : goal.returns-in_err-list_frames-clause-err
returns-in_err-list_frames-clause-err g c =
    let (cause, is_err, same_cause) = err_from_is_err_and c.from_residual.result c.from_residual.ensures.1 in
    rw (is_err, same_cause) (tallying_stopped _ _ _ _ _ _ _ c.in_err-list_frames.ensures.err)

pub returns-clause-ok : goal.returns-clause-ok
returns-clause-ok g c =
    top_told _ _ _ _ _ _ c.in_ok-list_frames.ensures.ok c.new.ensures.rows c.args.overview.now.details c.new.ensures.known
    c.args.texts c.new.ensures.texts refl refl _ c.in_ok-rows_of.ensures refl refl
