-- What was printed is the folded stacks.
use Rattle.std.proofs.Common.{inl, inr, refl, ◌∙◌}
use Rattle.std.proofs.lemmas.Result.{err_from_is_err_and}
use Rattle.puffin_look.proofs.StacksTaken.{folding_stopped, folding_printed, folding_cut}
use Rattle.puffin_look.proofs.folded.print_folded.Goals as goal

pub returns-in_err-list_frames-clause-err : goal.returns-in_err-list_frames-clause-err
returns-in_err-list_frames-clause-err g c =
    let (cause, is_err, same_cause) = err_from_is_err_and c.from_residual.result c.from_residual.ensures.1 in
    rw (is_err, same_cause) (inl (folding_stopped _ _ _ _ _ _ _ c.in_err-list_frames.ensures.err))

pub returns-in_err-write_all-clause-err : goal.returns-in_err-write_all-clause-err
returns-in_err-write_all-clause-err g c =
    let (is_io, why) = c.in_err-write_all.ensures.io in
    let (cause, is_err, same_cause) = err_from_is_err_and c.from_residual-in_err-write_all.result
    c.from_residual-in_err-write_all.ensures.1 in
    let lines = c.deref.ensures.value ∙ c.in_ok-lines.ensures in
    rw (is_err, same_cause) (inr (
      is_io,
      folding_cut _ _ _ _ _ _ c.in_ok-list_frames.ensures.ok c.new.ensures.rows c.args.overview.now.details c.new.ensures.known
          refl _ lines _ c.in_err-write_all.ensures.err,
    ))

pub returns-clause-ok : goal.returns-clause-ok
returns-clause-ok g c =
    let lines = c.deref.ensures.value ∙ c.in_ok-lines.ensures in
    folding_printed _ _ _ _ _ _ c.in_ok-list_frames.ensures.ok c.new.ensures.rows c.args.overview.now.details c.new.ensures.known
    refl _ lines _ c.in_ok-write_all.ensures.ok
