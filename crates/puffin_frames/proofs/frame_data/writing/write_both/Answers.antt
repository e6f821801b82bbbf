-- After a failure a prefix of the two pieces is written: one of the first, or the first and a prefix of the second.
use Rattle.std.proofs.lemmas.Result.{err_from_is_err_and, on_err_weaker}
use Rattle.puffin_frames.proofs.Writing.{beginning_more, beginning_after}
use Rattle.puffin_frames.proofs.frame_data.writing.write_both.Goals as goal

pub returns-in_err-write_all-clause-err : goal.returns-in_err-write_all-clause-err
returns-in_err-write_all-clause-err g c =
    let failed = err_from_is_err_and c.from_residual.result c.from_residual.ensures.1 in
    rw failed.1 (beginning_more _ _ _ _ c.in_err-write_all.ensures.err)

pub returns-clause-err : goal.returns-clause-err
returns-clause-err g c =
    on_err_weaker c.write_all-2.result (λ begins. beginning_after _ _ _ _ _ c.in_ok-write_all.ensures.ok begins)
    c.write_all-2.ensures.err
