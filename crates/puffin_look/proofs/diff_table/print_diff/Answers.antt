-- What was printed is the table.
use Rattle.std.proofs.Common.{List, ℕ, [], inl, inr, refl, subst, ◌∙◌}
use Rattle.std.specs.Io.KnownBytes.{Appends}
use Rattle.std.proofs.KnownBytes.{Appends-nil}
use Rattle.std.proofs.lemmas.Result.{err_from_is_err_and, on_ok_weaker}
use Rattle.puffin_data.specs.Device.{WritesBeginning}
use Rattle.puffin_look.proofs.Closings.{cut_told}
use Rattle.puffin_look.proofs.diff_table.print_diff.Goals as goal

pub returns-in_err-text-clause-err : goal.returns-in_err-text-clause-err
returns-in_err-text-clause-err g c =
    let (cause, is_err, same_cause) = err_from_is_err_and c.from_residual.result c.from_residual.ensures.1 in
    rw (is_err, same_cause) (inr refl, ([], _, refl, Appends-nil _))

pub returns-clause-ok : goal.returns-clause-ok
returns-clause-ok g c =
    let table = c.deref.ensures.value ∙ c.in_ok-text.ensures in
    on_ok_weaker c.write_all.result
    (λ app. subst (λ (t : List ℕ). Appends (g.D.Drain.contents c.args.drain.now) (g.D.Drain.contents c.write_all.new.drain) t)
    table app) c.write_all.ensures.ok

pub returns-clause-err : goal.returns-clause-err
returns-clause-err g c =
    let table = c.deref.ensures.value ∙ c.in_ok-text.ensures in
    cut_told _ _ c.write_all.result
    (λ e io part. (
      inl io,
      subst (λ (t : List ℕ). WritesBeginning (g.D.Drain.contents c.args.drain.now)
          (g.D.Drain.contents c.write_all.new.drain) t) table part,
    )) c.write_all.ensures.err c.write_all.ensures.io
