-- A frame whose streams can't be unpacked is refused for that.
use Rattle.std.proofs.lemmas.Result.{err_from_is_err_and}
use Rattle.puffin_c.proofs.StreamLists.{not_unpacked}
use Rattle.puffin_c.proofs.streams.list_streams.Goals as goal

pub returns-in_err-describe-in-Some : goal.returns-in_err-describe-in-Some
returns-in_err-describe-in-Some c =
    let (_, is_err, same_cause) = err_from_is_err_and c.from_residual-in_err-describe-in-Some.result
    c.from_residual-in_err-describe-in-Some.ensures.1 in
    rw is_err (
      c.in_err-describe-in-Some.ensures.unchanged,
      not_unpacked _ _ _ _ c.in-Some.data c.in_err-describe-in-Some.field-0.0 _ same_cause c.in-Some.is
          c.in_ok-data.ensures.ok c.in_err-describe-in-Some.ensures.err,
    )
