-- Without memory for the details nothing is registered.
use Rattle.std.proofs.Common.{◌∙◌}
use Rattle.std.proofs.lemmas.Result.{err_from_is_err_and}
use Rattle.puffin_session.specs.Session.Actions.{user_details}
use Rattle.puffin_collector.proofs.lemmas.Registrations.{AddsSome-none}
use Rattle.puffin_session.proofs.session.Session.register_user.Goals as goal

pub returns-in_err-details-clause-err : goal.returns-in_err-details-clause-err
returns-in_err-details-clause-err c =
    let (_, is_err, same_cause) = err_from_is_err_and c.from_residual.result c.from_residual.ensures.1 in
    rw (is_err, same_cause ∙ c.in_err-details.ensures.err) (AddsSome-none c.args.self.now.collected (user_details c.args.names.now))
