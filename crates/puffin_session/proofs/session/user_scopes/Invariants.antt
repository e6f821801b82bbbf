-- The details so far are those of the names so far.
use Rattle.std.proofs.Common.{◌≡◌, take}
use Rattle.puffin_threads.specs.Details.{details_seen}
use Rattle.puffin_session.specs.Session.Actions.{user_details}
use Rattle.puffin_session.proofs.session.user_scopes.Given as goal

abbrev pub invariant-loop-name : goal.invariant-loop-name
invariant-loop-name l = details_seen l.details.items ≡ user_details (take l.name-index l.names)
