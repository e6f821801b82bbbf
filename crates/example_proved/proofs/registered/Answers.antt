use Rattle.std.proofs.Common.{[]}
use Rattle.puffin_accounts.proofs.lemmas.Listing.{registered}
use Rattle.example_proved.proofs.registered.Goals as goal

pub returns-clause-scopes : goal.returns-clause-scopes
returns-clause-scopes c =
    registered _ _ _ _ _ (registered _ [] _ _ _ c.in_ok-scopes.ensures.none c.in_ok-place.ensures.ok) c.in_ok-place-2.ensures.ok
