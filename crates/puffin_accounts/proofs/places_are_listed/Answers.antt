use Rattle.puffin_accounts.proofs.lemmas.Listing.{listed}
use Rattle.puffin_accounts.proofs.places_are_listed.Goals as goal

pub returns : goal.returns
returns g c = listed c.collected_details.ensures.first _
