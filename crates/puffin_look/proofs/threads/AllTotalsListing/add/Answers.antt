-- The totals are those with the frame.
use Rattle.std.proofs.Common.{[], refl}
use Rattle.std.proofs.lemmas.Result.{on_ok_weaker}
use Rattle.puffin_look.proofs.threads.AllTotalsListing.add.Goals as goal

pub returns-clause-ok : goal.returns-clause-ok
returns-clause-ok c = on_ok_weaker c.add.result (λ h. ([], refl, record { none = refl; totals = h })) c.add.ensures.ok
