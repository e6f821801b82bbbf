-- `rsplit_once` at `::` answers with the last cut. The bytes of `::` are 58 and 58.
use Rattle.std.proofs.Common.{refl, [], ◌∷◌}
use Rattle.puffin_scopes.proofs.Cuts.{cut_is, cut_none}
use Rattle.puffin_scopes.proofs.utils.function_names.last_segment.Goals as goal

pub returns-in-Some : goal.returns-in-Some
returns-in-Some c = rw (cut_is 58 (58 ∷ []) _ _ _ _ c.rsplit_once.ensures.cases c.in-Some.is) refl

pub returns-in-None : goal.returns-in-None
returns-in-None c = rw (cut_none 58 (58 ∷ []) _ _ c.rsplit_once.ensures.cases c.in-None.is) refl
