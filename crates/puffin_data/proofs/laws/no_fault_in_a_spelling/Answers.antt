-- The first fault of all bytes would be a fault in the spelling.
use Rattle.std.proofs.Common.{length, ◌∙◌, arith}
use Rattle.puffin_data.proofs.Regions.{whole_region}
use Rattle.puffin_data.proofs.lemmas.Unique.{faultless}
use Rattle.puffin_data.proofs.laws.no_fault_in_a_spelling.Goals as goal

pub returns : goal.returns
returns c form bytes forest fault small spells (place, first) =
    faultless form forest bytes 0 (length bytes) place first.end fault spells.fits (omega arith) (omega arith) small
    (whole_region bytes ∙ spells.whole) first.reached first.stands
