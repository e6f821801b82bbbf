-- A length and then that many bytes are read as the two readings one after the other.
use Rattle.puffin_data.specs.Part.{part_of, part_length_at}
use Rattle.puffin_data.proofs.lemmas.Devices.{goes_on}
use Rattle.puffin_data.proofs.data.parts.read_counted_part.Goals as goal

pub returns-clause-part : goal.returns-clause-part
returns-clause-part g c =
    goes_on (λ bytes. bytes.items) c.in_ok-len.len _ _ _ part_length_at part_of c.read_part.result c.in_ok-len.ensures.part
    c.read_part.ensures.part
