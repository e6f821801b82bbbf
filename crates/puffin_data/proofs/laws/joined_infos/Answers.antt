-- The form of both, joined, is that of each one that has bytes.
use Rattle.puffin_data.proofs.lemmas.Extended.{honest_joined}
use Rattle.puffin_data.proofs.laws.joined_infos.Goals as goal

pub returns : goal.returns
returns c first second first_forest second_forest not_unlike first_honest second_honest =
    honest_joined first second first_forest second_forest not_unlike first_honest second_honest
