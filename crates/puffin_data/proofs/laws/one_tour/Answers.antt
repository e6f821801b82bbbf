-- A tour is read as brackets: its first scope ends at the close that fits.
use Rattle.std.proofs.Common.{◌∙◌, sym}
use Rattle.puffin_data.proofs.lemmas.Tours.{one_tour, tour-append}
use Rattle.puffin_data.proofs.laws.one_tour.Goals as goal

pub returns-clause-tour : goal.returns-clause-tour
returns-clause-tour c first second same = one_tour first second same

pub returns-clause-balanced : goal.returns-clause-balanced
returns-clause-balanced c word one other = one_tour one.0 other.0 (sym one.1 ∙ other.1)

pub returns-clause-joined : goal.returns-clause-joined
returns-clause-joined c first second = tour-append first second
