-- By induction over the forest.
use Rattle.std.proofs.Common.{arith}
use Rattle.puffin_data.proofs.lemmas.WordMeasures.{word_size-tour, num_begun-tour, open_after-tour, most_open-tour, least_open-tour, greatest_close-tour}
use Rattle.puffin_data.proofs.laws.tour_measures.Goals as goal

pub returns-clause-size : goal.returns-clause-size
returns-clause-size c form forest = word_size-tour form forest

pub returns-clause-begun : goal.returns-clause-begun
returns-clause-begun c forest = num_begun-tour forest

pub returns-clause-open : goal.returns-clause-open
returns-clause-open c forest = open_after-tour 0 forest

pub returns-clause-most_open : goal.returns-clause-most_open
returns-clause-most_open c forest = omega (arith, most_open-tour 0 forest)

pub returns-clause-least_open : goal.returns-clause-least_open
returns-clause-least_open c forest = least_open-tour forest

pub returns-clause-greatest_close : goal.returns-clause-greatest_close
returns-clause-greatest_close c forest = greatest_close-tour forest
