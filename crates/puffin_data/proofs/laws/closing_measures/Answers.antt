-- Each measure of a word with one event more is that of the word and that of the event, put together.
use Rattle.std.proofs.Common.{◌∷◌, [], arith}
use Rattle.puffin_data.specs.Forest.Tour.{Close}
use Rattle.puffin_data.proofs.lemmas.WordMeasures.{word_size-append, num_begun-append, open_after-append, most_open-closed, least_open-kept, greatest_close-closed}
use Rattle.puffin_data.proofs.laws.closing_measures.Goals as goal

pub returns-clause-size : goal.returns-clause-size
returns-clause-size c form word stop = omega (arith, word_size-append form word (Close stop ∷ []))

pub returns-clause-begun : goal.returns-clause-begun
returns-clause-begun c word stop = omega (arith, num_begun-append word (Close stop ∷ []))

pub returns-clause-open : goal.returns-clause-open
returns-clause-open c word stop = open_after-append 0 word (Close stop ∷ [])

pub returns-clause-most_open : goal.returns-clause-most_open
returns-clause-most_open c word stop = most_open-closed word stop

pub returns-clause-least_open : goal.returns-clause-least_open
returns-clause-least_open c word stop = least_open-kept word stop

pub returns-clause-greatest_close : goal.returns-clause-greatest_close
returns-clause-greatest_close c word stop fits = greatest_close-closed word stop fits
