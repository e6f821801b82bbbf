-- Each measure of a word with one event more is that of the word and that of the event, put together.
use Rattle.std.proofs.Common.{◌∷◌, [], arith}
use Rattle.puffin_data.specs.Forest.Tour.{Open}
use Rattle.puffin_data.proofs.lemmas.WordMeasures.{word_size-append, num_begun-append, open_after-append, most_open-opened, least_open-opened, greatest_close-kept}
use Rattle.puffin_data.proofs.laws.opening_measures.Goals as goal

pub returns-clause-size : goal.returns-clause-size
returns-clause-size c form word id text start = omega (arith, word_size-append form word (Open id text start ∷ []))

pub returns-clause-begun : goal.returns-clause-begun
returns-clause-begun c word id text start = omega (arith, num_begun-append word (Open id text start ∷ []))

pub returns-clause-open : goal.returns-clause-open
returns-clause-open c word id text start = open_after-append 0 word (Open id text start ∷ [])

pub returns-clause-most_open : goal.returns-clause-most_open
returns-clause-most_open c word id text start = most_open-opened word id text start

pub returns-clause-least_open : goal.returns-clause-least_open
returns-clause-least_open c word id text start fits = least_open-opened word id text start fits

pub returns-clause-greatest_close : goal.returns-clause-greatest_close
returns-clause-greatest_close c word id text start = greatest_close-kept word id text start
