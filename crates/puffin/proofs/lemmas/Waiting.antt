-- How many scopes have ended among the events that wait for a report.
use Rattle.std.proofs.Common.{◌≡◌, ◌+◌, List, [], ◌∷◌, ◌++◌, refl, arith}
use Rattle.puffin_data.specs.Forest.{Forest, empty, node}
use Rattle.puffin_data.specs.Forest.Measures.{scope_count}
use Rattle.puffin_data.specs.Forest.Tour.{Event, Open, Close, tour}
use Rattle.puffin_threads.specs.Thread.Calls.{num_ended}

pub num_ended-append : (u v : List Event) → num_ended (u ++ v) ≡ num_ended u + num_ended v
num_ended-append [] v = omega arith
num_ended-append (Open id text start ∷ u) v = num_ended-append u v
num_ended-append (Close stop ∷ u) v = omega (arith, num_ended-append u v)

pub num_ended-tour : (f : Forest) → num_ended (tour f) ≡ scope_count f
num_ended-tour empty = refl
num_ended-tour (node s c o) = omega (arith, num_ended-append (tour c) (Close s.stop ∷ tour o), num_ended-tour c, num_ended-tour o)
