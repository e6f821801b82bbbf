-- Details that are numbered by the order in which they were registered.
use Rattle.std.specs.Prelude.{◌≡◌, ℕ, zero, suc, ◌+◌, List, [], ◌∷◌, ◌++◌, Option, Some, map, length}
use Rattle.puffin_threads.specs.Details.{Details}

-- the ids from 1 to this one, in order
abbrev pub ids_to : ℕ → List (Option ℕ)
ids_to zero = []
ids_to (suc count) = ids_to count ++ (Some (count + 1) ∷ [])

-- the first of these details has the id 1, the next 2, and so on
abbrev pub AreInOrder : List Details → Type 0
AreInOrder details = map (λ each. each.id) details ≡ ids_to (length details)
