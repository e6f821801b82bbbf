-- What the tokens of a history own. The history is kept as its ghost values, in an algebra that names no type parameter.
use Rattle.std.specs.Prelude.{ℕ, ◌≡◌, List, length, map}
use mathlib.Core.Option.{some}
use lib.ListN.{get_elem?}
use base.Fraction.{full_share}
use base.Share.{three_quarters}
use base.Stored.{Gv, gnum, gcons, code_l}
use base.Growing.{Order, prefixes, latest, at_least}
use base.Fml.{Fml, fsep, fex}
use Rattle.atomic_table.specs.Seated.{fact, itself, seen, roster}
use Rattle.history.specs.Entries.{entries_by, HasAuthors}

-- the order in which a log grows: one is at most another if it is a prefix of that
abbrev pub logs : Order (List Gv)
logs = prefixes itself

module _ {E : Type 0} where
  -- the lists are what the n authors added, each under its author's number
  pub record IsSplit (n : ℕ) (lists : List (List E)) (log : List (ℕ × E)) : Type 0 where
    pub count : length lists ≡ n
    pub below : HasAuthors n log
    pub split : (number : ℕ) (own : List E) → get_elem? lists number ≡ some own
        → own ≡ entries_by number log

  -- A history has two ghost names: `.0` is that of its log, and `.1` that of its authors' lists. `code` makes a ghost value of an entry.
  module _ (code : E → Gv) where
    -- the ghost value of an entry with its author's number
    abbrev pub numbered_code : ℕ × E → Gv
    numbered_code numbered = gcons (gnum numbered.0) (code numbered.1)

    -- the log's part of each author's list, all of the log, and that the lists are what the authors added
    abbrev pub log_with_lists : ℕ × ℕ → (count : ℕ) → List (ℕ × E) → List (List E) → Fml
    log_with_lists name count log lists =
        fsep (roster (code_l code) name.1 0 lists)
        (fsep (latest logs full_share name.0 (map numbered_code log)) (fact (IsSplit count lists log)))

    -- what a log owns: the above, for some lists
    abbrev pub log_owns : ℕ × ℕ → (count : ℕ) → List (ℕ × E) → Fml
    log_owns name count log = fex (List (List E)) (log_with_lists name count log)

    -- what an author owns: that the log is at least what the author saw, and the greater part of its own list
    abbrev pub author_owns : ℕ × ℕ → (number : ℕ) → (own : List E) → (so_far : List (ℕ × E)) → Fml
    author_owns name number own so_far =
        fsep (at_least logs name.0 (map numbered_code so_far)) (seen (code_l code) name.1 number three_quarters own)
