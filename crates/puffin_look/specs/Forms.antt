-- A list in one of two forms: a table for a person, or an array in JSON.
use Rattle.std.specs.Prelude.{ℕ, Bool, true, false, List, [], ◌∷◌, ◌++◌, codes}
use Rattle.puffin_look.specs.declared.lines.Form.{Form}
use Rattle.puffin_look.specs.declared.lines.Form.TheVariants.{Table, Json}

-- `between`, if a line stands before the next one
abbrev pub separator_if : (between : List ℕ) → (follows : Bool) → List ℕ
separator_if between true = between
separator_if between false = []

-- the lines, with `between` before each but the first; `follows`: a line stands before these
abbrev pub joined : (between : List ℕ) → (follows : Bool) → List (List ℕ) → List ℕ
joined between follows [] = []
joined between follows (line ∷ lines) =
    separator_if between follows ++ (line ++ joined between true lines)

-- a table begins with the names of its columns
abbrev pub opening : Form → (column_names : List ℕ) → List ℕ
opening Table column_names = column_names
opening Json column_names = codes "["

abbrev pub separator : Form → List ℕ
separator Table = []
separator Json = codes ",\n"

abbrev pub closing : Form → List ℕ
closing Table = []
closing Json = codes "]\n"

-- the lines of a list, without what stands before and behind them all
abbrev pub lines_text : Form → List (List ℕ) → List ℕ
lines_text form lines = joined (separator form) false lines

-- a whole list
abbrev pub list_text : Form → (column_names : List ℕ) → List (List ℕ) → List ℕ
list_text form column_names lines =
    opening form column_names ++ (lines_text form lines ++ closing form)
