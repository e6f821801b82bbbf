-- The list of the scopes of a file by name.
use Rattle.std.specs.Prelude.{ℕ, List, [], ◌∷◌, codes, map, Some}
use Rattle.puffin_look.specs.Cells.{Cell}
use Rattle.puffin_look.specs.Forms.{list_text}
use Rattle.puffin_look.specs.Objects.{row_text}
use Rattle.puffin_look.specs.declared.lines.Form.{Form}
use Rattle.puffin_look.specs.declared.rows.Value.TheVariants.{Number, Time, Share}
use Rattle.puffin_look.specs.declared.top.TopRow.{TopRow}

-- a row, with its own time's share of this time
abbrev pub top_cells : ℕ → TopRow → List Cell
top_cells whole row =
    (codes "calls", Number row.calls) ∷ (codes "total", Time (Some row.total))
    ∷ (codes "own", Time (Some row.own)) ∷ (codes "least", Time (Some row.least))
    ∷ (codes "median", Time (Some row.median)) ∷ (codes "p95", Time (Some row.p95))
    ∷ (codes "p99", Time (Some row.p99)) ∷ (codes "greatest", Time (Some row.greatest))
    ∷ (codes "share", Share row.own whole) ∷ []

abbrev pub top_row : Form → ℕ → TopRow → List ℕ
top_row form whole row =
    row_text form (top_cells whole row) (Some (codes "name", row.name.items))

-- the first line of a table
abbrev pub column_names : List ℕ
column_names =
    codes "         calls       total         own       least      median         p95         p99    greatest   share  name\n"

abbrev pub top_text : Form → ℕ → List TopRow → List ℕ
top_text form whole rows = list_text form column_names (map (top_row form whole) rows)
