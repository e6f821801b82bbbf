-- The list of the scopes of two files by name.
use Rattle.std.specs.Prelude.{ℕ, List, [], ◌∷◌, codes, map, option_map, Option, Some, None}
use Rattle.puffin_look.specs.Cells.{Cell}
use Rattle.puffin_look.specs.Diff.{own_in}
use Rattle.puffin_look.specs.Forms.{list_text}
use Rattle.puffin_look.specs.Objects.{row_text}
use Rattle.puffin_look.specs.declared.lines.Form.{Form}
use Rattle.puffin_look.specs.declared.rows.Value.{Value}
use Rattle.puffin_look.specs.declared.rows.Value.TheVariants.{Hundredths, Time, Change, Growth}
use Rattle.puffin_look.specs.declared.diff.PerFrame.{PerFrame}
use Rattle.puffin_look.specs.declared.diff.DiffRow.{DiffRow}

-- the total time in each frame, 0 if no scope has the name
abbrev pub total_in : Option PerFrame → ℕ
total_in None = 0
total_in (Some part) = part.total

-- ---- cells: `-` in a table and `null` in JSON if no scope has the name

abbrev pub own_of : Option PerFrame → Value
own_of part = Time (option_map (λ p. p.own) part)

abbrev pub total_of : Option PerFrame → Value
total_of part = Time (option_map (λ p. p.total) part)

abbrev pub calls_of : Option PerFrame → Value
calls_of part = Hundredths (option_map (λ p. p.calls) part)

-- ---- rows

-- the own times in each frame, the durations together, and the calls
abbrev pub diff_cells : DiffRow → List Cell
diff_cells row =
    (codes "old_own", own_of row.old) ∷ (codes "new_own", own_of row.new)
    ∷ (codes "own_change", Change (own_in row.old) (own_in row.new))
    ∷ (codes "own_growth", Growth (own_in row.old) (own_in row.new))
    ∷ (codes "old_total", total_of row.old) ∷ (codes "new_total", total_of row.new)
    ∷ (codes "total_change", Change (total_in row.old) (total_in row.new))
    ∷ (codes "total_growth", Growth (total_in row.old) (total_in row.new))
    ∷ (codes "old_calls", calls_of row.old) ∷ (codes "new_calls", calls_of row.new) ∷ []

abbrev pub diff_row : Form → DiffRow → List ℕ
diff_row form row = row_text form (diff_cells row) (Some (codes "name", row.name.items))

-- the first line of a table
abbrev pub column_names : List ℕ
column_names =
    codes "     old_own     new_own   own_change   own_growth   old_total   new_total total_change total_growth     old_calls     new_calls  name\n"

abbrev pub diff_text : Form → List DiffRow → List ℕ
diff_text form rows = list_text form column_names (map (diff_row form) rows)
