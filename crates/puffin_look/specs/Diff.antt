-- The scopes of two files by name, with what they have in each frame.
use Rattle.std.specs.Prelude.{ℕ, zero, suc, ◌-◌, ◌*◌, ◌/◌, ◌^◌, Bool, nat_lt, not, List, ◌++◌, map, fold, filter, is_some, Option, Some, None, if◌then◌else◌}
use Rattle.std.specs.List.Sorted.{IsPermutation, IsNonDecreasingBy}
use Rattle.std.specs.Str.{bytes_eq}
use Rattle.puffin_view.specs.View.Stats.{cut}
use Rattle.puffin_look.specs.Cells.{distance}
use Rattle.puffin_look.specs.declared.top.TopRow.{TopRow}
use Rattle.puffin_look.specs.declared.top.Top.{Top}
use Rattle.puffin_look.specs.declared.diff.PerFrame.{PerFrame}
use Rattle.puffin_look.specs.declared.diff.DiffRow.{DiffRow}

-- ---- a frame's part

-- rounded down; without frames there is nothing
abbrev pub per_frame : ℕ → ℕ → ℕ
per_frame sum zero = 0
per_frame sum (suc frames) = sum / suc frames

-- hundredths of what there is in each frame
abbrev pub hundredths : ℕ → ℕ → ℕ
hundredths sum frames = cut (per_frame (sum * 100) frames)

abbrev pub part_of : ℕ → TopRow → PerFrame
part_of frames row = record {
  calls = hundredths row.calls frames;
  total = per_frame row.total frames;
  own = per_frame row.own frames;
}

-- ---- a name

-- with the part of one more row, if it has the name
abbrev pub part_with : ℕ → List ℕ → Option PerFrame → TopRow → Option PerFrame
part_with frames name found row =
    if bytes_eq name row.name.items then Some (part_of frames row) else found

-- what a name has in each of so many frames
abbrev pub part_in : ℕ → List TopRow → List ℕ → Option PerFrame
part_in frames rows name = fold (part_with frames name) None rows

-- the same of all rows of a file
abbrev pub part_under : Top → List ℕ → Option PerFrame
part_under top name = part_in top.frames top.rows.items name

-- a name, and what it has in the old file and in the new one
abbrev pub Entry : Type 0
Entry = List ℕ × Option PerFrame × Option PerFrame

abbrev pub entry_of : DiffRow → Entry
entry_of row = (row.name.items, row.old, row.new)

abbrev pub entry_under : Top → Top → TopRow → Entry
entry_under old new row =
    (row.name.items, part_under old row.name.items, part_under new row.name.items)

-- ---- all names

abbrev pub old_entries : Top → Top → List TopRow → List Entry
old_entries old new rows = map (entry_under old new) rows

-- a name that the old file hasn't
abbrev pub is_new : Top → TopRow → Bool
is_new old row = not (is_some (part_under old row.name.items))

abbrev pub new_entries : Top → Top → List TopRow → List Entry
new_entries old new rows = map (entry_under old new) (filter (is_new old) rows)

-- the names of the old file, and behind them those that only the new one has
abbrev pub entries : Top → Top → List Entry
entries old new = old_entries old new old.rows.items ++ new_entries old new new.rows.items

-- ---- changes

-- the own time in each frame, 0 if no scope has the name
abbrev pub own_in : Option PerFrame → ℕ
own_in None = 0
own_in (Some part) = part.own

-- how much the own time in each frame has changed
abbrev pub change : DiffRow → ℕ
change row = distance (own_in row.old) (own_in row.new)

-- whether it has grown by more than so many percent
abbrev pub grows_above : ℕ → DiffRow → Bool
grows_above percent row =
    nat_lt (own_in row.old * percent) ((own_in row.new - own_in row.old) * 100)

-- the same rows, those that changed the most first
pub record AreSorted (rows sorted : List DiffRow) : Type 0 where
  pub same : IsPermutation rows sorted
  pub greatest_first : IsNonDecreasingBy (λ row. 2 ^ 64 - 1 - change row) sorted
