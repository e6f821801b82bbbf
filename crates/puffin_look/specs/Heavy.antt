-- The path of scopes that takes the most time.
use Rattle.std.specs.Prelude.{ℕ, zero, suc, ◌-◌, Bool, true, nat_lt, nat_le, not, ◌&&◌, ◌==◌, List, [], ◌∷◌, ◌++◌, take, drop, length, codes, fold, map, if◌then◌else◌, Option, Some, None}
use Rattle.std.specs.List.{list_any}
use Rattle.std.specs.Str.{bytes_eq}
use Rattle.puffin_look.specs.Cells.{Cell}
use Rattle.puffin_look.specs.FrameTree.{indent}
use Rattle.puffin_look.specs.Objects.{row_text}
use Rattle.puffin_look.specs.Folded.{Part, times_in, paths_in}
use Rattle.puffin_look.specs.declared.lines.Form.{Form}
use Rattle.puffin_look.specs.declared.lines.Form.TheVariants.{Table, Json}
use Rattle.puffin_look.specs.declared.rows.Value.TheVariants.{Time, Share}
use Rattle.puffin_look.specs.declared.stacks.Times.{Times}

-- ---- the times of paths

-- a path and its times
abbrev pub Row : Type 0
Row = List ℕ × Times

-- each path once, in the order in which they are met
abbrev pub path_rows : List Part → List Row
path_rows all = map (λ path. (path, times_in all path)) (paths_in all)

-- ---- a step

-- a path, and the durations of its scopes together
abbrev pub Step : Type 0
Step = List ℕ × ℕ

abbrev pub is_separator : ℕ → Bool
is_separator byte = byte == 59

-- a path that is one name behind this text
abbrev pub is_directly_below : List ℕ → List ℕ → Bool
is_directly_below front path =
    bytes_eq (take (length front) path) front
    && not (list_any is_separator (drop (length front) path))

abbrev pub is_more : Option Step → ℕ → Bool
is_more None time = true
is_more (Some step) time = nat_lt step.1 time

-- this path, if it takes more time than the best one so far
abbrev pub heavier : List ℕ → Option Step → Row → Option Step
heavier front best row =
    if is_directly_below front row.0 && is_more best row.1.whole then Some (row.0, row.1.whole)
    else best

-- the path directly below this text that takes the most time, and of equal ones the first
abbrev pub heaviest : List ℕ → List Row → Option Step
heaviest front rows = fold (heavier front) None rows

-- ---- all steps

-- at the top level always, and else if it takes half of the time of the scope around it
abbrev pub is_followed : ℕ → ℕ → ℕ → Bool
is_followed zero time outer = true
is_followed (suc level) time outer = nat_le (outer - time) time

-- its time, and its share of what is around it
abbrev pub step_cells : Step → ℕ → List Cell
step_cells step outer =
    (codes "time", Time (Some step.1)) ∷ (codes "share", Share step.1 outer) ∷ []

-- a table shows by blanks how many scopes it is in
abbrev pub shown_name : Form → ℕ → List ℕ → List ℕ
shown_name Table level name = indent level ++ name
shown_name Json level name = name

-- its name is behind so many bytes of its path
abbrev pub step_line : Form → ℕ → ℕ → Step → ℕ → List ℕ
step_line form level front step outer =
    row_text form (step_cells step outer)
    (Some (codes "name", shown_name form level (drop front step.0)))

-- the lines from this step on, if it is followed
abbrev pub lines_with : (Step → List (List ℕ)) → ℕ → ℕ → Option Step → List (List ℕ)
lines_with next level outer None = []
lines_with next level outer (Some step) =
    if is_followed level step.1 outer then next step else []

-- The line of the heaviest path below this text, and those of the steps behind it. The first number limits how many.
abbrev pub step_lines : Form → ℕ → List Row → ℕ → List ℕ → ℕ → List (List ℕ)
step_lines form zero rows level front outer = []
step_lines form (suc limit) rows level front outer =
    lines_with (λ step. step_line form level (length front) step outer
    ∷ step_lines form limit rows (suc level) (step.0 ++ codes ";") step.1) level outer
    (heaviest front rows)
