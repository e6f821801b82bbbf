-- The lines that `report` prints.
use Rattle.std.specs.Prelude.{ℕ, zero, suc, ◌+◌, ℤ, List, [], ◌∷◌, ◌++◌, codes, Option, Some, None}
use Rattle.std.specs.Fmt.{decimal, signed_decimal}
use Rattle.std.specs.FinMap.{get}
use Rattle.puffin_threads.specs.Details.{Details, name_of}
use Rattle.puffin_threads.specs.Details.Collection.{Collection}
use Rattle.puffin_merge.specs.Merge.Tree.{Node, MergedForest, no_node, merged}
use Rattle.puffin_merge.specs.Merge.Scopes.{forest_in}
use Rattle.puffin_report.specs.declared.summary.Summary.{Summary}

-- two blanks for each level
abbrev pub indent : ℕ → List ℕ
indent zero = []
indent (suc level) = codes "  " ++ indent level

-- the name in these details, or without details a `#` and the id
abbrev pub name_or_id : ℕ → Option Details → List ℕ
name_or_id id (Some details) = name_of details
name_or_id id None = codes "#" ++ decimal id

-- the name of the scope with this id, or a `#` and the id
abbrev pub scope_name : Collection → ℕ → List ℕ
scope_name known id = name_or_id id (get known.by_id id)

-- a text in parentheses, unless it is empty
abbrev pub text_part : List ℕ → List ℕ
text_part [] = []
text_part (byte ∷ bytes) = codes " (" ++ ((byte ∷ bytes) ++ codes ")")

-- the first half of a merged scope's numbers: how many pieces, their sum, and the sum per frame
abbrev pub pieces_text : ℕ → ℤ → ℤ → List ℕ
pieces_text pieces total per_frame =
    codes " pieces " ++ (decimal pieces
    ++ (codes " total " ++ (signed_decimal total
    ++ (codes " per_frame " ++ signed_decimal per_frame))))

-- the second half: the longest piece, and the start
abbrev pub greatest_text : ℤ → ℤ → List ℕ
greatest_text greatest start =
    codes " max " ++ (signed_decimal greatest
    ++ (codes " start " ++ (signed_decimal start ++ codes "\n")))

abbrev pub numbers_text : Node → List ℕ
numbers_text node =
    pieces_text node.pieces node.total node.per_frame ++ greatest_text node.greatest node.start

-- a merged scope's line, with its name in this collection
abbrev pub scope_line : Collection → ℕ → Node → List ℕ
scope_line known level node =
    indent level
    ++ (scope_name known node.label.id ++ (text_part node.label.text ++ numbers_text node))

-- each merged scope's line, then those of its children, one level deeper, and then those of its later siblings
abbrev pub scope_lines : Collection → ℕ → MergedForest → List ℕ
scope_lines known level no_node = []
scope_lines known level (merged node children others) =
    scope_line known level node
    ++ (scope_lines known (level + 1) children ++ scope_lines known level others)

-- the first line
abbrev pub frames_line : ℕ → List ℕ
frames_line frames = codes "frames " ++ (decimal frames ++ codes "\n")

-- the number of frames, and the merged scopes with their names in the file's details
abbrev pub report_lines : Summary → List ℕ
report_lines summary =
    frames_line summary.frames ++ scope_lines summary.scopes 0 (forest_in summary.merged.items)
