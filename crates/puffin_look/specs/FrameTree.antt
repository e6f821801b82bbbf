-- A frame of a file as a tree of scopes.
use Rattle.std.specs.Prelude.{◌≡◌, ℕ, zero, suc, ℤ, pos, ◌-ℤ◌, unsigned_abs, Bool, true, false, List, [], ◌∷◌, ◌++◌, length, codes, fold, Some}
use Rattle.std.specs.Fmt.{decimal}
use Rattle.std.specs.FinMap as map
use Rattle.std.specs.List.{flat_map}
use Rattle.puffin_data.specs.Forest.{Span, Forest}
use Rattle.puffin_data.specs.Text.{text_in}
use Rattle.puffin_data.specs.Walk.PlacedScopes.{ScopeInContext, nested_in}
use Rattle.puffin_threads.specs.Details.Collection.{Collection}
use Rattle.puffin_threads.specs.Thread.ThreadKey.{ThreadKey}
use Rattle.puffin_frames.specs.declared.frame_data.meta.FrameMeta.{FrameMeta}
use Rattle.puffin_look.specs.OpenFrame.{OpenFrame}
use Rattle.puffin_look.specs.Trees.{Tree, TreeFrame}
use Rattle.puffin_look.specs.Wanted.{AreTaken}
use Rattle.puffin_look.specs.declared.wanted.Wanted.{Wanted}
use Rattle.puffin_look.specs.Escapes.{escaped}
use Rattle.puffin_look.specs.Names.{name_or_id}
use Rattle.puffin_look.specs.ThreadLines.{thread_text}
use Rattle.puffin_look.specs.Cells.{Cell, row_cell, heading, grouped_moment, readable_time, length_of}
use Rattle.puffin_look.specs.declared.rows.Value.TheVariants.{Offset, Time, Share}

-- ---- a scope

abbrev pub indent : ℕ → List ℕ
indent zero = []
indent (suc level) = codes "  " ++ indent level

-- a text in parentheses, unless it is empty
abbrev pub text_part : List ℕ → List ℕ
text_part [] = []
text_part (byte ∷ bytes) = codes " (" ++ (escaped (byte ∷ bytes) ++ codes ")")

abbrev pub time_of : Span → ℕ
time_of span = unsigned_abs (span.stop -ℤ span.start)

-- the duration of the innermost of these scopes, or of the frame if there are none
abbrev pub outer_time : ℕ → List Span → ℕ
outer_time whole [] = whole
outer_time whole (span ∷ inner) = outer_time (time_of span) inner

-- a scope's start in the frame, its duration, and its share of what it is in
abbrev pub scope_cells : ℤ → ℤ → ℕ → ℕ → List Cell
scope_cells begin start time outer =
    (codes "start", Offset begin start) ∷ (codes "duration", Time (Some time))
    ∷ (codes "share", Share time outer) ∷ []

-- two blanks for each scope that it is in, its name and its text
abbrev pub label_text : Collection → ℕ → Span → List ℕ
label_text known level span =
    indent level
    ++ (escaped (name_or_id span.id (map.get known.by_id span.id))
    ++ (text_part (text_in span.text) ++ codes "\n"))

-- a scope within so many others, the innermost of which takes this time
abbrev pub nested_line : Collection → ℤ → ℕ → ℕ → Span → List ℕ
nested_line known begin level outer span =
    flat_map row_cell (scope_cells begin span.start (time_of span) outer)
    ++ (codes "  " ++ label_text known level span)

abbrev pub scope_line : Collection → ℤ × ℤ → ScopeInContext → List ℕ
scope_line known range scope =
    nested_line known range.0 (length scope.around)
    (outer_time (length_of range) scope.around) scope.span

-- ---- a frame

abbrev pub range_text : ℤ × ℤ → List ℕ
range_text range =
    codes " range " ++ (grouped_moment range.0 ++ (codes " " ++ grouped_moment range.1))

abbrev pub duration_text : ℤ × ℤ → List ℕ
duration_text range = codes " duration " ++ (readable_time (length_of range) ++ codes "\n")

-- each scope of a forest, before the scopes in it
abbrev pub forest_lines : Collection → ℤ × ℤ → Forest → List ℕ
forest_lines known range forest = flat_map (scope_line known range) (nested_in [] forest)

-- a thread, behind the names of the columns
abbrev pub thread_line : ThreadKey → List ℕ
thread_line key =
    heading (scope_cells (pos 0) (pos 0) 0 0)
    ++ (codes "  thread " ++ (thread_text key ++ codes "\n"))

-- a thread, and its scopes
abbrev pub tree_text : Collection → ℤ × ℤ → Tree → List ℕ
tree_text known range tree = thread_line tree.0 ++ forest_lines known range tree.1

abbrev pub head_text : FrameMeta → List ℕ
head_text meta =
    (codes "frame " ++ decimal meta.frame_index)
    ++ (range_text meta.range_ns ++ duration_text meta.range_ns)

abbrev pub trees_text : Collection → TreeFrame → List ℕ
trees_text known frame =
    head_text frame.meta ++ flat_map (tree_text known frame.meta.range_ns) frame.trees

-- whether there is a thread, or there was before
abbrev pub has_trees : Bool → List Tree → Bool
has_trees before [] = before
has_trees before (tree ∷ trees) = true

-- whether there is a thread to print in one of these frames, or there was before
abbrev pub found_in : Bool → List TreeFrame → Bool
found_in before frames = fold (λ found f. has_trees found f.trees) before frames

-- The wanted frames, each with the wanted threads; `found` is whether there is one.
abbrev pub IsFrameText : Collection → Wanted → Bool → List OpenFrame → List ℕ → Type 0
IsFrameText known wanted found frames text =
    (trees : List TreeFrame)
    × AreTaken wanted frames trees
    × (text ≡ flat_map (trees_text known) trees)
    × (found ≡ found_in false trees)
