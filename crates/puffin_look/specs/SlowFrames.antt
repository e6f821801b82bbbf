-- What takes the most time in the slowest frames of a file.
use Rattle.std.specs.Prelude.{◌≡◌, ℕ, ℤ, false, ◌-ℤ◌, List, [], ◌∷◌, ◌++◌, length, codes, Some, fold, map, take}
use Rattle.std.specs.Fmt.{decimal}
use Rattle.std.specs.List.{flat_map}
use Rattle.puffin_threads.specs.Details.Collection.{Collection}
use Rattle.puffin_frames.specs.declared.frame_data.meta.FrameMeta.{FrameMeta}
use Rattle.puffin_look.specs.OpenFrame.{OpenFrame}
use Rattle.puffin_look.specs.Trees.{TreeFrame}
use Rattle.puffin_look.specs.Wanted.{AreTaken}
use Rattle.puffin_look.specs.declared.wanted.Wanted.{Wanted}
use Rattle.puffin_look.specs.Cells.{Cell, grouped, readable_time, length_of}
use Rattle.puffin_look.specs.Folded.{Part, frame_parts}
use Rattle.puffin_look.specs.Heavy.{path_rows, step_lines}
use Rattle.puffin_look.specs.Forms.{joined, list_text}
use Rattle.puffin_look.specs.Objects.{member_tokens}
use Rattle.puffin_look.specs.declared.lines.Form.{Form}
use Rattle.puffin_look.specs.declared.lines.Form.TheVariants.{Table, Json}
use Rattle.puffin_look.specs.declared.rows.Value.TheVariants.{Number, Time}
use Rattle.json.specs.Token.{begin_object, begin_array, key}
use Rattle.json.specs.Print.{print}
use Rattle.puffin_look.specs.Slowest.{with_row_by}

-- a frame's index, duration and scopes, as a line or as the beginning of an object
abbrev pub head_cells : FrameMeta → List Cell
head_cells meta =
    (codes "frame", Number meta.frame_index)
    ∷ (codes "duration", Time (Some (length_of meta.range_ns)))
    ∷ (codes "scopes", Number meta.num_scopes) ∷ []

abbrev pub head_text : Form → FrameMeta → List ℕ
head_text Table meta =
    (codes "frame " ++ decimal meta.frame_index)
    ++ (codes ": "
    ++ (readable_time (length_of meta.range_ns)
    ++ (codes ", scopes " ++ (grouped (decimal meta.num_scopes) ++ codes "\n"))))
head_text Json meta =
    print (begin_object ∷ (flat_map member_tokens (head_cells meta)
    ++ key (codes "path") ∷ begin_array ∷ []))

-- what stands between the steps of a path, and behind them
abbrev pub between_steps : Form → List ℕ
between_steps Table = []
between_steps Json = codes ","

abbrev pub tail_text : Form → List ℕ
tail_text Table = []
tail_text Json = codes "]}"

-- the steps of the heaviest path of these parts of a frame
abbrev pub path_text : Form → FrameMeta → List Part → List ℕ
path_text form meta parts =
    joined (between_steps form) false
    (step_lines form (length (path_rows parts)) (path_rows parts) 0 [] (length_of meta.range_ns))

-- a frame, and the steps of its heaviest path, over all of its threads
abbrev pub slow_text : Form → Collection → TreeFrame → List ℕ
slow_text form known frame =
    head_text form frame.meta
    ++ (path_text form frame.meta (frame_parts known frame) ++ tail_text form)

-- a duration, and what is printed of the frame
abbrev pub Slow : Type 0
Slow = ℤ × List ℕ

abbrev pub duration : Slow → ℤ
duration slow = slow.0

abbrev pub slow_of : Form → Collection → TreeFrame → Slow
slow_of form known frame =
    (frame.meta.range_ns.1 -ℤ frame.meta.range_ns.0, slow_text form known frame)

-- the slowest first, and of equally slow ones the one that comes first in the file
abbrev pub slowest_first : Form → Collection → List TreeFrame → List Slow
slowest_first form known trees =
    fold (with_row_by duration) [] (map (slow_of form known) trees)

-- this many slowest frames of those that are wanted, with their wanted threads
abbrev pub AreSlowFrames : Form → Collection → Wanted → ℕ → List OpenFrame → List ℕ → Type 0
AreSlowFrames form known wanted limit frames text =
    (trees : List TreeFrame)
    × AreTaken wanted frames trees
    × (text
    ≡ list_text form [] (map (λ slow. slow.1) (take limit (slowest_first form known trees))))
