-- The list of the frames of a file.
use Rattle.std.specs.Prelude.{◌≡◌, ℕ, ◌-ℤ◌, List, [], ◌∷◌, codes, map, Option, Some, None}
use Rattle.std.specs.FinMap as tree
use Rattle.puffin_look.specs.OpenFrame.{OpenFrame}
use Rattle.puffin_look.specs.Cells.{Cell, length_of}
use Rattle.puffin_look.specs.Forms.{list_text}
use Rattle.puffin_look.specs.Objects.{row_text}
use Rattle.puffin_look.specs.Wanted.{frames_within}
use Rattle.puffin_look.specs.declared.frames.FrameRow.{FrameRow}
use Rattle.puffin_look.specs.declared.lines.Form.{Form}
use Rattle.puffin_look.specs.declared.rows.Value.TheVariants.{Number, Moment, Time}
use Rattle.puffin_look.specs.declared.wanted.Indices.{Indices}

abbrev pub frame_row : OpenFrame → FrameRow
frame_row frame = record {
  index = frame.meta.frame_index;
  threads = tree.len frame.streams;
  scopes = frame.meta.num_scopes;
  range_ns = frame.meta.range_ns;
  duration_ns = frame.meta.range_ns.1 -ℤ frame.meta.range_ns.0;
}

abbrev pub frame_cells : FrameRow → List Cell
frame_cells row =
    (codes "frame", Number row.index) ∷ (codes "threads", Number row.threads)
    ∷ (codes "scopes", Number row.scopes) ∷ (codes "start", Moment row.range_ns.0)
    ∷ (codes "duration", Time (Some (length_of row.range_ns))) ∷ []

abbrev pub frame_line : Form → FrameRow → List ℕ
frame_line form row = row_text form (frame_cells row) None

-- the first line of a table
abbrev pub column_names : List ℕ
column_names =
    codes "         frame       threads        scopes                      start    duration\n"

abbrev pub frame_list : Form → List FrameRow → List ℕ
frame_list form rows = list_text form column_names (map (frame_line form) rows)

-- the list of the frames with one of these indices
abbrev pub IsFrameList : Form → Option Indices → List OpenFrame → List ℕ → Type 0
IsFrameList form indices frames text =
    text ≡ frame_list form (map frame_row (frames_within indices frames))
