-- The slowest frames of a file.
use Rattle.std.specs.Prelude.{◌≡◌, ℕ, ℤ, Bool, int_lt, List, [], ◌∷◌, fold, map, take, if◌then◌else◌}
use Rattle.puffin_look.specs.OpenFrame.{OpenFrame}
use Rattle.puffin_look.specs.FrameLines.{frame_row, frame_list}
use Rattle.puffin_look.specs.declared.frames.FrameRow.{FrameRow}
use Rattle.puffin_look.specs.declared.lines.Form.{Form}

module _ {X : Type 0} (duration : X → ℤ) where
  abbrev pub is_faster_by : X → X → Bool
  is_faster_by row other = int_lt (duration other) (duration row)

  -- a row before the first that is faster
  abbrev pub with_row_by : List X → X → List X
  with_row_by [] row = row ∷ []
  with_row_by (first ∷ rows) row =
      if is_faster_by row first then row ∷ (first ∷ rows)
      else first ∷ with_row_by rows row

abbrev pub with_row : List FrameRow → FrameRow → List FrameRow
with_row = with_row_by (λ (row : FrameRow). row.duration_ns)

-- the slowest first, and of equally slow ones the one that comes first in the file
abbrev pub slowest_first : List FrameRow → List FrameRow
slowest_first rows = fold with_row [] rows

-- the list of this many slowest frames
abbrev pub AreSlowestFrames : Form → ℕ → List OpenFrame → List ℕ → Type 0
AreSlowestFrames form limit frames text =
    text ≡ frame_list form (take limit (slowest_first (map frame_row frames)))

-- nothing is printed of any frames
abbrev pub IsNoText : List OpenFrame → List ℕ → Type 0
IsNoText frames text = text ≡ []
