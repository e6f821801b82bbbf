-- The list of the threads of a file.
use Rattle.std.specs.Prelude.{◌≡◌, ℕ, ℤ, List, [], ◌∷◌, ◌++◌, fold, map, codes, Option, Some, None}
use Rattle.std.specs.Fmt.{signed_decimal}
use Rattle.std.specs.FinMap as tree
use Rattle.puffin_threads.specs.Thread.ThreadKey.{ThreadKey}
use Rattle.puffin_view.specs.declared.thread_totals.ThreadTotals.{ThreadTotals}
use Rattle.puffin_view.specs.ThreadTotals.{Totals, with_frame as with_streams}
use Rattle.puffin_look.specs.OpenFrame.{OpenFrame}
use Rattle.puffin_look.specs.Escapes.{escaped}
use Rattle.puffin_look.specs.Cells.{Cell, length_of}
use Rattle.puffin_look.specs.Forms.{list_text}
use Rattle.puffin_look.specs.Objects.{row_text}
use Rattle.puffin_look.specs.declared.lines.Form.{Form}
use Rattle.puffin_look.specs.declared.rows.Value.TheVariants.{Number, Moment, Time}

abbrev pub with_frame : Totals → OpenFrame → Totals
with_frame totals frame = with_streams totals frame.streams

-- the totals of the threads of these frames
abbrev pub totals_of : List OpenFrame → Totals
totals_of frames = fold with_frame tree.empty frames

-- a thread's start, or `-` if it is unknown
abbrev pub start_text : Option ℤ → List ℕ
start_text None = codes "-"
start_text (Some start) = signed_decimal start

-- a thread as `report` takes it: its start, a colon and its name
abbrev pub thread_word : ThreadKey → List ℕ
thread_word key = start_text key.start ++ (codes ":" ++ key.name)

-- the same, where the name's control characters are escaped
abbrev pub thread_text : ThreadKey → List ℕ
thread_text key = start_text key.start ++ (codes ":" ++ escaped key.name)

abbrev pub thread_cells : ThreadTotals → List Cell
thread_cells totals =
    (codes "frames", Number totals.frames) ∷ (codes "scopes", Number totals.scopes)
    ∷ (codes "bytes", Number totals.bytes) ∷ (codes "start", Moment totals.range_ns.0)
    ∷ (codes "duration", Time (Some (length_of totals.range_ns))) ∷ []

abbrev pub thread_line : Form → ThreadKey × ThreadTotals → List ℕ
thread_line form entry =
    row_text form (thread_cells entry.1) (Some (codes "thread", thread_word entry.0))

-- the first line of a table
abbrev pub column_names : List ℕ
column_names =
    codes "        frames        scopes         bytes                      start    duration  thread\n"

abbrev pub thread_list : Form → List (ThreadKey × ThreadTotals) → List ℕ
thread_list form entries = list_text form column_names (map (thread_line form) entries)

-- the list of the threads of these frames, in the order of the threads
abbrev pub IsThreadList : Form → List OpenFrame → List ℕ → Type 0
IsThreadList form frames text = text ≡ thread_list form (tree.entries (totals_of frames))
