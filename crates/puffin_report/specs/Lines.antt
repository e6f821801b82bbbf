-- The two lines that `count` prints.
use Rattle.std.specs.Prelude.{ℕ, ◌^◌, ℤ, pos, ◌-ℤ◌, int_lt, List, ◌++◌, length, codes, Option, Some, None, Result, Ok, Err, if◌then◌else◌}
use Rattle.std.specs.Fmt.{decimal, signed_decimal}
use Rattle.puffin_data.specs.declared.data.form.Form.{Form}
use Rattle.puffin_data.specs.declared.error.Error.{Error}
use Rattle.puffin_data.specs.declared.error.Error.TheVariants.{Empty, RangeTooLong}
use Rattle.puffin_data.specs.Cause.{error_name}
use Rattle.puffin_data.specs.Forest.{Forest, empty, node}
use Rattle.puffin_data.specs.Forest.Measures.{scope_count, height, least_start, greatest_stop}
use Rattle.puffin_data.specs.Forest.Spelling.{spelling}
use Rattle.puffin_frames.specs.declared.frame_data.meta.FrameMeta.{FrameMeta}

-- the line of these measures
abbrev pub measures_line : ℕ → ℕ → ℤ → ℤ → List ℕ
measures_line scopes depth start stop =
    codes "scopes " ++ (decimal scopes
    ++ (codes " depth " ++ (decimal depth ++ (codes " range " ++ (signed_decimal start
    ++ (codes " " ++ (signed_decimal stop ++ codes "\n")))))))

-- the line of a forest
abbrev pub count_line : Forest → List ℕ
count_line empty = codes "scopes 0 depth 0 range empty\n"
count_line (node scope children others) =
    let forest = node scope children others in
    measures_line (scope_count forest) (height forest) (least_start forest) (greatest_stop forest)

-- the two halves of a frame's line: its sums, and its range with the duration
abbrev pub sums_text : ℕ → ℕ → ℕ → List ℕ
sums_text index bytes scopes =
    codes "frame " ++ (decimal index
    ++ (codes " bytes " ++ (decimal bytes ++ (codes " scopes " ++ decimal scopes))))

abbrev pub range_text : ℤ → ℤ → ℤ → List ℕ
range_text start stop duration =
    codes " range " ++ (signed_decimal start ++ (codes " " ++ (signed_decimal stop
    ++ (codes " duration " ++ (signed_decimal duration ++ codes "\n")))))

-- the line of a frame with this meta
abbrev pub meta_line : FrameMeta → List ℕ
meta_line meta =
    sums_text meta.frame_index meta.num_bytes meta.num_scopes
    ++ range_text meta.range_ns.0 meta.range_ns.1 (meta.range_ns.1 -ℤ meta.range_ns.0)

-- the line of a frame that was refused with this cause
abbrev pub none_line : Error → List ℕ
none_line cause = codes "frame none " ++ (error_name cause ++ codes "\n")

-- the meta of frame 0 with a forest as its one stream, in this form
abbrev pub meta_of_forest : Form → Forest → FrameMeta
meta_of_forest form forest = record {
  frame_index = 0;
  range_ns = (least_start forest, greatest_stop forest);
  num_bytes = length (spelling form forest);
  num_scopes = scope_count forest;
}

-- what making that frame returns: it is refused if there is no scope, or if the time from the least start to the greatest stop
-- doesn't fit i64
abbrev pub frame_of_forest : Form → Forest → Result FrameMeta Error
frame_of_forest form empty = Err Empty
frame_of_forest form (node scope children others) =
    let forest = node scope children others in
    if int_lt (greatest_stop forest -ℤ least_start forest) (pos (2 ^ 63))
    then Ok (meta_of_forest form forest)
    else Err RangeTooLong

-- the line of a frame, or of the cause that refused it
abbrev pub outcome_line : Result FrameMeta Error → List ℕ
outcome_line (Ok meta) = meta_line meta
outcome_line (Err cause) = none_line cause

-- the cause that the program ends with, if any; `Empty` doesn't count
abbrev pub refusal_of : Result FrameMeta Error → Option Error
refusal_of (Ok meta) = None
refusal_of (Err Empty) = None
refusal_of (Err cause) = Some cause

-- the two lines of a forest
abbrev pub lines_of : Form → Forest → List ℕ
lines_of form forest = count_line forest ++ outcome_line (frame_of_forest form forest)
