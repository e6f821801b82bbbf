-- The scopes of a file by name: how often each was met, and what time it took.
use Rattle.std.specs.Prelude.{◌≡◌, ◌⊎◌, ℕ, ◌+◌, ◌-◌, ◌*◌, ◌/◌, ◌^◌, ◌<◌, ◌≤◌, Bool, true, false, nat_lt, nat_le, List, [], ◌∷◌, ◌++◌, length, codes, map, fold, filter, count_by, sum, min, max, if◌then◌else◌, Option, Some, None}
use Rattle.std.specs.FinMap as tree
use Rattle.std.specs.List.{flat_map}
use Rattle.std.specs.List.Sorted.{IsPermutation, IsNonDecreasingBy}
use Rattle.std.proofs.Math.Bool.{not}
use Rattle.std.specs.Str.{bytes_eq}
use Rattle.puffin_data.specs.declared.file_error.FileError.{FileError}
use Rattle.puffin_data.specs.Device.{IsOutside}
use Rattle.puffin_data.specs.Forest.{Span, Forest}
use Rattle.puffin_data.specs.Text.{text_in}
use Rattle.puffin_data.specs.Walk.PlacedScopes.{ScopeInContext, nested_in}
use Rattle.puffin_threads.specs.Details.Collection.{Collection}
use Rattle.puffin_frames.specs.Packet.Stored.{Stored}
use Rattle.puffin_view.specs.View.File.{file_at, TookFrames}
use Rattle.puffin_view.specs.View.Stats.{cut}
use Rattle.puffin_look.specs.OpenFrame.{OpenFrame, AreOpened}
use Rattle.puffin_look.specs.Printed.{Begins, HasFaultBehind, StopsBeforeFrames}
use Rattle.puffin_look.specs.Trees.{TreeFrame}
use Rattle.puffin_look.specs.Wanted.{AreTaken, RefusesTaken}
use Rattle.puffin_look.specs.declared.wanted.Wanted.{Wanted}
use Rattle.puffin_look.specs.Names.{name_or_id, with_name}
use Rattle.puffin_look.specs.FrameTree.{time_of}
use Rattle.puffin_look.specs.Buckets.{bucket_of, last_of}
use Rattle.puffin_look.specs.Cells.{length_of}
use Rattle.puffin_look.specs.declared.top.TopRow.{TopRow}
use Rattle.puffin_look.specs.declared.top.Top.{Top}
use Rattle.puffin_look.specs.declared.top.By.{By}
use Rattle.puffin_look.specs.declared.top.By.TheVariants as by

-- ---- a scope

-- a text in parentheses, unless it is empty
abbrev pub behind_name : List ℕ → List ℕ
behind_name [] = []
behind_name (byte ∷ bytes) = codes " (" ++ ((byte ∷ bytes) ++ codes ")")

-- a scope's name, with its text if texts are kept apart
abbrev pub scope_name : Collection → Bool → Span → List ℕ
scope_name known texts span =
    name_or_id span.id (tree.get known.by_id span.id)
    ++ (if texts then behind_name (text_in span.text) else [])

-- A call of a scope with this name, or the time of a scope directly within one.
pub record Piece : Type 0 where
  pub name : List ℕ
  pub is_call : Bool
  pub time : ℕ

abbrev pub outer_piece : Option (List ℕ) → ℕ → List Piece
outer_piece None time = []
outer_piece (Some name) time = record { name = name; is_call = false; time = time } ∷ []

-- the name of the innermost of these scopes
abbrev pub inner_name : Collection → Bool → Option (List ℕ) → Span → Option (List ℕ)
inner_name known texts outer span = Some (scope_name known texts span)

abbrev pub name_around : Collection → Bool → List Span → Option (List ℕ)
name_around known texts around = fold (inner_name known texts) None around

abbrev pub pieces_at : Option (List ℕ) → List ℕ → ℕ → List Piece
pieces_at outer name time =
    record { name = name; is_call = true; time = time } ∷ outer_piece outer time

abbrev pub scope_pieces : Collection → Bool → ScopeInContext → List Piece
scope_pieces known texts scope =
    pieces_at (name_around known texts scope.around) (scope_name known texts scope.span)
    (time_of scope.span)

abbrev pub forest_pieces : Collection → Bool → Forest → List Piece
forest_pieces known texts forest = flat_map (scope_pieces known texts) (nested_in [] forest)

abbrev pub frame_pieces : Collection → Bool → TreeFrame → List Piece
frame_pieces known texts frame = flat_map (λ t. forest_pieces known texts t.1) frame.trees

abbrev pub pieces : Collection → Bool → List TreeFrame → List Piece
pieces known texts frames = flat_map (frame_pieces known texts) frames

-- ---- a name

abbrev pub pieces_of : List ℕ → List Piece → List Piece
pieces_of name all = filter (λ p. bytes_eq p.name name) all

-- the durations of the scopes with a name
abbrev pub call_times : List Piece → List ℕ
call_times all = map (λ p. p.time) (filter (λ p. p.is_call) all)

-- the durations of the scopes directly within these
abbrev pub nested_times : List Piece → List ℕ
nested_times all = map (λ p. p.time) (filter (λ p. not p.is_call) all)

-- this duration is the one of this rank, the least having the rank 1
abbrev pub HasRank : ℕ → List ℕ → ℕ → Type 0
HasRank rank times time =
    (count_by (λ t. nat_lt t time) times < rank) × (rank ≤ count_by (λ t. nat_le t time) times)

-- so many percent of the calls, rounded up
abbrev pub rank_of : ℕ → ℕ → ℕ
rank_of percent calls = (calls * percent + 99) / 100

-- So many percent of the calls take at most this long: the time is the greatest in the bucket of the duration of that rank, but
-- at most the greatest duration. (A file with 2^64 calls or more isn't told of.)
abbrev pub IsPercentile : ℕ → List ℕ → ℕ → Type 0
IsPercentile percent times value =
    length times < 2 ^ 64 → (exact : ℕ) → exact < 2 ^ 64 →
    HasRank (rank_of percent (length times)) times exact →
    value ≡ min (last_of (bucket_of exact)) (fold max 0 times)

-- The row of a name with these pieces. Sums that don't fit 64 bits are cut.
pub record IsRow (all : List Piece) (row : TopRow) : Type 0 where
  pub calls : row.calls ≡ cut (length (call_times all))
  pub total : row.total ≡ cut (sum (call_times all))
  pub own : row.own ≡ cut (sum (call_times all)) - cut (sum (nested_times all))
  pub least : row.least ≡ fold min (2 ^ 64 - 1) (call_times all)
  pub median : IsPercentile 50 (call_times all) row.median
  pub p95 : IsPercentile 95 (call_times all) row.p95
  pub p99 : IsPercentile 99 (call_times all) row.p99
  pub greatest : row.greatest ≡ fold max 0 (call_times all)

-- each name once, in the order in which they are met
abbrev pub names_in : List Piece → List (List ℕ)
names_in all = fold (λ names p. with_name names p.name) [] all

-- a row for each of these names, in order
abbrev pub AreRowsOf : List Piece → List (List ℕ) → List TopRow → Type 0
AreRowsOf all [] [] = Unit {0}
AreRowsOf all [] (row ∷ rows) = ⊥
AreRowsOf all (name ∷ names) [] = ⊥
AreRowsOf all (name ∷ names) (row ∷ rows) =
    ((row.name.items ≡ name) × IsRow (pieces_of name all) row) × AreRowsOf all names rows

-- the durations of frames, together
abbrev pub with_length : ℕ → TreeFrame → ℕ
with_length whole frame = cut (whole + length_of frame.meta.range_ns)

-- the number of frames
abbrev pub with_one : ℕ → TreeFrame → ℕ
with_one count frame = cut (count + 1)

-- ---- a file

-- The scopes of the wanted threads, in all wanted frames, by name.
pub record IsTop (known : Collection) (wanted : Wanted) (texts : Bool)
    (unread left : Option (List ℕ)) (top : Top) : Type 0 where
  pub stored : List Stored
  pub took : TookFrames file_at unread left stored
  pub frames : List OpenFrame
  pub opens : AreOpened stored frames
  pub trees : List TreeFrame
  pub taken : AreTaken wanted frames trees
  pub rows : AreRowsOf (pieces known texts trees) (names_in (pieces known texts trees))
      top.rows.items
  pub whole : top.whole ≡ fold with_length 0 trees
  pub count : top.frames ≡ fold with_one 0 trees

-- The reader or memory failed; or this is the first fault of the file.
pub record StopsReading (wanted : Wanted) (unread left : Option (List ℕ))
    (fault : FileError) : Type 0 where
  pub stored : List Stored
  pub begins : Begins unread stored
  pub frames : List OpenFrame
  pub opens : AreOpened stored frames
  pub outcome : IsOutside fault
      ⊎ HasFaultBehind (RefusesTaken wanted) unread left stored frames fault
      ⊎ StopsBeforeFrames unread left stored fault

-- ---- order

-- by what rows are sorted
abbrev pub weight : By → TopRow → ℕ
weight by.Own row = row.own
weight by.Total row = row.total
weight by.Calls row = row.calls
weight by.Greatest row = row.greatest

-- the same rows, the heaviest first
pub record AreSorted (order : By) (rows sorted : List TopRow) : Type 0 where
  pub same : IsPermutation rows sorted
  pub heaviest_first : IsNonDecreasingBy (λ row. 2 ^ 64 - 1 - weight order row) sorted
