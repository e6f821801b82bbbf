-- The start of a thread's first scope, in its events and in its bytes, and the range of its scopes once all have ended.
use Rattle.std.specs.Prelude.{ℕ, ℤ, List, [], ◌∷◌, length, nat_lt, if◌then◌else◌, Option, Some, None}
use Rattle.puffin_data.specs.declared.data.info.StreamInfo.{StreamInfo}
use Rattle.puffin_data.specs.Forest.Tour.{Event, Open, Close}
use Rattle.puffin_data.specs.Walk.Reading.{time_in}

-- the start of the first scope that opens, if one does
abbrev pub first_open : List Event → Option ℤ
first_open [] = None
first_open (Open id text start ∷ word) = Some start
first_open (Close stop ∷ word) = first_open word

-- the start of the scope at the front of bytes, if there is one
abbrev pub start_in : List ℕ → Option ℤ
start_in bytes = if nat_lt (length bytes) 13 then None else Some (time_in bytes 5)

-- the range of scopes of which the first has this start, if it is known, and whose times never fall until the latest
abbrev pub range_until : Option ℤ → ℤ → ℤ × ℤ → ℤ × ℤ
range_until None latest range = range
range_until (Some start) latest range = (start, latest)

-- an info with its range set, once all scopes have ended and `latest` is their greatest time
abbrev pub completed_info : StreamInfo → ℤ → StreamInfo
completed_info info latest =
    record info { range_ns = range_until (start_in info.stream.bytes) latest info.range_ns }
