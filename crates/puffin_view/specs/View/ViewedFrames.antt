-- A frame as a view sees it: its contents and how it is held, with the orders of frames.
use Rattle.std.specs.Prelude.{ℕ, ◌+◌, ◌-◌, ◌^◌, ℤ, ◌-ℤ◌, Bool, true, false, cond, min, List, [], ◌∷◌, nat_lt, nat_eq, ◌&&◌, length, map}
use Rattle.std.specs.declared.cmp.Ordering.{Ordering}
use Rattle.std.specs.Ordering.{nat_cmp, int_cmp, is_lt, on, then_cmp, flip_args}
use Rattle.std.specs.FinMap as map
use Rattle.puffin_frames.specs.Packet.Stored.{PacketFields}
use Rattle.puffin_view.specs.View.Ranking.{first_in_order}

-- a frame, and how it is held
pub record Frame : Type 0 where
  pub fields : PacketFields
  pub is_unpacked : Bool
  pub is_packed : Bool

abbrev pub fields_of : Frame → PacketFields
fields_of frame = frame.fields

abbrev pub frame_index : PacketFields → ℕ
frame_index fields = fields.meta.frame_index

-- the time from its least start to its greatest stop
abbrev pub duration : PacketFields → ℤ
duration fields = fields.meta.range_ns.1 -ℤ fields.meta.range_ns.0

abbrev pub index_of : Frame → ℕ
index_of frame = frame_index frame.fields

abbrev pub duration_of : Frame → ℤ
duration_of frame = duration frame.fields

-- by duration, longest first, then by index
abbrev pub by_duration : PacketFields → PacketFields → Ordering
by_duration = then_cmp (on duration (flip_args int_cmp)) (on frame_index nat_cmp)

-- whether a frame comes before another in that order
abbrev pub is_slower : PacketFields → PacketFields → Bool
is_slower fields other = is_lt (by_duration fields other)

abbrev pub is_slower_frame : Frame → Frame → Bool
is_slower_frame frame other = is_slower frame.fields other.fields

-- the first frames, up to this number, by duration, longest first, then by index, then by place in the list
abbrev pub slowest : ℕ → List PacketFields → List PacketFields
slowest number frames = first_in_order is_slower number frames

-- whether the indices of a list strictly increase, starting above this one
abbrev pub rises_above : ℕ → List PacketFields → Bool
rises_above index [] = true
rises_above index (next ∷ others) =
    nat_lt index (frame_index next) && rises_above (frame_index next) others

-- whether the indices of a list strictly increase
abbrev pub is_rising : List PacketFields → Bool
is_rising [] = true
is_rising (first ∷ others) = rises_above (frame_index first) others

-- the longest suffix of a list in which indices strictly increase: the frames that a view took since it was last emptied
-- because an index didn't increase
abbrev pub rising_end : List PacketFields → List PacketFields
rising_end [] = []
rising_end (first ∷ others) =
    cond (is_rising (first ∷ others)) (first ∷ others) (rising_end others)

-- the frame, held packed only
abbrev pub packed_alone : Frame → Frame
packed_alone frame = record { fields = frame.fields; is_unpacked = false; is_packed = true }

-- the frame, packed if it has this index
abbrev pub packed_under : ℕ → Frame → Frame
packed_under index frame = cond (nat_eq (index_of frame) index) (packed_alone frame) frame

-- how many bytes a frame takes, as it is held: those of its unpacked streams and those of its packed ones
abbrev pub ram_of : Frame → ℕ
ram_of frame =
    min
    (cond frame.is_unpacked frame.fields.meta.num_bytes 0
    + cond frame.is_packed (length frame.fields.streams) 0)
    (2 ^ 64 - 1)

-- frames by their indices; of those with the same index, the first
abbrev pub frames_by_index : List Frame → map.FinMap nat_cmp Frame
frames_by_index frames = map.from_entries (map (λ frame. (index_of frame, frame)) frames)

-- frames sorted by index; of those with the same index, the first
abbrev pub chronological : List Frame → List Frame
chronological frames = map.values (frames_by_index frames)
