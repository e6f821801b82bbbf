-- Which frames a page has by default: the last and the slowest.
use Rattle.std.specs.Prelude.{◌≡◌, ℕ, ◌-◌, ◌-ℤ◌, Bool, nat_le, nat_eq, not, ◌&&◌, List, [], ◌∷◌, ◌++◌, fold, map, take, Option, if◌then◌else◌}
use Rattle.std.specs.List.{list_any}
use Rattle.puffin_frames.specs.Packet.Stored.{PacketFields, Stored}
use Rattle.puffin_view.specs.View.ViewedFrames.{fields_of}
use Rattle.puffin_view.specs.View.File.{frame_stored}
use Rattle.puffin_look.specs.Printed.{Begins, EndsBehind}
use Rattle.puffin_look.specs.Slowest.{with_row_by}
use Rattle.puffin_look.specs.declared.page_choice.PageLimits.{PageLimits}
use Rattle.puffin_look.specs.declared.page_choice.Row.{Row}

abbrev pub row_of : PacketFields → Row
row_of fields = record {
  index = fields.meta.frame_index;
  duration_ns = fields.meta.range_ns.1 -ℤ fields.meta.range_ns.0;
  bytes = fields.meta.num_bytes;
}

-- the rows of a file's frames, in order
abbrev pub rows_of : List Stored → List Row
rows_of stored = map (λ s. row_of (fields_of (frame_stored s))) stored

-- ---- the slowest

-- a row before the first that is faster
abbrev pub with_row : List Row → Row → List Row
with_row = with_row_by (λ (row : Row). row.duration_ns)

-- this many, the slowest first, and of equally slow ones the one that comes first in the file
abbrev pub slowest : ℕ → List Row → List Row
slowest limit rows = fold (λ slow row. take limit (with_row slow row)) [] rows

-- ---- the last

-- this many, the last first
abbrev pub recent : ℕ → List Row → List Row
recent limit rows = fold (λ last row. take limit (row ∷ last)) [] rows

-- ---- both, as far as there is room

pub record Chosen : Type 0 where
  pub indices : List ℕ
  pub room : ℕ

abbrev pub fits : Chosen → Row → Bool
fits chosen row =
    nat_le row.bytes chosen.room && not (list_any (λ i. nat_eq i row.index) chosen.indices)

-- a frame is left out if it was chosen already or has more bytes than there is room for
abbrev pub with_fitting : Chosen → Row → Chosen
with_fitting chosen row =
    if fits chosen row then record {
      indices = chosen.indices ++ row.index ∷ [];
      room = chosen.room - row.bytes;
    } else chosen

abbrev pub fitting : ℕ → List Row → List ℕ
fitting room rows = (fold with_fitting (record { indices = []; room = room }) rows).indices

-- first the slowest, and then the last ones
abbrev pub candidates : PageLimits → List Row → List Row
candidates limits rows = slowest limits.slow rows ++ recent limits.recent rows

-- the choice among the frames of a file that are before its end, or before the first that can't be read
pub record IsPageChoice (limits : PageLimits) (unread left : Option (List ℕ))
    (indices : List ℕ) : Type 0 where
  pub stored : List Stored
  pub begins : Begins unread stored
  pub end : EndsBehind unread left stored
  pub chosen : indices ≡ fitting limits.bytes (candidates limits (rows_of stored))
