-- What contracts see of a view's frames, and how each call changes them.
pub mod Ranking
pub mod ViewedFrames
pub mod FrameOf
pub mod FrameRanks
pub mod Known
pub mod Adding
pub mod File
pub mod Grammar
pub mod FrameFile
pub mod FrameDevices
pub mod Selection
pub mod Stats
pub mod Listings
use Rattle.std.specs.Prelude.{ℕ, Bool, true, false, cond, List, [], ◌∷◌, ◌++◌, Option, Some, None, nat_lt, nat_le, int_lt, ◌||◌, ◌≡◌, ◌⊎◌, map, length, take}
use Rattle.std.specs.Option.{option_map_or, option_map}
use Rattle.puffin_view.specs.View.Ranking.{place, last_of, last_in}
use Rattle.puffin_frames.specs.Packet.Stored.{PacketFields}
use Rattle.puffin_view.specs.View.ViewedFrames.{Frame, is_slower_frame, slowest, fields_of, frame_index, index_of, duration_of, packed_under, rising_end, chronological}

-- ---- the frames that a view holds

-- a view's frames and settings
pub record View : Type 0 where
  -- the last frames, oldest first
  pub recent : List Frame
  -- the slowest frames, by duration, longest first, then by index
  pub slow : List Frame
  -- the index of the last frame taken
  pub last : Option ℕ
  -- the greatest number of recent frames, and of slow ones
  pub max_recent : ℕ
  pub max_slow : ℕ
  -- whether the newest frame is packed before another is taken
  pub packs : Bool

-- a view without frames, with the limits that a new view has
abbrev pub empty_view : View
empty_view =
    record { recent = []; slow = []; last = None; max_recent = 1000; max_slow = 256; packs = true }

-- The view's recent frames are the last of some frames, and its slow frames are the slowest of some frames; both lists are
-- given by the frames' contents. The two may differ, as after the slow frames were cleared.
pub record Holds (for_recent for_slow : List PacketFields) (view : View) : Type 0 where
  pub recent : map fields_of view.recent ≡ last_of view.max_recent for_recent
  pub slow : map fields_of view.slow ≡ slowest view.max_slow for_slow

-- the index of the last frame of a list
abbrev pub last_index : List PacketFields → Option ℕ
last_index frames = option_map frame_index (last_in frames)

-- whether a frame's index is above the last one, if there is one
abbrev pub rises_behind : Option ℕ → PacketFields → Bool
rises_behind last next = option_map_or (λ index. nat_lt index (frame_index next)) last true

-- The view took frames with these contents, in order, and its limits didn't change after the first of them. A frame whose index
-- isn't above the last one empties the view first, so it holds frames of the last run of rising indices.
pub record Took (taken : List PacketFields) (view : View) : Type 0 where
  pub holds : Holds (rising_end taken) (rising_end taken) view
  pub last : view.last ≡ last_index taken

-- all frames of the view, each once, in ascending order of index
abbrev pub all_uniq : View → List Frame
all_uniq view = chronological (view.recent ++ view.slow)

-- ---- how each call changes a view

-- the view without its frames, with the same settings
abbrev pub without_frames : View → View
without_frames view = record {
  recent = [];
  slow = [];
  last = None;
  max_recent = view.max_recent;
  max_slow = view.max_slow;
  packs = view.packs;
}

-- the view with the frame that has this index packed, in both lists
abbrev pub with_packed : ℕ → View → View
with_packed index view = record {
  recent = map (packed_under index) view.recent;
  slow = map (packed_under index) view.slow;
  last = view.last;
  max_recent = view.max_recent;
  max_slow = view.max_slow;
  packs = view.packs;
}

-- the view with its newest frame packed
abbrev pub with_newest_packed : View → View
with_newest_packed view =
    option_map_or (λ newest. with_packed (index_of newest) view) (last_in view.recent) view

-- whether an index isn't above that of the last frame taken
abbrev pub is_past : View → ℕ → Bool
is_past view index = option_map_or (λ last. nat_le index last) view.last false

-- the view before it takes a frame with this index: empty if the index isn't above that of the last frame taken, otherwise with
-- its newest frame packed if packing is on
abbrev pub ready_for : View → ℕ → View
ready_for view index =
    cond (is_past view index) (without_frames view) (
    cond view.packs (with_newest_packed view) view)

-- whether a frame belongs among the `limit` slowest, which it does if there is room, or if it is longer than the last of them
abbrev pub enters_among : ℕ → List Frame → Frame → Bool
enters_among limit slow next =
    nat_lt (length slow) limit
    || option_map_or (λ last. int_lt (duration_of last) (duration_of next)) (last_in slow) false

-- the `limit` slowest after one more frame: if it belongs among them, it is inserted in its place, and they are cut to the
-- limit
abbrev pub slow_after : ℕ → List Frame → Frame → List Frame
slow_after limit slow next =
    cond (enters_among limit slow next) (take limit (place is_slower_frame next slow)) slow

-- the view with a frame added after all others: as its newest frame, and among the slowest if it belongs there
abbrev pub joined_by : View → Frame → View
joined_by view next = record {
  recent = last_of view.max_recent (view.recent ++ next ∷ []);
  slow = slow_after view.max_slow view.slow next;
  last = Some (index_of next);
  max_recent = view.max_recent;
  max_slow = view.max_slow;
  packs = view.packs;
}

-- The view after it took a frame: first it is made ready, which may empty it, and then the frame is added.
abbrev pub after_taking : View → Frame → View
after_taking view next = joined_by (ready_for view (index_of next)) next

-- the view after it failed to take a frame with this index: unchanged or, if packing is on and the index is above that of the
-- last frame taken, with its newest frame packed
abbrev pub KeepsFrames : View → ℕ → View → Type 0
KeepsFrames old index new =
    (new ≡ old)
    ⊎ ((is_past old index ≡ false) × (old.packs ≡ true) × (new ≡ with_newest_packed old))

-- the view after it took frames in order
abbrev pub after_all : View → List Frame → View
after_all view [] = view
after_all view (next ∷ frames) = after_all (after_taking view next) frames
