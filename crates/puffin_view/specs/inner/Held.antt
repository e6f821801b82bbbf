-- How a view's frames are held: each under its index, with running sums.
use Rattle.std.specs.Prelude.{ℕ, Bool, cond, List, Option, map, unwrap_or, ◌++◌, ◌≡◌, ◌%◌, ◌^◌}
use Rattle.std.specs.Option.{option_map}
use Rattle.std.specs.List.{sum_by}
use Rattle.std.specs.List.Sorted.{IsStrictlySortedBy}
use Rattle.std.specs.Map.{keys_of, values_of}
use Rattle.std.specs.Ordering.{nat_cmp}
use Rattle.std.specs.FinMap as map
use Rattle.std.specs.Coded.{Coded, coded_ℕ}
use Rattle.std.specs.declared.sync.Arc.{Arc}
use Rattle.puffin_frames.specs.declared.frame_data.frame.FrameData.{FrameData}
use Rattle.puffin_view.specs.declared.profile_view.running_stats.RunningStats.{RunningStats}
use Rattle.puffin_view.specs.View.ViewedFrames.{Frame, index_of, ram_of}
use Rattle.puffin_view.specs.View.FrameOf.{shared_frame}
use Rattle.puffin_view.specs.inner.Codes.{frame_code}

-- the frames that are held, each under its index
abbrev pub HeldFrames : Type 0
HeldFrames = map.FinMap nat_cmp Frame

abbrev pub held_code : Coded HeldFrames
held_code = map.code coded_ℕ frame_code

-- the entries of a map, as a view sees them
abbrev pub frames_seen : {A : Type 0} → List (ℕ × Arc FrameData A) → List (ℕ × Frame)
frames_seen entries = map (λ entry. (entry.0, shared_frame entry.1)) entries

-- the frames that are held in these entries
abbrev pub held_of : {A : Type 0} → List (ℕ × Arc FrameData A) → HeldFrames
held_of entries = map.from_entries (frames_seen entries)

-- frames in a row, each with its index
abbrev pub keyed : {A : Type 0} → List (Arc FrameData A) → List (ℕ × Arc FrameData A)
keyed row = map (λ arc. (index_of (shared_frame arc), arc)) row

-- the entries of a map and the frames of a row behind them are in ascending order of index
abbrev pub AreInOrder : {A : Type 0} → List (ℕ × Arc FrameData A) → List (Arc FrameData A) → Type 0
AreInOrder entries row = IsStrictlySortedBy nat_cmp (keys_of (entries ++ keyed row))

-- 1 if it is true, else 0
abbrev pub number_if : Bool → ℕ
number_if test = cond test 1 0

-- 1 if the frame is held unpacked, else 0
abbrev pub unpacked_number : {A : Type 0} → Arc FrameData A → ℕ
unpacked_number arc = number_if (shared_frame arc).is_unpacked

-- how many bytes the frame takes
abbrev pub ram_taken : {A : Type 0} → Arc FrameData A → ℕ
ram_taken arc = ram_of (shared_frame arc)

-- the same two of a frame that may be missing, where both are 0
abbrev pub unpacked_if : {A : Type 0} → Option (Arc FrameData A) → ℕ
unpacked_if arc = unwrap_or (option_map unpacked_number arc) 0

abbrev pub ram_if : {A : Type 0} → Option (Arc FrameData A) → ℕ
ram_if arc = unwrap_or (option_map ram_taken arc) 0

-- a sum as it wraps around in a `u128`
abbrev pub wrapped_sum : ℕ → ℕ
wrapped_sum sum = sum % 2 ^ 128

-- the running sums are those of the frames in these entries
pub record IsSummed {A : Type 0} (entries : List (ℕ × Arc FrameData A)) (sums : RunningStats) :
    Type 0 where
  pub unpacked_frames : sums.unpacked_frames
      ≡ wrapped_sum (sum_by unpacked_number (values_of entries))
  pub bytes : sums.bytes_of_ram_used ≡ wrapped_sum (sum_by ram_taken (values_of entries))
