-- The slowest frames of a list, as `select_slowest` returns them.
use Rattle.std.specs.Prelude.{ℕ, ℤ, suc, Bool, List, [], ◌∷◌, ◌≡◌, take, IsPermutation, slice_get, filter_map}
use Rattle.std.specs.List.Sorted.{IsSortedBy}
use Rattle.std.specs.declared.cmp.Ordering.{Ordering}
use Rattle.std.specs.Ordering.{nat_cmp, int_cmp, is_lt, ordering_then, on, then_cmp}
use Rattle.puffin_view.specs.declared.profile_view.select.ByIndex.{ByIndex}
use Rattle.puffin_view.specs.View.ViewedFrames.{Frame, index_of, duration_of}

-- a frame's duration, its index and its place in a list
pub record Rank : Type 0 where
  pub duration : ℤ
  pub index : ℕ
  pub place : ℕ

-- the rank of the frame at this place
abbrev pub rank_at : ℕ → Frame → Rank
rank_at place frame =
    record { duration = duration_of frame; index = index_of frame; place = place }

-- the ranks of frames, the first of them at this place
abbrev pub ranks_from : ℕ → List Frame → List Rank
ranks_from place [] = []
ranks_from place (frame ∷ frames) = rank_at place frame ∷ ranks_from (suc place) frames

-- by duration, longest first, then by index, then by place
abbrev pub slower_rank : Rank → Rank → Bool
slower_rank rank other =
    is_lt (
    ordering_then (int_cmp other.duration rank.duration) (
    ordering_then (nat_cmp rank.index other.index) (nat_cmp rank.place other.place)))

-- by index, then by place (no two ranks have the same place)
abbrev pub older_cmp : Rank → Rank → Ordering
older_cmp =
    then_cmp (on (λ rank. rank.index) nat_cmp) (
    then_cmp (on (λ rank. rank.place) nat_cmp) (on (λ rank. rank.duration) int_cmp))

abbrev pub older_rank : Rank → Rank → Bool
older_rank rank other = is_lt (older_cmp rank other)

-- a `ByIndex` of the code, as a rank
abbrev pub rank_by_index : ByIndex → Rank
rank_by_index at = record { duration = at.duration_ns; index = at.frame_index; place = at.place }

-- `out` is the first `max` frames by duration, longest first, then by index, then by place; they are sorted by index, then by
-- place
pub record IsSelection (max : ℕ) (frames out : List Frame) : Type 0 where
  pub ranked : List Rank
  pub ranks : IsPermutation (ranks_from 0 frames) ranked
  pub slowest_first : IsSortedBy slower_rank ranked
  pub chosen : List Rank
  pub chooses : IsPermutation (take max ranked) chosen
  pub oldest_first : IsSortedBy older_rank chosen
  pub is : out ≡ filter_map (λ rank. slice_get frames rank.place) chosen
