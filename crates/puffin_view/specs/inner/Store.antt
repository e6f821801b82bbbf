-- How a view stores its frames: each once by its index, with two lists of indices and ranks.
use Rattle.std.specs.Prelude.{ℕ, Bool, false, List, Option, Some, None, map, ◌++◌, ◌≡◌, nat_eq}
use Rattle.std.specs.List.{AllByRecursion, filter_map, list_any}
use Rattle.std.specs.List.Sorted.{IsStrictlySortedBy}
use Rattle.std.specs.FinMap as map
use Rattle.puffin_view.specs.declared.profile_view.slow_rank.SlowRank.{SlowRank}
use Rattle.puffin_view.specs.View.ViewedFrames.{Frame, index_of}
use Rattle.puffin_view.specs.inner.Held.{HeldFrames}
use Rattle.puffin_view.specs.View.FrameRanks.{rank_of, rank_cmp}
use Rattle.puffin_view.specs.View.Ranking.{rank_index}
use Rattle.puffin_view.specs.inner.Kept.{AreViewLists}

-- the frames held under these indices
abbrev pub frames_under : HeldFrames → List ℕ → List Frame
frames_under held indices = filter_map (map.get held) indices

-- each frame is held under its index
abbrev pub AreHeld : (ℕ → Option Frame) → List Frame → Type 0
AreHeld held frames = AllByRecursion (λ frame. held (index_of frame) ≡ Some frame) frames

-- whether a list has a frame with this index
abbrev pub has_index : ℕ → List Frame → Bool
has_index index frames = list_any (λ frame. nat_eq index (index_of frame)) frames

-- A view's fields store these recent and slow frames: the map of held frames, the indices of the recent ones, the ranks of the
-- slow ones, and the index of the last frame taken.
pub record AreStored (held : HeldFrames) (recent : List ℕ) (slow : List SlowRank)
    (last : Option ℕ) (recent_frames slow_frames : List Frame) : Type 0 where
  pub recent_at : recent ≡ map index_of recent_frames
  pub slow_at : slow ≡ map rank_of slow_frames
  pub recent_held : AreHeld (map.get held) recent_frames
  pub slow_held : AreHeld (map.get held) slow_frames
  -- no other frame is held
  pub only : (index : ℕ) → has_index index (recent_frames ++ slow_frames) ≡ false →
      map.get held index ≡ None
  pub kept : AreViewLists recent_frames slow_frames last
  pub in_order : IsStrictlySortedBy rank_cmp slow

-- the same for the frames that the map holds under these indices and under the indices of these ranks
abbrev pub IsStored : HeldFrames → List ℕ → List SlowRank → Option ℕ → Type 0
IsStored held recent slow last =
    AreStored held recent slow last (frames_under held recent) (
    frames_under held (map rank_index slow))
