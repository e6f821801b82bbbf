-- Lists of ranks, and adding one.
use Rattle.std.specs.Prelude.{ℕ, Bool, cond, nat_lt, ◌||◌, List, [], take, drop, length, Some, None, ◌≡◌, false}
use Rattle.std.specs.List.{AllByRecursion}
use Rattle.std.specs.Option.{option_map, option_map_or}
use Rattle.std.specs.Ordering.{is_lt}
use Rattle.std.specs.FinMap as map
use Rattle.puffin_view.specs.declared.profile_view.slow_rank.SlowRank.{SlowRank}
use Rattle.puffin_view.specs.View.Ranking.{place, last_in, rank_index, has_number}
use Rattle.puffin_view.specs.View.FrameRanks.{rank_of, rank_cmp}
use Rattle.puffin_view.specs.inner.Held.{HeldFrames}

-- whether a rank comes before another
abbrev pub is_before : SlowRank → SlowRank → Bool
is_before rank other = is_lt (rank_cmp rank other)

-- whether a rank belongs among the `limit` slowest, which it does if there is room, or if it comes before the last of them
abbrev pub rank_enters : ℕ → List SlowRank → SlowRank → Bool
rank_enters limit slow rank =
    nat_lt (length slow) limit
    || option_map_or (λ last. is_before rank last) (last_in slow) false

-- the `limit` slowest ranks after one more
abbrev pub ranks_after : ℕ → List SlowRank → SlowRank → List SlowRank
ranks_after limit slow rank =
    cond (rank_enters limit slow rank) (take limit (place is_before rank slow)) slow

-- the ranks that it pushes out
abbrev pub ranks_gone : ℕ → List SlowRank → SlowRank → List SlowRank
ranks_gone limit slow rank =
    cond (rank_enters limit slow rank) (drop limit (place is_before rank slow)) []

-- each rank is that of the frame held under its index
abbrev pub AreRanked : HeldFrames → List SlowRank → Type 0
AreRanked held slow =
    AllByRecursion (λ rank. option_map rank_of (map.get held (rank_index rank)) ≡ Some rank) slow

-- What was held is still held, except under the indices in `gone` that aren't in `stays`.
abbrev pub LetsGo : HeldFrames → List ℕ → List ℕ → HeldFrames → Type 0
LetsGo old stays gone new =
    (index : ℕ) → map.get new index
    ≡ cond (has_number index stays) (map.get old index) (
    cond (has_number index gone) None (map.get old index))
