-- The invariant of a view's lists.
use Rattle.std.specs.Prelude.{ℕ, ◌<◌, ◌≤◌, List, [], ◌∷◌, Option, Some, None, ◌≢◌}
use Rattle.std.specs.List.{AllByRecursion}
use Rattle.puffin_view.specs.View.{View}
use Rattle.puffin_view.specs.View.ViewedFrames.{Frame, index_of}

-- an index is at most the last one taken
abbrev pub IsUpTo : Option ℕ → ℕ → Type 0
IsUpTo None index = ⊥
IsUpTo (Some last) index = index ≤ last

-- the index of each slow frame is at most the last one taken
abbrev pub IsSteady : View → Type 0
IsSteady view = AllByRecursion (λ frame. IsUpTo view.last (index_of frame)) view.slow

-- indices strictly increase
abbrev pub AreRising : List Frame → Type 0
AreRising [] = Unit {0}
AreRising (frame ∷ later) =
    AllByRecursion (λ next. index_of frame < index_of next) later × AreRising later

-- no two frames have the same index
abbrev pub HaveOwnIndices : List Frame → Type 0
HaveOwnIndices [] = Unit {0}
HaveOwnIndices (frame ∷ others) =
    AllByRecursion (λ other. index_of other ≢ index_of frame) others × HaveOwnIndices others

-- What holds of the two lists of a view and the index of the last frame that it took: no index is above that, the indices of
-- the recent frames strictly increase, and no two slow frames have the same index.
pub record AreViewLists (recent slow : List Frame) (last : Option ℕ) : Type 0 where
  pub recent_taken : AllByRecursion (λ frame. IsUpTo last (index_of frame)) recent
  pub slow_taken : AllByRecursion (λ frame. IsUpTo last (index_of frame)) slow
  pub rising : AreRising recent
  pub apart : HaveOwnIndices slow
