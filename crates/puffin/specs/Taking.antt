-- How a program's leader counts the frames that it takes.
use Rattle.std.specs.Prelude.{ℕ, ◌⊎◌, ◌+◌, ◌-◌, ◌^◌, ◌<◌, ◌≡◌, List, [], ◌∷◌, ◌++◌, length, sum_by, All, Option, Some, None, min}
use Rattle.std.specs.Arc.{arc_value}
use Rattle.std.specs.FinMap as map
use Rattle.std.specs.declared.sync.Arc.{Arc}
use Rattle.puffin_frames.specs.declared.frame_data.frame.FrameData.{FrameData}
use Rattle.puffin_frames.specs.Frame.Contents.{Streams, AreHonest, holding_of}
use Rattle.puffin_frames.specs.Frame.Sums.{total_scopes}
use Rattle.puffin.specs.Happenings.{Happening, framed, frames_in}
use Rattle.puffin.specs.Members.{Member}
use Rattle.puffin.specs.Recounted.{ReportsNothing}

-- one more, but at most the largest `u64`
abbrev pub one_more : ℕ → ℕ
one_more number = min (number + 1) (2 ^ 64 - 1)

-- The numbers of frames and of missed frames, before and after: a frame counts if it was handed out, and also counts as missed
-- if a sink refused it.
abbrev pub CountsTaken : {A : Type 0} → Option (Arc FrameData A) → ℕ → ℕ × ℕ → ℕ × ℕ → Type 0
CountsTaken None refused old new = new ≡ old
CountsTaken (Some frame) refused old new =
    (new.0 ≡ one_more old.0)
    × (refused ≡ 0 → new.1 ≡ old.1)
    × (0 < refused → new.1 ≡ one_more old.1)

-- the streams of a frame that is handed out come behind those of the frames before it
abbrev pub IsTaken : {A : Type 0} → List Streams → Option (Arc FrameData A) → List Streams → Type 0
IsTaken old None new = new ≡ old
IsTaken old (Some frame) new = (streams : Streams)
    × (holding_of (arc_value frame) ≡ record { packed = None; unpacked = Some streams })
    × (new ≡ old ++ streams ∷ [])

-- nothing more happened than that a frame was handed out, if one was
abbrev pub FramesOnce : List Happening → List Happening → Type 0
FramesOnce old new = (new ≡ old) ⊎ ((streams : Streams) × (new ≡ old ++ framed streams ∷ []))

-- Any number of frames were taken. They come behind those before, and each has honest streams with a scope.
pub record TakesMore (old new : List Streams) : Type 0 where
  pub more : List Streams
  pub behind : new ≡ old ++ more
  pub honest : All (λ streams. AreHonest streams × (0 < total_scopes (map.values streams))) more

-- first any number of frames, and then this one
abbrev pub TakesLast : {A : Type 0} → List Streams → Option (Arc FrameData A) → List Streams → Type 0
TakesLast old frame new = (before : List Streams) × TakesMore old before × IsTaken before frame new

-- the number of scopes in all of these frames
abbrev pub num_scopes_in : List Streams → ℕ
num_scopes_in frames = sum_by (λ streams. total_scopes (map.values streams)) frames

-- A share through which so many frames were taken, and nothing was reported. It counts their scopes.
pub record TookAll (share : Member) (frames : ℕ) : Type 0 where
  pub quiet : ReportsNothing share.own
  pub as_many : length (frames_in share.own) < 2 ^ 64 → frames ≡ length (frames_in share.own)
  pub handed : share.counts.handed ≡ num_scopes_in (frames_in share.own)
