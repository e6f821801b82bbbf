-- What a share of a profiler counts.
use Rattle.std.specs.Prelude.{◌≡◌, ℕ, ◌+◌, ◌<◌, Option, Some, None}
use Rattle.std.specs.FinMap as map
use Rattle.std.specs.Arc.{arc_value}
use Rattle.std.specs.declared.sync.Arc.{Arc}
use Rattle.std.specs.declared.sync.ledger.Blank.{Blank}
use Rattle.puffin_frames.specs.declared.frame_data.frame.FrameData.{FrameData}
use Rattle.puffin_frames.specs.Frame.Contents.{Streams, AreHonest, holding_of, frame_meta}
use Rattle.puffin_frames.specs.Frame.Sums.{total_scopes}

-- the number of scopes reported through the share, and of scopes in the frames handed out to it
pub record ShareCounts : Type 0 where
  pub reported : ℕ
  pub handed : ℕ

-- a share that counts nothing yet
abbrev pub no_counts : ShareCounts
no_counts = record { reported = 0; handed = 0 }

-- the counts after so many scopes more were reported
abbrev pub with_reported : ShareCounts → ℕ → ShareCounts
with_reported counts scopes = record counts { reported = counts.reported + scopes }

-- the counts after so many scopes more were handed out
abbrev pub with_handed : ShareCounts → ℕ → ShareCounts
with_handed counts scopes = record counts { handed = counts.handed + scopes }

-- a blank of the ledger with this name and this number of parts, which is also the number of shares
abbrev pub IsBlankFor : ℕ → ℕ → ℕ → Blank → Type 0
IsBlankFor name parts shares blank =
    (blank.name ≡ name) × (blank.parts ≡ parts) × (blank.parts ≡ shares)

-- if a frame is handed out to a share, the share counts its scopes; otherwise it doesn't change
abbrev pub CountsFrame : {A : Type 0} → ShareCounts → Option (Arc FrameData A) → ShareCounts →
    Type 0
CountsFrame old None new = new ≡ old
CountsFrame old (Some frame) new =
    new ≡ with_handed old (frame_meta (arc_value frame)).num_scopes

-- A frame that is handed out holds honest streams that aren't packed. The scope count in its meta is right, and at least 1.
abbrev pub SpellsItsScopes : {A : Type 0} → Option (Arc FrameData A) → Type 0
SpellsItsScopes None = Unit {0}
SpellsItsScopes (Some frame) = (streams : Streams)
    × (holding_of (arc_value frame) ≡ record { packed = None; unpacked = Some streams })
    × AreHonest streams
    × ((frame_meta (arc_value frame)).num_scopes ≡ total_scopes (map.values streams))
    × (0 < (frame_meta (arc_value frame)).num_scopes)
