-- What a share counts and what it knows of the history, and how a call adds to it.
use Rattle.std.specs.Prelude.{◌≡◌, ℕ, List, [], ◌∷◌, length, ◌++◌, Option, Some, None, unwrap_or, refl, sum_by}
use Rattle.std.specs.Coded.{Coded, code_by, coded×, coded_list, coded_ℕ}
use Rattle.std.specs.FinMap as map
use Rattle.std.specs.Arc.{arc_value}
use Rattle.std.specs.declared.sync.Arc.{Arc}
use mathlib.Core.List.{IsPrefix}
use Rattle.history.specs.Entries.{events, entries_by}
use Rattle.puffin_frames.specs.declared.frame_data.frame.FrameData.{FrameData}
use Rattle.puffin_frames.specs.Frame.Contents.{Streams, holding_of}
use Rattle.puffin.specs.Shares.{ShareCounts, no_counts}
use Rattle.puffin.specs.Happenings.{Happening, Mark, marked, happening_code, framed, History, ArePending}

-- a share: what it counts, its number, what happened through it, and the history up to the last of that
pub record Member : Type 0 where
  pub counts : ShareCounts
  pub number : ℕ
  pub own : List Happening
  pub seen : History

-- the encoding of a share for contracts: the tuple of its fields
abbrev pub member_code : Coded Member
member_code =
    code_by ((ℕ × ℕ) × (ℕ × (List Happening × History)))
    (coded× (coded× coded_ℕ coded_ℕ) (
    coded× coded_ℕ (
    coded× (coded_list happening_code) (coded_list (coded× coded_ℕ happening_code)))))
    (λ member. ((member.counts.reported, member.counts.handed), (member.number, (member.own, member.seen))))
    (λ parts. record {
      counts = record { reported = parts.0.0; handed = parts.0.1 };
      number = parts.1.0;
      own = parts.1.1.0;
      seen = parts.1.1.1;
    })
    (λ _. refl)

-- a share through which nothing happened yet
pub record IsNewMember (member : Member) : Type 0 where
  pub counts : member.counts ≡ no_counts
  pub own : length member.own ≡ 0
  pub seen : length member.seen ≡ 0

-- the number of scopes that were reported through these shares together
abbrev pub all_reported : List Member → ℕ
all_reported shares = sum_by (λ member. member.counts.reported) shares

-- the number of scopes in the frames that were handed out to these shares together
abbrev pub all_handed : List Member → ℕ
all_handed shares = sum_by (λ member. member.counts.handed) shares

-- its number, and what happened through it
abbrev pub account_of : Member → ℕ × List Happening
account_of member = (member.number, member.own)

-- Something happened through a share, after all that is in the history `before`. That begins with what the share had seen, and
-- has no more through this share than the share knows of. What it counts is told apart.
pub record Tells (old : Member) (happening : Happening) (before : History) (new : Member) : Type 0 where
  pub number : new.number ≡ old.number
  pub own : new.own ≡ old.own ++ happening ∷ []
  pub seen : new.seen ≡ before ++ (old.number, happening) ∷ []
  pub began : IsPrefix old.seen before
  pub known : old.own ≡ entries_by old.number before

-- the same of some history, which only the holder of the lock sees whole
abbrev pub Told : Member → Happening → Member → Type 0
Told old happening new = (before : History) × Tells old happening before new

-- a share that marks this, and counts nothing more
pub record Marks (old : Member) (mark : Mark) (new : Member) : Type 0 where
  pub counts : new.counts ≡ old.counts
  pub own : new.own ≡ old.own ++ marked mark ∷ []

-- the streams of a frame that isn't packed
abbrev pub unpacked_in : FrameData → Streams
unpacked_in frame = unwrap_or (holding_of frame).unpacked map.empty

-- If a frame is handed out to a share, it has just what the history before it leaves pending, and is not packed. Otherwise the
-- share doesn't change.
abbrev pub TakesFrame : {A : Type 0} → Member → Option (Arc FrameData A) → Member → Type 0
TakesFrame old None new = new ≡ old
TakesFrame old (Some frame) new = (before : History) × (due : Streams)
    × ∥ ArePending (events before) due ∥₁
    × (holding_of (arc_value frame) ≡ record { packed = None; unpacked = Some due })
    × Tells old (framed due) before new
