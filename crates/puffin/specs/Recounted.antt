-- What all shares together know: the whole history, and that its frames and what is pending spell what each thread reported.
use Rattle.std.specs.Prelude.{◌≡◌, ◌≢◌, ℕ, List, [], ◌∷◌, ◌++◌, All, map, length, Contains}
use Rattle.puffin_data.specs.Forest.{Forest, empty, append}
use Rattle.puffin_data.specs.Honesty.{StreamFacts, AreHonestFacts}
use Rattle.puffin_threads.specs.Thread.ThreadKey.{ThreadKey}
use Rattle.puffin_frames.specs.Frame.Contents.{Streams, stream_under}
use Rattle.history.specs.Entries.{events, AreAllAuthors}
use Rattle.puffin.specs.Happenings.{Happening, History, Stands, AreSeen, frames_in, reports_under}

-- these streams, one after the other, spell the scopes of this forest, each stream in its own form
abbrev pub SpellInTurn : List StreamFacts → Forest → Type 0
SpellInTurn [] forest = forest ≡ empty
SpellInTurn (stream ∷ rest) forest =
    (first later : Forest) × AreHonestFacts stream first × SpellInTurn rest later × (forest ≡ append first later)

-- what frames have under a thread's start and name, one after the other
abbrev pub streams_under : ThreadKey → List Streams → List StreamFacts
streams_under key frames = map (λ streams. stream_under streams key) frames

-- the streams of frames and then the pending ones spell, under a thread's start and name, exactly the scopes of these reports, in
-- their order: none is lost, doubled or changed
abbrev pub SpellReports : ThreadKey → List Streams → Streams → List StreamFacts → Type 0
SpellReports key frames pending reports =
    ∥ ((forest : Forest)
    × SpellInTurn (streams_under key (frames ++ pending ∷ [])) forest
    × SpellInTurn reports forest) ∥₁

-- no share but the one with this account had a report under this start and name
abbrev pub ReportsAlone : ThreadKey → ℕ × List Happening → List (ℕ × List Happening) → Type 0
ReportsAlone key account accounts = All (λ other. other.0 ≢ account.0 → reports_under key other.1 ≡ []) accounts

-- no share but the one with this account was handed a frame
abbrev pub TakesAlone : ℕ × List Happening → List (ℕ × List Happening) → Type 0
TakesAlone account accounts = All (λ other. other.0 ≢ account.0 → frames_in other.1 ≡ []) accounts

-- The history of all shares, of which there are so many, and what is pending. The accounts are those of all shares: the number of
-- each, and what happened through it.
pub record Recounts (shares : ℕ) (accounts : List (ℕ × List Happening)) (log : History)
    (pending : Streams) : Type 0 where
  -- each share's account is what the history has under its number, and the history has no more
  pub all : AreAllAuthors shares accounts log
  -- each frame had just what was due: all reports since the frame before it; and all since the last are pending
  pub stands : ∥ Stands pending (events log) ∥₁
  -- what shares saw was so
  pub seen : AreSeen 0 0 (events log)
  -- the frames, and then what is pending, spell exactly what was reported, under each thread's start and name
  pub spelled : (key : ThreadKey) →
      SpellReports key (frames_in (events log)) pending (reports_under key (events log))
  -- and where one share alone reported under them, and one alone took frames, by what these two shares know
  pub threads : (key : ThreadKey) (account taker : ℕ × List Happening) →
      Contains accounts account → Contains accounts taker →
      ReportsAlone key account accounts → TakesAlone taker accounts →
      SpellReports key (frames_in taker.1) pending (reports_under key account.1)

-- nothing was reported, under no thread's start and name
abbrev pub ReportsNothing : List Happening → Type 0
ReportsNothing own = (key : ThreadKey) → length (reports_under key own) ≡ 0
