-- What a thread reported through its share, what another was handed, and what the frames show of a thread.
use Rattle.std.specs.Prelude.{◌≡◌, ◌≢◌, ℕ, ℤ, List, [], ◌∷◌, ◌++◌, Option, map, string_bytes}
use Rattle.std.specs.FinMap as fm
use Rattle.std.specs.Arc.{arc_value}
use Rattle.std.specs.declared.sync.Arc.{Arc}
use Rattle.std.specs.declared.alloc.Global.{Global}
use Rattle.puffin_data.specs.declared.data.form.Form.TheVariants.{Short}
use Rattle.puffin_data.specs.Forest.{Span, Forest, empty, node}
use Rattle.puffin_data.specs.Honesty.{StreamFacts, AreHonestFacts}
use Rattle.puffin_data.specs.Text.{cut_text}
use Rattle.puffin_threads.specs.Thread.ThreadKey.{ThreadKey}
use Rattle.puffin_frames.specs.declared.frame_data.frame.FrameData.{FrameData}
use Rattle.puffin_frames.specs.Frame.Contents.{Streams}
use Rattle.puffin_frames.specs.Frame.Sums.{total_scopes}
use Rattle.puffin.specs.Happenings.{reported, frames_in, reports_under}
use Rattle.puffin.specs.Members.{Member, unpacked_in}
use Rattle.puffin.specs.Recounted.{SpellInTurn, streams_under}
use Rattle.example_threads.specs.declared.record.Job.{Job}
use Rattle.example_threads.specs.declared.record.Recorded.{Recorded}

-- the key of a job's thread, and the texts of its scopes
abbrev pub key_of_job : Option ℤ → Job → ThreadKey
key_of_job start job = record { start = start; name = string_bytes job.name }

abbrev pub texts_of : Job → List (List ℕ)
texts_of job = map string_bytes job.texts.items

-- the threads of two jobs have different names
abbrev pub AreApart : Job → Job → Type 0
AreApart u v = string_bytes u.name ≢ string_bytes v.name

-- a scope as this program opens it
abbrev pub span_of : List ℕ → ℤ → ℤ → Span
span_of text start stop = record { id = 7; start = start; stop = stop; text = cut_text Short text }

-- one such scope for each text, one after the other and none within another
abbrev pub AreScopes : List (List ℕ) → Forest → Type 0
AreScopes [] f = f ≡ empty
AreScopes (text ∷ texts) f = (start : ℤ) × (stop : ℤ) × (others : Forest)
    × (f ≡ node (span_of text start stop) empty others)
    × AreScopes texts others

-- one report for each text, of one such scope
abbrev pub AreReports : List (List ℕ) → List StreamFacts → Type 0
AreReports [] rs = rs ≡ []
AreReports (text ∷ texts) rs = (r : StreamFacts) × (others : List StreamFacts)
    × (start : ℤ) × (stop : ℤ)
    × (rs ≡ r ∷ others)
    × AreHonestFacts r (node (span_of text start stop) empty empty)
    × AreReports texts others

-- all that happened through a share: reports under one key
abbrev pub HasReported : ThreadKey → List (List ℕ) → Member → Type 0
HasReported i texts share = (reports : List StreamFacts)
    × (share.own ≡ map (reported i) reports)
    × AreReports texts reports

-- a job was done through a share that has its reports
abbrev pub HasDone : Job → Member → Type 0
HasDone job share = (start : Option ℤ) × HasReported (key_of_job start job) (texts_of job) share

-- the streams of frames that aren't packed
abbrev pub streams_in : List (Arc FrameData Global) → List Streams
streams_in frames = map (λ frame. unpacked_in (arc_value frame)) frames

-- all that happened through a share: it was handed these frames
pub record HasTaken (frames : List (Arc FrameData Global)) (share : Member) : Type 0 where
  pub frames_are : streams_in frames ≡ frames_in share.own
  pub no_reports : (i : ThreadKey) → reports_under i share.own ≡ []

-- the frames, and then the scopes that are pending, show just the scopes of a job under its thread's name, in order
abbrev pub Show : Recorded → Job → Type 0
Show recorded job =
    ∥ ((start : Option ℤ) × (pending : Streams) × (f : Forest)
    × (recorded.settled.pending ≡ total_scopes (fm.values pending))
    × SpellInTurn (streams_under (key_of_job start job)
    (streams_in recorded.frames.items ++ pending ∷ [])) f
    × AreScopes (texts_of job) f) ∥₁
