-- What merging reads of a frame: one thread's stream, and the start of the frame's range.
use Rattle.std.specs.Prelude.{◌≡◌, ℕ, ◌<◌, ◌^◌, ℤ, pos, List, [], ◌∷◌, length, sum_by, Option, None, Some, unwrap_or}
use Rattle.puffin_data.specs.declared.data.form.Form.{Form}
use Rattle.puffin_data.specs.declared.data.form.Form.TheVariants.{Short}
use Rattle.puffin_data.specs.Forest.Spelling.{Spells}
use Rattle.puffin_data.specs.Walk.{most_tries_in}
use Rattle.puffin_merge.specs.Merge.Occurrences.{FrameScopes}

-- a stream: its form and its bytes
pub record StreamBytes : Type 0 where
  pub form : Form
  pub bytes : List ℕ

-- the start of a frame's range, and the thread's stream, if the frame has one
pub record FrameBytes : Type 0 where
  pub start : ℤ
  pub stream : Option StreamBytes

-- no bytes, in place of a missing stream
abbrev pub no_stream : StreamBytes
no_stream = record { form = Short; bytes = [] }

-- the frame's stream, or no bytes if it has none
abbrev pub stream_of : FrameBytes → StreamBytes
stream_of frame = unwrap_or frame.stream no_stream

abbrev pub form_of : FrameBytes → Form
form_of frame = (stream_of frame).form

abbrev pub bytes_of : FrameBytes → List ℕ
bytes_of frame = (stream_of frame).bytes

-- the start of the first frame's range; 0 if there are no frames
abbrev pub start_of : List FrameBytes → ℤ
start_of [] = pos 0
start_of (frame ∷ frames) = frame.start

-- the frame's bytes spell the forest in their form, and fit a slice
pub record HasScopes (frame : FrameBytes) (scopes : FrameScopes) : Type 0 where
  pub start : scopes.start ≡ frame.start
  pub spells : Spells (form_of frame) (bytes_of frame) scopes.forest
  pub short : length (bytes_of frame) < 2 ^ 63

-- each frame has the scopes at its place in the other list
abbrev pub HaveScopes : List FrameBytes → List FrameScopes → Type 0
HaveScopes [] [] = Unit {0}
HaveScopes [] (scopes ∷ more) = ⊥
HaveScopes (frame ∷ frames) [] = ⊥
HaveScopes (frame ∷ frames) (scopes ∷ more) = HasScopes frame scopes × HaveScopes frames more

-- the most tries of a walk over a frame's stream
abbrev pub most_tries_of : FrameBytes → ℕ
most_tries_of frame = elim (frame.stream) as (λ _. ℕ) [
  | None ↦ 0
  | Some stream ↦ most_tries_in stream.bytes
]

-- the most tries of the walks over all frames
abbrev pub most_tries : List FrameBytes → ℕ
most_tries frames = sum_by most_tries_of frames
