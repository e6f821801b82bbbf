-- Which frames of a file are shown, and which of their threads.
use Rattle.std.specs.Prelude.{◌≡◌, ℕ, Bool, true, nat_le, ◌&&◌, List, filter, Option, Some, None}
use Rattle.std.specs.List.{list_any}
use Rattle.std.specs.declared.vec.Vec.{Vec}
use Rattle.std.specs.declared.alloc.Global.{Global}
use Rattle.puffin_data.specs.declared.error.Error.{Error}
use Rattle.puffin_threads.specs.declared.thread_profiler.thread_info.ThreadInfo.{ThreadInfo}
use Rattle.puffin_threads.specs.Thread.ThreadKey.{ThreadKey, key_of, has_same_key}
use Rattle.puffin_look.specs.OpenFrame.{OpenFrame}
use Rattle.puffin_look.specs.Trees.{Pick, TreeFrame, all_streams, AreRead, AreUnread}
use Rattle.puffin_look.specs.declared.wanted.Indices.{Indices}
use Rattle.puffin_look.specs.declared.wanted.Wanted.{Wanted}

-- ---- frames

abbrev pub is_within : Option Indices → ℕ → Bool
is_within None index = true
is_within (Some indices) index = nat_le indices.first index && nat_le index indices.last

-- the frames with these indices
abbrev pub frames_within : Option Indices → List OpenFrame → List OpenFrame
frames_within None frames = frames
frames_within (Some indices) frames =
    filter (λ f. is_within (Some indices) f.meta.frame_index) frames

-- ---- threads

abbrev pub is_one_of : List ThreadInfo → ThreadKey → Bool
is_one_of threads key = list_any (λ t. has_same_key (key_of t) key) threads

-- whether a thread is one of these, or of all
abbrev pub is_among : Option (Vec ThreadInfo Global) → ThreadKey → Bool
is_among None key = true
is_among (Some threads) key = is_one_of threads.items key

abbrev pub is_wanted : Wanted → ThreadKey → Bool
is_wanted wanted key = is_among wanted.threads key

-- the streams of the wanted threads
abbrev pub wanted_streams : Wanted → Pick
wanted_streams wanted frame = filter (λ e. is_wanted wanted e.0) (all_streams frame)

-- ---- both

-- the wanted frames, each with the scopes of the wanted threads
abbrev pub AreTaken : Wanted → List OpenFrame → List TreeFrame → Type 0
AreTaken wanted frames trees =
    AreRead (wanted_streams wanted) (frames_within wanted.frames frames) trees

-- a frame with one of these indices is refused with the fault of its first stream that isn't a forest
abbrev pub RefusesUnread : Option Indices → Pick → List OpenFrame → OpenFrame → Error → Type 0
RefusesUnread indices pick frames frame fault =
    (is_within indices frame.meta.frame_index ≡ true) × AreUnread (pick frame) fault

abbrev pub RefusesTaken : Wanted → List OpenFrame → OpenFrame → Error → Type 0
RefusesTaken wanted = RefusesUnread wanted.frames (wanted_streams wanted)
