-- Which threads of a file a word names.
use Rattle.std.specs.Prelude.{◌≡◌, ◌⊎◌, ℕ, Bool, List, [], ◌∷◌, ◌++◌, ◌-◌, length, take, codes, map, filter, Option}
use Rattle.std.specs.FinMap as tree
use Rattle.std.specs.Str.{bytes_eq}
use Rattle.puffin_data.specs.declared.file_error.FileError.{FileError}
use Rattle.puffin_threads.specs.Thread.ThreadKey.{ThreadKey}
use Rattle.puffin_frames.specs.Packet.Stored.{Stored}
use Rattle.puffin_view.specs.View.File.{file_at, TookFrames}
use Rattle.puffin_look.specs.OpenFrame.{OpenFrame, AreOpened}
use Rattle.puffin_look.specs.Printed.{Begins, HasFaultBehind, RefusesNone, StopsBeforeFrames}
use Rattle.puffin_look.specs.declared.thread_names.Naming.{Naming}
use Rattle.puffin_look.specs.declared.thread_names.Naming.TheVariants.{Text, Name, Beginning}
use Rattle.puffin_look.specs.ThreadLines.{thread_text, totals_of}

-- whether a word names a thread: is the text by which it is listed, or its name alone, or a beginning of that and a `*`
abbrev pub is_named : Naming → List ℕ → ThreadKey → Bool
is_named Text word key = bytes_eq (thread_text key) word
is_named Name word key = bytes_eq key.name word
is_named Beginning word key = bytes_eq (take (length word - 1) key.name ++ codes "*") word

-- these, or the others if there are none
abbrev pub or_else : List ThreadKey → List ThreadKey → List ThreadKey
or_else [] others = others
or_else (key ∷ keys) others = key ∷ keys

-- the thread that is listed by this word, or else those with this name, or else those whose names begin so
abbrev pub threads_named : List ℕ → List ThreadKey → List ThreadKey
threads_named word keys =
    or_else (filter (is_named Text word) keys) (
    or_else (filter (is_named Name word) keys) (filter (is_named Beginning word) keys))

-- the threads of some frames, in their order
abbrev pub threads_in : List OpenFrame → List ThreadKey
threads_in frames = map (λ e. e.0) (tree.entries (totals_of frames))

-- These are the threads with a name in the frames of a file that are before its end or its first fault.
pub record AreNamed (word : List ℕ) (unread left : Option (List ℕ))
    (found : List ThreadKey) : Type 0 where
  pub stored : List Stored
  pub begins : Begins unread stored
  pub frames : List OpenFrame
  pub opens : AreOpened stored frames
  pub end : TookFrames file_at unread left stored
      ⊎ ((fault : FileError) × (HasFaultBehind RefusesNone unread left stored frames fault
      ⊎ StopsBeforeFrames unread left stored fault))
  pub are : found ≡ threads_named word (threads_in frames)
