-- A frame of a file with its streams read as forests of scopes, and why a frame can't be read so.
use Rattle.std.specs.Prelude.{◌≡◌, List, [], ◌∷◌, ◌++◌}
use Rattle.std.specs.FinMap as map
use Rattle.puffin_data.specs.declared.error.Error.{Error}
use Rattle.puffin_data.specs.Forest.{Forest}
use Rattle.puffin_data.specs.Forest.Spelling.{Spells}
use Rattle.puffin_data.specs.Honesty.{StreamFacts}
use Rattle.puffin_data.specs.Walk.{IsFault}
use Rattle.puffin_threads.specs.Thread.ThreadKey.{ThreadKey}
use Rattle.puffin_frames.specs.declared.frame_data.meta.FrameMeta.{FrameMeta}
use Rattle.puffin_look.specs.OpenFrame.{OpenFrame}

-- a thread's stream, and its scopes
abbrev pub Entry : Type 0
Entry = ThreadKey × StreamFacts

abbrev pub Tree : Type 0
Tree = ThreadKey × Forest

-- the streams of these threads, in order, spell these forests
abbrev pub AreSpelled : List Entry → List Tree → Type 0
AreSpelled [] [] = Unit {0}
AreSpelled [] (tree ∷ trees) = ⊥
AreSpelled (entry ∷ entries) [] = ⊥
AreSpelled (entry ∷ entries) (tree ∷ trees) =
    ((tree.0 ≡ entry.0) × Spells entry.1.form entry.1.bytes tree.1) × AreSpelled entries trees

-- a frame's totals, and its scopes by thread
pub record TreeFrame : Type 0 where
  pub meta : FrameMeta
  pub trees : List Tree

-- the streams of a frame that are read
abbrev pub Pick : Type 0
Pick = OpenFrame → List Entry

abbrev pub all_streams : Pick
all_streams frame = map.entries frame.streams

pub record IsRead (pick : Pick) (frame : OpenFrame) (tree : TreeFrame) : Type 0 where
  pub meta : tree.meta ≡ frame.meta
  pub trees : AreSpelled (pick frame) tree.trees

-- frames, each with its scopes
abbrev pub AreRead : Pick → List OpenFrame → List TreeFrame → Type 0
AreRead pick [] [] = Unit {0}
AreRead pick [] (tree ∷ trees) = ⊥
AreRead pick (frame ∷ frames) [] = ⊥
AreRead pick (frame ∷ frames) (tree ∷ trees) = IsRead pick frame tree × AreRead pick frames trees

-- The streams of the first threads spell forests, and that of the next thread has this fault.
pub record AreUnread (entries : List Entry) (fault : Error) : Type 0 where
  pub earlier : List Entry
  pub entry : Entry
  pub later : List Entry
  pub all : entries ≡ earlier ++ (entry ∷ later)
  pub trees : List Tree
  pub spelled : AreSpelled earlier trees
  pub faulty : IsFault entry.1.form entry.1.bytes fault

-- What items give, one after the other. Each is seen in a state that those before it leave.
abbrev pub outputs : {S X Y : Type 0} → (S → X → List Y) → (S → X → S) → S → List X → List Y
outputs out next state [] = []
outputs out next state (item ∷ items) = out state item ++ outputs out next (next state item) items
