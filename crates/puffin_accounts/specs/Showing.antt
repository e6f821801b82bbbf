-- What a frame shows of one thread's scopes, and what it lists.
use Rattle.std.specs.Prelude.{◌≡◌, ℕ, ◌<◌, List, [], ◌∷◌, Some, None}
use Rattle.std.specs.FinMap as map
use Rattle.puffin_data.specs.Forest.{Forest}
use Rattle.puffin_data.specs.Forest.Measures.{scope_count}
use Rattle.puffin_data.specs.Honesty.{StreamFacts, AreHonestFacts}
use Rattle.puffin_threads.specs.Thread.ThreadKey.{ThreadKey}
use Rattle.puffin_threads.specs.Details.{Details}
use Rattle.puffin_frames.specs.declared.frame_data.frame.FrameData.{FrameData}
use Rattle.puffin_frames.specs.Frame.Contents.{holding_of, frame_meta}
use Rattle.puffin_frames.specs.Frame.Sums.{meta_of}
use Rattle.puffin_collector.specs.Collector.State.{delta_of}
use Rattle.puffin_accounts.specs.Moments.{Moment}

-- A frame's only stream stands under this info, and spells this forest. Its meta has this index and the stream's measures.
pub record ShowsForest (frame : FrameData) (index : ℕ) (key : ThreadKey) (forest : Forest) :
    Type 0 where
  pub stream : StreamFacts
  pub held : holding_of frame
      ≡ record { packed = None; unpacked = Some (map.insert map.empty key stream) }
  pub honest : AreHonestFacts stream forest
  pub meta : frame_meta frame ≡ meta_of index (stream ∷ [])
  pub counted : (frame_meta frame).num_scopes ≡ scope_count forest
  pub some : 0 < scope_count forest

-- the details that the next frame lists
abbrev pub listed_next : {C : Type 0} → Moment C → List Details
listed_next moment = delta_of moment.collected.collection moment.collected.new_details moment.collected.wants_all
