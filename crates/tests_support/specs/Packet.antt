-- The thread and the stream of the packet that the test crates share, and which scopes a frame lists.
use Rattle.std.specs.Prelude.{ℕ, List, [], ◌∷◌, map, pos, Option, Some, None, codes}
use Rattle.std.specs.FinMap.{from_entries}
use Rattle.puffin_data.specs.declared.data.form.Form.{Form}
use Rattle.puffin_data.specs.declared.data.form.Form.TheVariants.{Short}
use Rattle.puffin_data.specs.Honesty.{StreamFacts}
use Rattle.puffin_threads.specs.Details.{name_of}
use Rattle.puffin_threads.specs.Thread.ThreadKey.{ThreadKey}
use Rattle.puffin_frames.specs.declared.frame_data.frame.FrameData.{FrameData}
use Rattle.puffin_frames.specs.Frame.Contents.{Streams, frame_details}
use Rattle.puffin_frames.specs.Frame.Holding.{Holding}
use Rattle.tests_support.specs.declared.samples.TheConstants.{ONE_SCOPE}

-- `main`, whose first scope began at 100
abbrev pub packet_key : ThreadKey
packet_key = record { start = Some (pos 100); name = codes "main" }

-- one scope, from 100 to 300
abbrev pub packet_facts : Form → StreamFacts
packet_facts form = record {
  form = form;
  bytes = ONE_SCOPE;
  num_scopes = 1;
  depth = 1;
  range_ns = (pos 100, pos 300);
}

abbrev pub packet_streams : Streams
packet_streams = from_entries ((packet_key, packet_facts Short) ∷ [])

-- these streams, held unpacked
abbrev pub packet_holding : Holding
packet_holding = record { packed = None; unpacked = Some packet_streams }

-- the id and the name of each scope that a frame lists
abbrev pub scopes_listed : FrameData → List (Option ℕ × List ℕ)
scopes_listed frame = map (λ d. (d.id, name_of d)) (frame_details frame)
