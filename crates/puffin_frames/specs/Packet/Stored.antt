-- What a packet stores of a frame (`PacketFields`), and legacy frames.
use Rattle.std.specs.Prelude.{ℕ, List}
use Rattle.puffin_data.specs.declared.data.form.Form.{Form}
use Rattle.puffin_frames.specs.declared.frame_data.kind.Kind.{Kind}
use Rattle.puffin_frames.specs.declared.frame_data.meta.FrameMeta.{FrameMeta}
use Rattle.puffin_threads.specs.Details.{Details}
use Rattle.puffin_frames.specs.Packet.Structs.{Legacy}

-- what a packet of a frame stores, however the frame is held: its meta, its packed streams with the form of their packet, and
-- its details
pub record PacketFields : Type 0 where
  pub meta : FrameMeta
  pub form : Form
  pub kind : Kind
  pub streams : List ℕ
  pub details : List Details

-- a frame whose streams are packed, or a legacy one
pub data Stored : Type 0 where
  packed : PacketFields → Stored
  legacy : Legacy → Stored
