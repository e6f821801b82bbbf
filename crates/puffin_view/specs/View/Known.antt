-- What contracts see of a view: its frames and settings, and its collection of details.
use Rattle.std.specs.Prelude.{Bool}
use Rattle.std.specs.List.{list_any}
use Rattle.puffin_threads.specs.Details.{lacks_id}
use Rattle.puffin_frames.specs.Packet.Stored.{PacketFields}
use Rattle.puffin_threads.specs.Details.Collection.{Collection}
use Rattle.puffin_view.specs.View.{View}

-- a view's frames and settings, and what it knows of scopes
pub record KnownView : Type 0 where
  pub frames : View
  -- the details of all scopes that any frame listed
  pub scope_collection : Collection

abbrev pub view_of : KnownView → View
view_of view = view.frames

abbrev pub collection_of : KnownView → Collection
collection_of view = view.scope_collection

-- the view with other frames
abbrev pub with_frames : KnownView → View → KnownView
with_frames view frames = record view { frames = frames }

-- whether some of a frame's details have no id
abbrev pub lacks_ids : PacketFields → Bool
lacks_ids fields = list_any lacks_id fields.details
