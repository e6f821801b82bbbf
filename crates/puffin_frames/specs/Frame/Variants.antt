-- What a frame holds in each of the ways to hold one.
use Rattle.std.specs.Prelude.{◌≡◌, Bool, true, false, Option, Some, None, IfSome}
use Rattle.std.specs.Coded.{Unit-prop}
use Rattle.std.specs.Arc.{arc_value}
use Rattle.std.proofs.Props.{props}
use Rattle.puffin_frames.specs.declared.frame_data.held.PackedStreams.{PackedStreams}
use Rattle.puffin_frames.specs.declared.frame_data.held.Held.{Held}
use Rattle.puffin_frames.specs.declared.frame_data.held.Held.TheVariants.{Own, Shared, Packed, Both}
use Rattle.puffin_frames.specs.declared.frame_data.meta.FrameMeta.{FrameMeta}
use Rattle.puffin_frames.specs.Frame.Holding.{Packing, Holding}
use Rattle.puffin_frames.specs.Frame.Unpacked.{streams_held}

-- packed streams as contracts see them
abbrev pub packed_as : PackedStreams → Packing
packed_as packed = record { form = packed.form; kind = packed.kind; bytes = packed.bytes.items }

-- how a frame's streams are held, as contracts see it
abbrev pub held_as : Held → Holding
held_as (Own frame) = record { packed = None; unpacked = Some (streams_held frame) }
held_as (Shared frame) = record { packed = None; unpacked = Some (streams_held (arc_value frame)) }
held_as (Packed packed) = record { packed = Some (packed_as packed); unpacked = None }
held_as (Both both) = record {
  packed = Some (packed_as both.packed);
  unpacked = Some (streams_held (arc_value both.unpacked));
}

-- the meta of the unpacked data, if there is any
abbrev pub held_meta : Held → Option FrameMeta
held_meta (Own frame) = Some frame.meta
held_meta (Shared frame) = Some (arc_value frame).meta
held_meta (Packed packed) = None
held_meta (Both both) = Some (arc_value both.unpacked).meta

-- the unpacked data, if there is any, has this meta
abbrev pub HasMeta : Held → FrameMeta → Type 0
HasMeta held meta = IfSome (held_meta held) (λ own_meta. own_meta ≡ meta)

-- whether the streams are held unpacked, by this frame alone
abbrev pub is_own : Held → Bool
is_own (Own frame) = true
is_own _ = false

-- `HasMeta` has one proof at most, as a ghost field needs it
pub HasMeta-prop : (held : Held) (meta : FrameMeta) → IsProp (HasMeta held meta)
HasMeta-prop (Own frame) meta = Prim.hlevel props
HasMeta-prop (Shared frame) meta = Prim.hlevel props
HasMeta-prop (Packed packed) meta = Unit-prop
HasMeta-prop (Both both) meta = Prim.hlevel props
