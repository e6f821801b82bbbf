-- What merging reads of a frame that is unpacked, or why it isn't.
use Rattle.std.proofs.Common.{◌≡◌, ◌⊎◌, inl, inr, Result, Ok, Err, ap, sym, ◌∙◌}
use Rattle.std.specs.Prelude.{IfOk, IfErr, option_map}
use Rattle.std.specs.Arc.{arc_value}
use Rattle.std.specs.FinMap as tree
use Rattle.std.specs.declared.sync.Arc.{Arc}
use Rattle.std.specs.declared.alloc.Global.{Global}
use Rattle.puffin_data.specs.declared.file_error.FileError.{FileError}
use Rattle.puffin_data.specs.declared.file_error.FileError.TheVariants as file
use Rattle.puffin_threads.specs.Thread.ThreadKey.{ThreadKey}
use Rattle.puffin_frames.specs.declared.frame_data.meta.FrameMeta.{FrameMeta}
use Rattle.puffin_frames.specs.declared.frame_data.unpacked.UnpackedFrameData.{UnpackedFrameData}
use Rattle.puffin_frames.specs.Frame.Contents.{streams_held, streams_in_fields}
use Rattle.puffin_frames.specs.Packet.Stored.{PacketFields}
use Rattle.puffin_frames.specs.Packet.Tries.{DecidedInMemory}
use Rattle.puffin_view.proofs.lemmas.FrameStreams.{not_decided}
use Rattle.puffin_merge.specs.Merge.Scopes.{stream_in, frame_bytes}
use Rattle.puffin_report.specs.Summary.{bytes_under, bytes_in}

-- a call unpacks a frame with these contents, or fails as its contents do
abbrev pub IsRead : PacketFields → Result (Arc UnpackedFrameData Global) FileError → Type 0
IsRead c r =
    IfOk r (λ frame. (info : ThreadKey) → bytes_in info c ≡ Ok (frame_bytes info (arc_value frame)))
    × IfErr r (λ e. (e ≡ file.Memory) ⊎ ((info : ThreadKey) → bytes_in info c ≡ Err e))

pub bytes_read : (c : PacketFields) (r : Result (Arc UnpackedFrameData Global) FileError)
    → DecidedInMemory (λ frame. streams_held (arc_value frame)) r (streams_in_fields c)
    → IfOk r (λ frame. (arc_value frame).meta ≡ c.meta) → IsRead c r
bytes_read c (Ok frame) is meta = (
  λ info. ap (bytes_under info c) is
      ∙ ap
      (λ (m : FrameMeta). Ok
      (record { start = m.range_ns.0; stream = option_map stream_in (tree.get (streams_held (arc_value frame)) info) }))
      (sym meta),
  tt,
)
bytes_read c (Err e) fault meta = (
  tt,
  elim (not_decided (λ (frame : Arc UnpackedFrameData Global). streams_held (arc_value frame)) e (streams_in_fields c) fault) [
    | inl memory ↦ inl memory
    | inr is ↦ inr (λ info. ap (bytes_under info c) is)
  ],
)
