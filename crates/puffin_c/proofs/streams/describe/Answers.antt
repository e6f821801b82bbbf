-- The description and the streams are those of the unpacked frame, which has the packet's contents.
use Rattle.std.proofs.Common.{ℕ, length, refl, ap, ◌∙◌}
use Rattle.std.specs.Arc.{arc_value}
use Rattle.std.specs.FinMap as map
use Rattle.puffin_frames.specs.declared.frame_data.unpacked.UnpackedFrameData.{UnpackedFrameData}
use Rattle.puffin_frames.specs.Frame.Contents.{streams_held}
use Rattle.puffin_frames.specs.Packet.Stored.{PacketFields}
use Rattle.puffin_c.specs.Lists.{stream_rows, streams_bytes}
use Rattle.puffin_c.specs.Profiling.{told_of}
use Rattle.puffin_c.specs.Reporting.{laid_over}
use Rattle.puffin_c.proofs.streams.describe.Goals as goal

pub returns-clause-ok : goal.returns-clause-ok
returns-clause-ok c =
    let rows = c.in_ok-made.ensures.rows ∙ ap (λ (f : UnpackedFrameData). stream_rows 0 (map.entries (streams_held f))) c.deref.ensures in
    let bytes = c.in_ok-made.ensures.bytes
    ∙ ap (λ (f : UnpackedFrameData). streams_bytes (map.entries (streams_held f))) c.deref.ensures in (
      streams_held (arc_value c.in_ok-data.data),
      c.in_ok-data.ensures.unpacked,
      c.of-list.ensures ∙ ap told_of (c.meta.ensures ∙ ap (λ (f : PacketFields). f.meta) c.unpacked.ensures.fields),
      record {
        given_rows = c.give.ensures.rows ∙ ap (laid_over c.args.list.now.rows.now) (c.deref-2.ensures.value ∙ rows);
        given_bytes = c.give.ensures.bytes ∙ ap (laid_over c.args.list.now.bytes.now) (c.deref-3.ensures.value ∙ bytes);
        same_rows = refl;
        same_bytes = refl;
        number = ap (λ (p : ℕ × ℕ). p.0) c.give.ensures.numbers ∙ ap length (c.deref-2.ensures.value ∙ rows);
        size = ap (λ (p : ℕ × ℕ). p.1) c.give.ensures.numbers ∙ ap length (c.deref-3.ensures.value ∙ bytes);
      },
    )
