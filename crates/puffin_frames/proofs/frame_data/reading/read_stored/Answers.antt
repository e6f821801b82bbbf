-- The header says which of the two readings is the one of what follows it.
use Rattle.std.proofs.Common.{◌≡◌, Bool, cond, false, ℕ, Some, ap, sym, ◌∙◌}
use Rattle.byteorder.specs.Endian.{little_number}
use Rattle.puffin_data.proofs.lemmas.Devices.{same_reading}
use Rattle.puffin_frames.specs.declared.frame_data.frame.FrameData.{FrameData}
use Rattle.puffin_frames.specs.Packet.Stored.{packed, legacy}
use Rattle.puffin_frames.specs.Packet.Next.{stored_of}
use Rattle.std.specs.Prelude.{slice_index}
use Rattle.puffin_frames.specs.Packet.Letters.{is_packet}
use Rattle.puffin_frames.specs.Packet.Parts.{legacy_part_at}
use Rattle.puffin_frames.specs.Packet.Versions.{as_stored, version_at, stored_after}
use Rattle.puffin_frames.proofs.PacketsRead.{if_packed_so, if_legacy_so}
use Rattle.puffin_frames.proofs.frame_data.reading.read_stored.Goals as goal

pub returns-then-is_packet_header-clause-part : goal.returns-then-is_packet_header-clause-part
returns-then-is_packet_header-clause-part g c =
    let header = c.args.header in
    let letter = slice_index header 3 in
    same_reading (λ (frame : FrameData). Some (stored_of frame)) c.read_version.result _ _
    (λ bytes. as_stored packed (version_at letter bytes)) (stored_after header)
    (λ bytes. ap (λ (is : Bool). cond is (as_stored packed (version_at letter bytes))
    (as_stored legacy (legacy_part_at (little_number 4 header) bytes))) (sym c.if-is_packet_header.ensures))
    (if_packed_so c.read_version.result _ _ (version_at letter) c.read_version.ensures.packed c.read_version.ensures.part)

pub returns-else-is_packet_header-clause-part : goal.returns-else-is_packet_header-clause-part
returns-else-is_packet_header-clause-part g c =
    let header = c.args.header in
    let other : is_packet header ≡ false = sym c.is_packet_header.ensures ∙ c.if-is_packet_header.false in
    same_reading (λ (frame : FrameData). Some (stored_of frame)) c.read_legacy_part.result _ _
    (λ bytes. as_stored legacy (legacy_part_at c.read_u32-len.result bytes)) (stored_after header)
    (λ bytes. ap (λ (is : Bool). cond is (as_stored packed (version_at (slice_index header 3) bytes))
    (as_stored legacy (legacy_part_at (little_number 4 header) bytes))) other
    ∙ ap (λ (size : ℕ). as_stored legacy (legacy_part_at size bytes)) (sym c.read_u32-len.ensures))
    (if_legacy_so c.read_legacy_part.result _ _
    (legacy_part_at c.read_u32-len.result) c.read_legacy_part.ensures.unpacked c.read_legacy_part.ensures.part)
