-- A packet's streams are read like those of its copy, with the same refusals.
use Rattle.std.proofs.Common.{subst}
use Rattle.puffin_frames.specs.Frame.Contents.{packet_fields}
use Rattle.puffin_frames.specs.Packet.Stored.{PacketFields}
use Rattle.puffin_report.proofs.lemmas.BytesRead.{IsRead, bytes_read}
use Rattle.puffin_c.proofs.merge.open_copy.Goals as goal

pub returns-clause-ok : goal.returns-clause-ok
returns-clause-ok c =
    let read = bytes_read (packet_fields c.in_ok-copy.copy) c.unpacked.result c.unpacked.ensures.unpacked
    c.unpacked.ensures.meta in
    let (opens, fails) = subst (λ (f : PacketFields). IsRead f c.unpacked.result) c.in_ok-copy.ensures.fields read in
    opens

pub returns-clause-err : goal.returns-clause-err
returns-clause-err c =
    let read = bytes_read (packet_fields c.in_ok-copy.copy) c.unpacked.result c.unpacked.ensures.unpacked
    c.unpacked.ensures.meta in
    let (opens, fails) = subst (λ (f : PacketFields). IsRead f c.unpacked.result) c.in_ok-copy.ensures.fields read in
    fails
