-- The letter's version is the one whose packets are read.
use Rattle.std.proofs.Common.{Option, ap, sym, ◌∙◌}
use Rattle.puffin_data.proofs.lemmas.Devices.{same_reading}
use Rattle.puffin_frames.specs.declared.frame_data.version.Version.{Version}
use Rattle.puffin_frames.specs.Frame.Contents.{packet_fields}
use Rattle.puffin_frames.specs.Packet.Versions.{packet_at, packet_if_read, version_at}
use Rattle.puffin_frames.proofs.frame_data.reading.read_version.Goals as goal

pub returns-in-Some-clause-part : goal.returns-in-Some-clause-part
returns-in-Some-clause-part g c =
    same_reading packet_fields c.read_packed.result _ _ (packet_at c.in-Some.version) (version_at c.args.letter)
    (λ bytes. ap (λ (o : Option Version). packet_if_read c.args.letter o bytes)
    (sym c.from_letter.ensures ∙ c.in-Some.is)) c.read_packed.ensures.part
