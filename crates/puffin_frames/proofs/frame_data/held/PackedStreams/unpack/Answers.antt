-- Bytes that are decoded as entries in order are the streams of the map that has them.
use Rattle.std.proofs.Common.{◌≡◌, true, Some, Ok, sym, ap, ◌∙◌}
use Rattle.std.specs.Option.{option_map}
use Rattle.std.specs.FinMap.{from_sorted}
use Rattle.puffin_data.specs.Value.Decoding.{whole}
use Rattle.puffin_frames.specs.inner.Pairs.{pairs_of}
use Rattle.puffin_frames.specs.Frame.Holding.{or_bad}
use Rattle.puffin_frames.specs.Packet.Kinds.{is_uncompressed}
use Rattle.puffin_frames.specs.Packet.Structs.{streams_at}
use Rattle.puffin_frames.proofs.Listed.{streams-listed}
use Rattle.puffin_frames.proofs.frame_data.held.PackedStreams.unpack.Goals as goal

pub returns-in-Ok : goal.returns-in-Ok
returns-in-Ok c =
    let es = c.in-Ok.streams.entries in
    let bytes = c.args.self.now.bytes.items in
    let plain : is_uncompressed c.args.self.now.kind ≡ true =
    sym c.is_uncompressed.ensures ∙ c.if-not-is_uncompressed.false in
    let read : whole (streams_at c.args.self.now.form) bytes ≡ Some (pairs_of es) =
    rw c.deref.ensures.value at c.in-Ok.ensures.given in
    rw plain (ap or_bad (ap (option_map from_sorted) read) ∙ ap Ok (streams-listed es c.in-Ok.ensures.sorted))
