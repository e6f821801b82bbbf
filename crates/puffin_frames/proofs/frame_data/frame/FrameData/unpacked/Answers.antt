-- What is handed out are the streams of the frame's packing, and only how they are held changes.
use Rattle.std.proofs.Common.{refl, ap, subst, ◌∙◌}
use Rattle.std.specs.Arc.{arc_value}
use Rattle.puffin_frames.specs.Frame.Contents.{streams_held, held_as, frame_details}
use Rattle.puffin_frames.proofs.Packings.{fields_same, unpacks_packing, unpacked_layout, unpacked_no_layout}
use Rattle.puffin_frames.proofs.Layouts.{frame_so}
use Rattle.puffin_frames.specs.Packet.Tries.{DecidedInMemory}
use Rattle.puffin_frames.specs.Frame.Holding.{packing_of}
use Rattle.puffin_frames.proofs.frame_data.frame.FrameData.unpacked.Goals as goal

pub returns-clause-unpacked : goal.returns-clause-unpacked
returns-clause-unpacked c =
    subst (DecidedInMemory (λ frame. streams_held (arc_value frame)) c.unpack-held.result.1)
    (unpacks_packing (held_as c.args.self.now.held) (frame_so c.args.self.now))
    (rw c.replace-held.ensures.value at c.unpack-held.ensures.unpacked)

pub returns-clause-layout : goal.returns-clause-layout
returns-clause-layout c =
    unpacked_layout (λ frame. streams_held (arc_value frame)) c.args.self.now.held c.unpack-held.result.1
    (rw c.replace-held.ensures.value at c.unpack-held.ensures.unpacked)

pub returns-clause-no_layout : goal.returns-clause-no_layout
returns-clause-no_layout c =
    unpacked_no_layout (λ frame. streams_held (arc_value frame)) c.args.self.now.held c.unpack-held.result.1
    (rw c.replace-held.ensures.value at c.unpack-held.ensures.unpacked)

pub returns-clause-fields : goal.returns-clause-fields
returns-clause-fields c =
    fields_same _ _ _ _ (frame_details c.args.self.now) refl
    (c.unpack-held.ensures.packing ∙ ap (λ held. packing_of (held_as held)) c.replace-held.ensures.value)
