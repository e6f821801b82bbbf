-- Packing changes how the streams are held, and nothing else of the frame.
use Rattle.std.proofs.Common.{refl, sym, ap, ◌∙◌}
use Rattle.std.proofs.lemmas.Result.{on_err_weaker}
use Rattle.puffin_frames.specs.Frame.Holding.{packing_of}
use Rattle.puffin_frames.specs.Frame.Contents.{held_as, frame_details}
use Rattle.puffin_frames.proofs.Packings.{fields_same, with_held}
use Rattle.puffin_frames.proofs.frame_data.frame.FrameData.pack.Goals as goal

pub returns-clause-err : goal.returns-clause-err
returns-clause-err c =
    on_err_weaker c.pack-held.result.1 (λ same. with_held c.args.self.now c.pack-held.result.0 _ _ _
    (sym (same ∙ c.replace-held.ensures.value))) c.pack-held.ensures.err

pub returns-clause-fields : goal.returns-clause-fields
returns-clause-fields c =
    fields_same _ _ _ _ (frame_details c.args.self.now) refl
    (c.pack-held.ensures.packing ∙ ap (λ held. packing_of (held_as held)) c.replace-held.ensures.value)
