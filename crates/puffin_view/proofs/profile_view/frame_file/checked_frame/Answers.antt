-- What is read is checked for ids; a frame that lacks some is the fault.
use Rattle.std.proofs.Common.{ap, sym, ◌∙◌}
use Rattle.puffin_threads.specs.Details.{shared_details}
use Rattle.puffin_frames.specs.Frame.Contents.{frame_details}
use Rattle.puffin_view.specs.View.ViewedFrames.{Frame, fields_of}
use Rattle.puffin_view.specs.View.Known.{lacks_ids}
use Rattle.puffin_view.proofs.lemmas.FilesRead.{checked, refused}
use Rattle.puffin_view.proofs.lemmas.FrameStreams.{fresh_frame}
use Rattle.puffin_view.proofs.FileFrames.{tested}
use Rattle.puffin_view.proofs.profile_view.frame_file.checked_frame.Goals as goal

pub returns-then-any_lacks_id-clause-next : goal.returns-then-any_lacks_id-clause-next
returns-then-any_lacks_id-clause-next g c =
    let frame = c.in-Some.frame in
    let next = rw c.in-Some.is at c.in_ok-frame.ensures.next in
    let fresh = rw c.in-Some.is at c.in_ok-frame.ensures.fresh in
    let lacks = tested _ c.deref.result.now (frame_details frame) c.any_lacks_id.ensures
    (ap shared_details c.deref.ensures.value) ∙ c.if-any_lacks_id.true in
    refused _ _ frame next (ap (λ (f : Frame). lacks_ids (fields_of f)) (sym (fresh_frame frame fresh)) ∙ lacks)

pub returns-clause-next : goal.returns-clause-next
returns-clause-next g c =
    let frame = c.in-Some.frame in
    let next = rw c.in-Some.is at c.in_ok-frame.ensures.next in
    let fresh = rw c.in-Some.is at c.in_ok-frame.ensures.fresh in
    let ids = tested _ c.deref.result.now (frame_details frame) c.any_lacks_id.ensures
    (ap shared_details c.deref.ensures.value) ∙ c.if-any_lacks_id.false in
    checked _ _ frame next (ap (λ (f : Frame). lacks_ids (fields_of f)) (sym (fresh_frame frame fresh)) ∙ ids)

pub returns-clause-ids : goal.returns-clause-ids
returns-clause-ids g c =
    tested _ c.deref.result.now (frame_details c.in-Some.frame) c.any_lacks_id.ensures
    (ap shared_details c.deref.ensures.value) ∙ c.if-any_lacks_id.false
