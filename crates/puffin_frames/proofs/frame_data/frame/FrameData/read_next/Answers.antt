use Rattle.std.proofs.Common.{Some, Ok, Err}
use Rattle.std.proofs.lemmas.Result.{err_from_is_err_and}
use Rattle.puffin_frames.specs.declared.frame_data.frame.FrameData.{FrameData}
use Rattle.puffin_frames.specs.Packet.Next.{stored_of}
use Rattle.puffin_frames.proofs.PacketsRead.{given_after_header}
use Rattle.puffin_frames.proofs.FramesTaken.{took_stored}
use Rattle.puffin_frames.proofs.frame_data.frame.FrameData.read_next.Goals as goal

-- The header and what follows it are read one after the other, so they are read together.

pub returns-in_err-frame-clause-next : goal.returns-in_err-frame-clause-next
returns-in_err-frame-clause-next g c =
    let failed = err_from_is_err_and c.from_residual-in_err-frame.result c.from_residual-in_err-frame.ensures.1 in
    let gives = rw c.in-Some.is at c.in_ok-header.ensures.header in
    rw (failed.1, failed.2) (given_after_header (λ (frame : FrameData). Some (stored_of frame))
    (Err c.in_err-frame.field-0.0) _ _ _ c.in-Some.header gives c.in_err-frame.ensures.part)

pub returns-clause-next : goal.returns-clause-next
returns-clause-next g c =
    let gives = rw c.in-Some.is at c.in_ok-header.ensures.header in
    given_after_header (λ (frame : FrameData). Some (stored_of frame))
    (Ok c.in_ok-frame.frame) _ _ _ c.in-Some.header gives c.in_ok-frame.ensures.part

pub returns-clause-took : goal.returns-clause-took
returns-clause-took g c =
    let gives = rw c.in-Some.is at c.in_ok-header.ensures.header in
    took_stored (λ (frame : FrameData). stored_of frame) c.in_ok-frame.frame _ _
    (given_after_header (λ (frame : FrameData). Some (stored_of frame))
    (Ok c.in_ok-frame.frame) _ _ _ c.in-Some.header gives c.in_ok-frame.ensures.part)
