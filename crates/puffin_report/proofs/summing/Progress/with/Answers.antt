-- A frame that is unpacked is merged with those before, and the fault of one that isn't becomes the progress.
use Rattle.std.proofs.Common.{[], ◌∷◌, ◌++◌, Ok, Err, ap, sym, subst, ◌∙◌}
use Rattle.puffin_frames.specs.declared.frame_data.unpacked.UnpackedFrameData.{UnpackedFrameData}
use Rattle.puffin_frames.specs.Frame.Contents.{packet_fields}
use Rattle.puffin_merge.specs.Merge.Scopes.{frame_bytes}
use Rattle.puffin_report.specs.inner.Summing.{IsProgress}
use Rattle.puffin_report.proofs.lemmas.BytesRead.{bytes_read}
use Rattle.puffin_report.proofs.Stepping.{fault_stays, fault_comes, if_ok_so, not_memory}
use Rattle.puffin_report.proofs.summing.Progress.with.Goals as goal

pub returns-in-NotUnpacked-clause-ok : goal.returns-in-NotUnpacked-clause-ok
returns-in-NotUnpacked-clause-ok c = λ info kept h.
    fault_stays info kept (packet_fields c.args.frame.now) c.in-NotUnpacked.fault (subst (IsProgress info kept) c.in-NotUnpacked.is h)

pub returns-in-Ok-clause-ok : goal.returns-in-Ok-clause-ok
returns-in-Ok-clause-ok c =
    let read = (bytes_read (packet_fields c.args.frame.now) (Ok c.in-Ok.unpacked) c.in-Ok.ensures.unpacked c.in-Ok.ensures.meta).0 in
    if_ok_so c.with_unpacked.result
    (λ progress goes_on info kept h. goes_on info kept (packet_fields c.args.frame.now) h
    (read info ∙ ap (λ (f : UnpackedFrameData). Ok (frame_bytes info f)) (sym c.deref.ensures)))
    c.with_unpacked.ensures.ok

pub returns-clause-ok : goal.returns-clause-ok
returns-clause-ok c =
    let fault = (bytes_read (packet_fields c.args.frame.now) (Err c.in-Err.fault) c.in-Err.ensures.unpacked tt).1 in
    if_ok_so c.not_unpacked.result
    (λ progress said info kept h. subst (IsProgress info (kept ++ packet_fields c.args.frame.now ∷ [])) (sym said.0)
    (fault_comes info kept c.args.self (packet_fields c.args.frame.now) c.in-Err.fault c.in_default.not-NotUnpacked h
    (not_memory c.in-Err.fault said.1 fault info)))
    c.not_unpacked.ensures.ok
