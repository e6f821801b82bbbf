-- The frame that was added is the one that was read.
use Rattle.std.proofs.Common.{◌≡◌, ◌⊎◌, true, [], ◌∷◌, inl, inr, refl, ap, subst}
use Rattle.std.proofs.lemmas.Result.{err_from_is_err_and}
use Rattle.std.specs.Arc.{arc_value}
use Rattle.puffin_data.specs.declared.error.Error.{Error}
use Rattle.puffin_data.specs.declared.error.Error.TheVariants.{Memory}
use Rattle.puffin_data.specs.declared.file_error.FileError.TheVariants as file
use Rattle.puffin_data.specs.Cause.{file_error_of}
use Rattle.puffin_frames.specs.Frame.Contents.{packet_fields}
use Rattle.puffin_look.specs.OpenFrame.{OpenFrame, open_of}
use Rattle.puffin_look.specs.Wanted.{is_within, frames_within}
use Rattle.puffin_look.proofs.Listed.{opened_so}
use Rattle.puffin_look.proofs.listing.add_frame.Goals as goal

-- an error becomes `Memory`, or is told as it is
told : (cause : Error) → (file_error_of cause ≡ file.Memory) ⊎ (file_error_of cause ≡ file.Refused cause)
told Memory = inl refl
told cause = inr refl

pub returns-clause-ok : goal.returns-clause-ok
returns-clause-ok g c =
    let (more, pending, taken) = c.in_ok-add_wanted.ensures.ok in
    let same = ap open_of c.deref.ensures in
    record {
      frame = open_of (arc_value c.in_ok-unpacked.unpacked);
      opens = opened_so (packet_fields c.args.frame)
          (arc_value c.in_ok-unpacked.unpacked) c.in_ok-unpacked.ensures.unpacked c.in_ok-unpacked.ensures.meta;
      more = more;
      pending = pending;
      taken = subst (λ (f : OpenFrame). g.L.Listing.takes c.args.listing.now
          (frames_within c.args.indices (f ∷ [])) more c.add_wanted.new.listing) same taken;
    }

pub returns-in_err-add_wanted-clause-err : goal.returns-in_err-add_wanted-clause-err
returns-in_err-add_wanted-clause-err g c =
    let (returned, is_err, same_cause) = err_from_is_err_and c.from_residual-in_err-add_wanted.result
    c.from_residual-in_err-add_wanted.ensures.1 in
    let cause = c.in_err-add_wanted.field-0.0 in
    let same = ap open_of c.deref.ensures in
    rw (is_err, same_cause) (elim (c.in_err-add_wanted.ensures.err) [
      | inl memory ↦ inl (ap file_error_of memory)
      | inr refused ↦ elim (told cause) [
        | inl memory ↦ inl memory
        | inr is ↦
            let (there, refuses) = subst (λ (f : OpenFrame). (is_within c.args.indices f.meta.frame_index ≡ true)
            × g.L.Listing.refuses c.args.listing.now f cause) same refused in
            inr (inr (
              open_of (arc_value c.in_ok-unpacked.unpacked),
              cause,
              opened_so (packet_fields c.args.frame)
                  (arc_value c.in_ok-unpacked.unpacked) c.in_ok-unpacked.ensures.unpacked c.in_ok-unpacked.ensures.meta,
              is,
              there,
              refuses,
            ))
      ]
    ])
