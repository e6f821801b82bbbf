-- The drain holds the file of the frames so far, and each frame appends its packet; a refusal leaves a prefix of one more
-- packet.
use Rattle.std.proofs.Common.{◌≡◌, ℕ, ◌+◌, ◌⊎◌, List, [], ◌∷◌, ◌++◌, map, Err, inr, ap, sym, subst, ◌∙◌, append_assoc}
use Rattle.std.specs.Prelude.{option_map}
use Rattle.std.specs.List.{AllByRecursion}
use Rattle.std.specs.Io.KnownBytes.{Appends}
use Rattle.std.proofs.KnownBytes.{Appends-trans}
use Rattle.std.proofs.lemmas.Result.{err_from_is_err_and}
use Rattle.std.proofs.lemmas.List.{append-nil}
use Rattle.std.proofs.lemmas.Map.Iter.{rest_more}
use Rattle.puffin_data.specs.declared.file_error.FileError.{FileError}
use Rattle.puffin_data.specs.Device.{TookNothing}
use Rattle.puffin_frames.specs.Packet.Stored.{PacketFields}
use Rattle.puffin_frames.specs.Packet.Grammar.{IsPacked}
use Rattle.puffin_frames.specs.Packet.Writing.{details_or}
use Rattle.puffin_frames.specs.Frame.Contents.{packet_fields}
use Rattle.puffin_view.specs.View.ViewedFrames.{Frame, fields_of}
use Rattle.puffin_view.specs.View.FrameOf.{shared_frame}
use Rattle.puffin_view.specs.View.Listings.{all_left}
use Rattle.puffin_view.specs.View.Known.{view_of}
use Rattle.puffin_view.specs.View.File.{file_of, fields_in, first_with}
use Rattle.puffin_view.proofs.FilesWritten.{file_more, all_more, one_left, first_as_it_is, magic_begins, begun, any_of, refuses_file, io_is_not_long}
use Rattle.puffin_view.proofs.profile_view.frame_view.FrameView.write_frames.Goals as goal

pub returns-in_err-write_magic : goal.returns-in_err-write_magic
returns-in_err-write_magic g c =
    let p = err_from_is_err_and c.from_residual.result c.from_residual.ensures.1 in
    let e = c.in_err-write_magic.field-0.0 in
    let h = c.in_err-write_magic.ensures.err in
    let all_frames = first_with (option_map (λ s. s.now) c.args.scopes) (fields_in (view_of c.args.self.now)) in
    record {
      written = refuses_file g.D.Drain.contents g.D.Drain.failures g.D.Drain.takes _ _ all_frames
          c.from_residual.result e (p.1 ∙ ap (λ (x : FileError). Err x) p.2) (magic_begins _ _ all_frames h.1)
          (λ at. h.2) (λ long. absurd (io_is_not_long e h.0 long)) (inr (inr h.0));
    }

pub frames-preserved : goal.frames-preserved
frames-preserved g c =
    let (done, left_is, holds, packed, none_failed) = c.frames.invariant in
    let all_frames = first_with (option_map (λ s. s.now) c.args.scopes) (fields_in (view_of c.args.self.now)) in
    let o = option_map (λ s. s.now) c.take.result in
    let said : PacketFields = packet_fields c.deref.result.now in
    let one = record said { details = details_or said.details o } in
    let rest = map fields_of (all_left c.next.new.self) in
    let left : all_left c.frames.frame-iterator ≡ shared_frame c.in-Some.frame.now ∷ all_left c.next.new.self =
    rest_more (λ a. shared_frame a.now) _ _ _ _ c.in-Some.is c.next.ensures.steps in
    let so_far = subst (λ f. all_frames ≡ done ++ first_with (option_map (λ s. s.now) f)
    (map fields_of (all_left c.frames.frame-iterator))) (sym c.take.ensures.value) left_is in
    let is = one_left done o said (shared_frame c.in-Some.frame.now) (all_left c.frames.frame-iterator)
    (all_left c.next.new.self) all_frames so_far left (ap packet_fields c.deref.ensures) in
    let h = c.in_ok-write_into.ensures in
    let written = h.written in (
      done ++ one ∷ [],
      subst (λ f. all_frames ≡ (done ++ one ∷ []) ++ first_with (option_map (λ s. s.now) f) rest)
          (sym c.take.ensures.after)
          (is ∙ (sym (append_assoc done (one ∷ []) rest)
          ∙ ap (λ (ds : List PacketFields). (done ++ one ∷ []) ++ ds) (sym (first_as_it_is rest)))),
      subst (Appends _ _) (file_more done one) (Appends-trans _ _ _ _ _ holds written.ok),
      all_more done one packed h.packed,
      written.none_failed ∙ none_failed,
    )

pub returns-in_err-write_into : goal.returns-in_err-write_into
returns-in_err-write_into g c =
    let p = err_from_is_err_and c.from_residual-in_err-write_into.result c.from_residual-in_err-write_into.ensures.1 in
    let (done, left_is, holds, packed, none_failed) = c.frames.invariant in
    let all_frames = first_with (option_map (λ s. s.now) c.args.scopes) (fields_in (view_of c.args.self.now)) in
    let o = option_map (λ s. s.now) c.take.result in
    let said : PacketFields = packet_fields c.deref.result.now in
    let one = record said { details = details_or said.details o } in
    let rest = map fields_of (all_left c.next.new.self) in
    let left : all_left c.frames.frame-iterator ≡ shared_frame c.in-Some.frame.now ∷ all_left c.next.new.self =
    rest_more (λ a. shared_frame a.now) _ _ _ _ c.in-Some.is c.next.ensures.steps in
    let so_far = subst (λ f. all_frames ≡ done ++ first_with (option_map (λ s. s.now) f)
    (map fields_of (all_left c.frames.frame-iterator))) (sym c.take.ensures.value) left_is in
    let is = one_left done o said (shared_frame c.in-Some.frame.now) (all_left c.frames.frame-iterator)
    (all_left c.next.new.self) all_frames so_far left (ap packet_fields c.deref.ensures) in
    let h = c.in_err-write_into.ensures.written in
    let e = c.in_err-write_into.field-0.0 in
    record {
      written = refuses_file g.D.Drain.contents g.D.Drain.failures g.D.Drain.takes _ _ all_frames
          c.from_residual-in_err-write_into.result e (p.1 ∙ ap (λ (x : FileError). Err x) p.2)
          (begun _ _ _ done one rest all_frames e is holds h.begun
          (λ other. ap g.D.Drain.contents (h.untouched other)) h.cause)
          (λ at. subst (λ (n : ℕ). (g.D.Drain.failures c.write_into.new.drain ≡ n + 1)
          ⊎ TookNothing g.D.Drain.takes c.write_into.new.drain) none_failed (h.io at))
          (λ long. any_of done one rest all_frames is (h.too_long long)) h.cause;
    }

pub returns : goal.returns
returns g c =
    let (done, left_is, holds, packed, none_failed) = c.frames.invariant in
    let all_frames = first_with (option_map (λ s. s.now) c.args.scopes) (fields_in (view_of c.args.self.now)) in
    let all : all_frames ≡ done =
    left_is ∙ (ap (λ (fs : List Frame). done ++ first_with (option_map (λ s. s.now) c.frames.first)
    (map fields_of fs)) c.in-None.ensures.steps.0 ∙ append-nil done) in
    record {
      written = record {
        ok = subst (λ (ds : List PacketFields). Appends (g.D.Drain.contents c.args.drain.now)
            (g.D.Drain.contents c.frames.drain) (file_of ds)) (sym all) holds;
        packed = subst (AllByRecursion IsPacked) (sym all) packed;
        begun = tt;
        io = tt;
        too_long = tt;
        cause = tt;
        none_failed = none_failed;
      };
    }
