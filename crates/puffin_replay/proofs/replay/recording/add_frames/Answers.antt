-- The view takes the frames of the replies one after another, up to one that isn't copied or is refused.
use Rattle.std.proofs.Common.{◌+◌, [], ◌∷◌, take, sym, ap, ◌∙◌, subst, option_map}
use Rattle.std.proofs.lemmas.Result.{err_from_is_err_and}
use Rattle.puffin_view.specs.declared.profile_view.frame_view.FrameView.{FrameView}
use Rattle.puffin_view.specs.View.FrameOf.{frame_of, shared_frame}
use Rattle.puffin_replay.specs.Program.EmittedFrames.{frame_in, frames_emitted}
use Rattle.puffin_replay.proofs.Recording.{TakesAll, TakesAll-same, TakesAll-more, refused_for_memory, TakesSome-refused, TakesSome-memory}
use Rattle.puffin_replay.proofs.replay.recording.add_frames.Goals.{in-Some+in_ok-clone+in_ok-add_frame, in_default}
use Rattle.puffin_replay.proofs.replay.recording.add_frames.Goals as goal

pub returns-in_err-clone-clause-refusal : goal.returns-in_err-clone-clause-refusal
returns-in_err-clone-clause-refusal c =
    let p = err_from_is_err_and c.from_residual.result c.from_residual.ensures.1 in
    let some = sym c.emitted_by.ensures ∙ ap (λ o. frame_in (option_map (λ frame. frame.now) o)) c.in-Some.is in
    rw p.1 (
      p.2,
      TakesSome-memory c.args.replies.now c.loop-reply.reply-index c.reply-item.result c.loop-reply-test.true
          c.reply-item.is _ some c.args.view.now c.loop-reply.view c.loop-reply.invariant.takes,
    )

pub returns-in_err-add_frame-clause-refusal : goal.returns-in_err-add_frame-clause-refusal
returns-in_err-add_frame-clause-refusal c =
    let p = err_from_is_err_and c.from_residual-in_err-add_frame.result c.from_residual-in_err-add_frame.ensures.1 in
    let some =
    sym c.emitted_by.ensures
    ∙ ap (λ o. frame_in (option_map (λ frame. frame.now) o)) c.in-Some.is
    ∙ ap (λ f. frame_of f ∷ []) (sym c.in_ok-clone.ensures.cases) in
    let frame = shared_frame c.in_ok-clone.field-0 in
    let rs = c.args.replies.now in
    let i = c.loop-reply.reply-index in
    let r = c.reply-item.result in
    let refusal = c.in_err-add_frame.ensures in
    let memory =
    refused_for_memory rs i r c.loop-reply-test.true c.reply-item.is frame some c.add_frame.result
    c.in_err-add_frame.field-0.0 c.requires c.in_err-add_frame.was c.add_frame.ensures.missing refusal.cause in
    rw (p.1, p.2) (
      memory,
      TakesSome-refused rs i r c.loop-reply-test.true c.reply-item.is frame some c.args.view.now c.loop-reply.view
          c.add_frame.new.self c.loop-reply.invariant.takes refusal.err.frames refusal.err.known,
    )

pub loop-reply-preserved : goal.loop-reply-preserved
loop-reply-preserved c =
    let rs = c.args.replies.now in
    let i = c.loop-reply.reply-index in
    let before : TakesAll (frames_emitted (take i rs)) c.args.view.now c.loop-reply.view =
    (c.loop-reply.invariant.takes, c.loop-reply.invariant.took) in
    let after : TakesAll (frames_emitted (take (i + 1) rs)) c.args.view.now c.match-emitted_by.view =
    elim c.match-emitted_by.branch [
      | in-Some+in_ok-clone+in_ok-add_frame w ↦
          let some =
          sym c.emitted_by.ensures
          ∙ ap (λ o. frame_in (option_map (λ frame. frame.now) o)) w.in-Some.is
          ∙ ap (λ f. frame_of f ∷ []) (sym w.in_ok-clone.ensures.cases) in
          let kept = w.in_ok-add_frame.ensures in
          subst (λ (v : FrameView). TakesAll (frames_emitted (take (i + 1) rs)) c.args.view.now v) (sym w.view-is)
          (TakesAll-more rs i c.reply-item.result c.loop-reply-test.true c.reply-item.is
          (shared_frame w.in_ok-clone.field-0) some c.args.view.now c.loop-reply.view w.add_frame.new.self before
          kept.ok.frames kept.ok.learnt kept.holds.took)
      | in_default w ↦
          let none = sym c.emitted_by.ensures ∙ ap (λ o. frame_in (option_map (λ frame. frame.now) o)) w.in_default.is in
          subst (λ (v : FrameView). TakesAll (frames_emitted (take (i + 1) rs)) c.args.view.now v) (sym w.view-is)
          (TakesAll-same rs i c.reply-item.result c.loop-reply-test.true c.reply-item.is none c.args.view.now c.loop-reply.view before)
    ] in
    record { takes = after.0; took = after.1 }
