-- The next frame is collected, waits, and is added to the view. If memory runs out then, it still waits.
use Rattle.std.proofs.Common.{refl, sym, ap, ◌∙◌, inl}
use Rattle.std.proofs.lemmas.Result.{err_from_is_err_and}
use Rattle.std.specs.List.{list_any}
use Rattle.std.specs.Arc.{arc_value}
use Rattle.std.specs.Option.{option_map}
use Rattle.puffin_frames.specs.declared.frame_data.frame.FrameData.{FrameData}
use Rattle.puffin_threads.specs.Details.{lacks_id}
use Rattle.puffin_frames.specs.Frame.Contents.{frame_meta, frame_details}
use Rattle.puffin_view.specs.declared.profile_view.frame_view.FrameView.{FrameView}
use Rattle.puffin_view.specs.View.{after_taking}
use Rattle.puffin_view.specs.View.FrameOf.{frame_of}
use Rattle.puffin_view.specs.View.Known.{view_of}
use Rattle.puffin_c.specs.declared.profiler.Profiler.{Profiler}
use Rattle.puffin_c.proofs.Frames.{the_next, still_waits, memory_alone}
use Rattle.puffin_c.proofs.profiler.Profiler.take_frame.Goals as goal

pub returns-in_err-frame-clause-err : goal.returns-in_err-frame-clause-err
returns-in_err-frame-clause-err c =
    let old : Profiler = c.args.self.now in
    let mid : Profiler = c.collect.new.self in
    let (frame, waits) = c.in_err-frame.ensures.err in
    let (cause, is_err, same_cause) = err_from_is_err_and c.from_residual-in_err-frame.result c.from_residual-in_err-frame.ensures.1 in
    rw is_err (still_waits old mid mid cause frame c.in_ok-collect.ensures.ok waits refl refl refl (inl refl)
    (same_cause ∙ c.in_err-frame.ensures.memory))

pub returns-in_err-add_frame-clause-err : goal.returns-in_err-add_frame-clause-err
returns-in_err-add_frame-clause-err c =
    let old : Profiler = c.args.self.now in
    let mid : Profiler = c.collect.new.self in
    let new : Profiler = record mid { view = c.add_frame.new.self } in
    let waits = sym c.in_ok-frame.ensures.ok ∙ ap (option_map arc_value) c.in-Some.is in
    let frame : FrameData = arc_value c.in-Some.frame in
    let (cause, is_err, same_cause) = err_from_is_err_and c.from_residual-in_err-add_frame.result
    c.from_residual-in_err-add_frame.ensures.1 in
    let memory = memory_alone c.add_frame.result c.in_err-add_frame.field-0.0 (list_any lacks_id (frame_details frame))
    c.in_err-add_frame.was
    (rw c.in-Some.is at c.in_ok-frame.ensures.ids) c.add_frame.ensures.missing c.in_err-add_frame.ensures.cause in
    rw is_err (still_waits old mid new cause frame c.in_ok-collect.ensures.ok waits refl refl refl
    c.in_err-add_frame.ensures.err.frames (same_cause ∙ memory))

pub returns-clause-ok : goal.returns-clause-ok
returns-clause-ok c =
    let old : Profiler = c.args.self.now in
    let mid : Profiler = c.collect.new.self in
    let frame : FrameData = arc_value c.in-Some.frame in
    let collected = c.in_ok-collect.ensures.ok in
    let waits = sym c.in_ok-frame.ensures.ok ∙ ap (option_map arc_value) c.in-Some.is in (
      frame,
      the_next old mid frame collected waits,
      c.meta-meta.ensures ∙ ap frame_meta c.deref.ensures,
      c.in_ok-add_frame.ensures.ok.frames ∙ ap (λ (v : FrameView). after_taking (view_of v) (frame_of frame)) collected.view,
      refl,
      collected.unread,
    )
