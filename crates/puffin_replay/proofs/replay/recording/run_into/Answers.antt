-- Each emitted frame has what was due, and the view took all frames; or nothing was run, or the view took only some of them.
use Rattle.std.proofs.Common.{rules, refl, subst, inl, inr}
use Rattle.puffin_view.specs.View.Known.{view_of, lacks_ids}
use Rattle.puffin_frames.proofs.lemmas.FramesAgain.{frame_again}
use Rattle.puffin_view.proofs.lemmas.FramesHeld.{held_or_taken, listed_is_held}
use Rattle.puffin_replay.specs.Program.EmittedFrames.{frames_emitted, TakesSome}
use Rattle.puffin_session.specs.Session.Runs.{LeadsTo}
use Rattle.puffin_replay.proofs.DueFrames.{emits}
use Rattle.puffin_replay.proofs.Recording.{TakesAll, ids_kept}
use Rattle.puffin_replay.proofs.replay.recording.run_into.Goals as goal

pub returns-in-Err-clause-refusal : goal.returns-in-Err-clause-refusal
returns-in-Err-clause-refusal c = inl (refl, refl, c.in-Err.ensures.err, record { taken = refl; details = refl })

pub returns-in-Err-add_frames-clause-refusal : goal.returns-in-Err-add_frames-clause-refusal
returns-in-Err-add_frames-clause-refusal c =
    let run : LeadsTo c.args.session.now c.run.new.self c.args.commands.now c.in-Ok.replies.items = search rules in
    let due = emits frame_again c.args.session.now c.run.new.self c.args.commands.now c.in-Ok.replies.items run in
    let some =
    subst (λ rs. TakesSome (frames_emitted rs) c.args.view.now c.add_frames.new.view) c.deref.ensures.value
    c.in-Err-add_frames.ensures.refusal.1 in
    inr (c.in-Ok.replies.items, refl, due, some, refl)

pub returns-in-Ok-add_frames-clause-taken : goal.returns-in-Ok-add_frames-clause-taken
returns-in-Ok-add_frames-clause-taken c =
    let run : LeadsTo c.args.session.now c.run.new.self c.args.commands.now c.in-Ok.replies.items = search rules in
    let old = c.args.view.now in
    let new = c.add_frames.new.view in
    let taken =
    subst (λ rs. TakesAll (frames_emitted rs) old new) c.deref.ensures.value
    (c.in-Ok-add_frames.ensures.ok, c.in-Ok-add_frames.ensures.took) in
    let held = ids_kept held_or_taken c.in-Ok.replies.items old new c.in-Ok.ensures.ids taken.0 in
    record {
      run = emits frame_again c.args.session.now c.run.new.self c.args.commands.now c.in-Ok.replies.items run;
      view = taken.0;
      took = taken.1;
      held_ids = held;
      ids = λ before. listed_is_held lacks_ids (view_of new) (held before);
    }
