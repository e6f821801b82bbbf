-- Whether a turn gives a frame or none, the share has taken just the frames that are kept.
use Rattle.std.proofs.Common.{rules, ◌≡◌, ◌++◌, ◌∷◌, [], sym, subst}
use Rattle.example_threads.specs.Recorded.{HasTaken}
use Rattle.example_threads.proofs.Showing.{taken_more, taken_none}
use Rattle.example_threads.proofs.record.take.Goals.{in-Some+in_ok-push, in_default}
use Rattle.example_threads.proofs.record.take.Goals as goal

pub loop-preserved : goal.loop-preserved
loop-preserved g c =
    let frames = c.loop.frames.items in
    let old = c.loop.share in
    let new = c.new_frame.new.share in
    let taken = c.in_ok-frame.ensures.taken in
    elim c.match-branch-2.branch [
      | in-Some+in_ok-push w ↦
          let more =
          taken_more frames w.in-Some.frame old new c.loop.invariant c.in_ok-frame.field-0.frame w.in-Some.is taken in
          let pushed : w.push.new.self.items ≡ frames ++ w.in-Some.frame ∷ [] = search rules in
          subst (λ fs. HasTaken fs.items new) (sym w.frames-is) (subst (λ fs. HasTaken fs new) (sym pushed) more)
      | in_default w ↦
          let none =
          taken_none frames old new c.loop.invariant c.in_ok-frame.field-0.frame w.in_default.not-Some taken in
          subst (λ fs. HasTaken fs.items new) (sym w.frames-is) none
    ]
