-- The reader and memory didn't fail, so the frames were read up to the end or the first fault.
use Rattle.std.proofs.Common.{◌≡◌, false, ap, sym, ◌∙◌}
use Rattle.puffin_look.specs.inner.Taken.{fails_outside}
use Rattle.puffin_look.proofs.FirstRead.{read_anyway}
use Rattle.puffin_look.proofs.overview.read_overview.Goals.{then-fails_outside+in_ok-answer, else-fails_outside}
use Rattle.puffin_look.proofs.overview.read_overview.Goals as goal

pub returns-clause-ok : goal.returns-clause-ok
returns-clause-ok g c =
    let quiet : fails_outside c.add_frames-answer.result
    ≡ false = elim c.if-fails_outside.branch [
      | then-fails_outside+in_ok-answer w ↦ ap fails_outside
          w.in_ok-answer.was
      | else-fails_outside w ↦ sym c.fails_outside.ensures ∙ w.if-fails_outside.false
    ] in
    read_anyway _ _ _ c.add_frames-answer.result quiet c.add_frames-answer.ensures.read
