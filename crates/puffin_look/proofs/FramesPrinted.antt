-- What is written of a list of frames.
use Rattle.std.proofs.Common.{◌≡◌, ℕ, List, ◌++◌, Option, ◌∙◌, append_assoc}
use Rattle.puffin_look.specs.OpenFrame.{OpenFrame}
use Rattle.puffin_look.specs.Forms.{joined, opening, closing, separator}
use Rattle.puffin_look.specs.FrameLines.{column_names, IsFrameList}
use Rattle.puffin_look.specs.Wanted.{frames_within}
use Rattle.puffin_look.specs.declared.frames.FrameList.{FrameList}
use Rattle.puffin_look.specs.declared.lines.Form.{Form}
use Rattle.puffin_look.specs.declared.wanted.Indices.{Indices}
use Rattle.puffin_look.specs.inner.Lining.{IsEmptyList, TakesFrames, lines_of}
use Rattle.std.specs.Prelude.{false}

abbrev pub text_in : FrameList → List ℕ
text_in v = v.lines.text.items

-- the text of the frames and the end are the list
pub closed : (form : Form) (indices : Option Indices) (old : FrameList) (finish : List ℕ) → finish ≡ closing form
    → IsEmptyList form old → (frames : List OpenFrame) (more : List ℕ) (v : FrameList)
    → TakesFrames old (frames_within indices frames) more v → IsFrameList form indices frames ((text_in old ++ more) ++ finish)
closed form indices old finish end empty frames more v taken =
    let within = frames_within indices frames in
    (λ i. (empty.text i ++ (taken.is ∙ (λ j. joined (empty.separator j) (empty.none j) (lines_of (empty.same j) within))) i) ++ end i)
    ∙ append_assoc (opening form column_names) (joined (separator form) false (lines_of form within)) (closing form)
