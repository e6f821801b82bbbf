-- Two summaries of the same frames have the same frames, merge and details, and so the same lines.
use Rattle.std.proofs.Common.{◌≡◌, ◌++◌, List, Result, Ok, sym, subst, ◌∙◌}
use Rattle.puffin_data.specs.declared.file_error.FileError.{FileError}
use Rattle.puffin_merge.specs.Merge.FrameBytes.{FrameBytes}
use Rattle.puffin_merge.specs.Merge.Refusals.{AreMerged}
use Rattle.puffin_merge.specs.Merge.Scopes.{forest_in}
use Rattle.puffin_report.specs.ReportLines.{frames_line, scope_lines}
use Rattle.puffin_report.proofs.laws.one_report.Goals as goal

same_bytes : (r : Result (List FrameBytes) FileError) (xs ys : List FrameBytes) → r ≡ Ok xs → r ≡ Ok ys → ys ≡ xs
same_bytes r xs ys a b = cc

pub returns : goal.returns
returns c info stored one another sums again =
    let streams = same_bytes _ sums.streams again.streams sums.unpacked again.unpacked in
    let merged =
    c.one_outcome.ensures.merged sums.streams (forest_in one.merged.items) (forest_in another.merged.items)
    sums.merged
    (subst (λ (fs : List FrameBytes). AreMerged fs (forest_in another.merged.items)) streams again.merged) in
    let frames = sums.frames ∙ sym again.frames in
    let scopes : one.scopes ≡ another.scopes = sums.scopes ∙ sym again.scopes in
    λ i. frames_line (frames i) ++ scope_lines (scopes i) 0 (merged i)
