-- A write that failed has written a prefix of the lines of the forest that was read.
use Rattle.std.proofs.Common.{◌≡◌, List, ℕ, ◌++◌, ap, subst, ◌∙◌, inr}
use Rattle.puffin_data.specs.declared.data.form.Form.{Form}
use Rattle.puffin_data.specs.declared.data.form.Form.TheVariants.{Short}
use Rattle.puffin_data.specs.Forest.Spelling.{Spells}
use Rattle.puffin_data.specs.Device.{WritesBeginning}
use Rattle.puffin_data.specs.Stream.{StreamState}
use Rattle.puffin_report.specs.Lines.{count_line, outcome_line, frame_of_forest}
use Rattle.puffin_report.proofs.lemmas.WrittenLines.{at_an_error}
use Rattle.puffin_report.proofs.count.count_stream.Goals as goal

pub returns-in_err-write_all-clause-written : goal.returns-in_err-write_all-clause-written
returns-in_err-write_all-clause-written g c =
    let f = c.in-Ok.ensures.honest.0 in
    let honest = c.in-Ok.ensures.honest.1 in
    let bytes = c.in_ok-bytes.bytes.items in
    let read : c.in-Ok.info.stream.bytes ≡ bytes = ap (λ (s : StreamState). s.bytes) c.in-Ok.ensures.same ∙ c.from.ensures.0 in
    let form : c.in-Ok.info.stream.form ≡ Short = ap (λ (s : StreamState). s.form) c.in-Ok.ensures.same ∙ c.from.ensures.1 in
    let frame =
    c.as_str.ensures.value
    ∙ (c.in_ok-frame.ensures.ok f honest).0
    ∙ ap (λ (form : Form). outcome_line (frame_of_forest form f)) form in
    let lines =
    c.as_bytes.ensures.value
    ∙ c.in_ok-push_str.ensures.bytes
    ∙ ap (λ (xs : List ℕ). xs ++ c.as_str.result.now) (c.in_ok-lines.ensures f honest)
    ∙ ap (λ (xs : List ℕ). count_line f ++ xs) frame in
    at_an_error _
    (inr (
      bytes,
      f,
      c.in_ok-bytes.ensures.all,
      subst (λ (form : Form). Spells form bytes f) form
          (subst (λ (xs : List ℕ). Spells c.in-Ok.info.stream.form xs f) read honest.stream),
      subst (WritesBeginning _ _) lines c.in_err-write_all.ensures.err,
    ))
