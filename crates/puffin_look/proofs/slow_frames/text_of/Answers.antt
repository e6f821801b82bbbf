-- What was made is the frame's line and path.
use Rattle.std.proofs.Common.{[], ◌++◌, length, refl, sym, ◌∙◌, append_assoc}
use Rattle.std.specs.Prelude.{false}
use Rattle.std.proofs.lemmas.List.{length-map}
use Rattle.puffin_look.specs.Forms.{joined}
use Rattle.puffin_look.specs.OpenFrame.{open_of}
use Rattle.puffin_look.specs.Heavy.{step_lines}
use Rattle.puffin_look.specs.SlowFrames.{head_text, between_steps, tail_text}
use Rattle.puffin_look.specs.inner.Stacks.{row_of, rows_in}
use Rattle.puffin_look.proofs.SlowKept.{slow_read}
use Rattle.puffin_look.proofs.slow_frames.text_of.Goals as goal

pub returns-clause-ok : goal.returns-clause-ok
returns-clause-ok c =
    let form = c.args.form in
    let entries = c.add.new.self.stacks.rows.entries in
    let path = joined (between_steps form) false
    (step_lines form (length (rows_in entries))
    (rows_in entries) 0 [] (Rattle.puffin_look.specs.Cells.length_of c.args.frame.now.meta.range_ns)) in
    let steps = c.in_ok-push_steps.ensures
    ∙ (λ i. c.in_ok-lines.ensures.text i ++ joined (c.in_ok-lines.ensures.separator i) (c.in_ok-lines.ensures.none i)
    (step_lines form (sym (length-map entries row_of) i) (rows_in entries) 0 [] (c.length_of-whole.ensures i))) in
    let text = c.in_ok-extend_from_slice.ensures.items ∙ (λ i. steps i ++ c.tail_of.ensures i)
    ∙ append_assoc (head_text form c.args.frame.now.meta) path (tail_text form) in
    slow_read form _ _ c.args.known.now c.args.wanted.now
    (open_of c.args.frame.now) _ c.new.ensures.rows c.new.ensures.known refl text _ c.in_ok-add.ensures.ok.2
