-- The line, or a prefix of it, was written.
use Rattle.std.proofs.Common.{◌∙◌, sym, ap}
use Rattle.puffin_replay.specs.Program.Faults.{fault_text}
use Rattle.puffin_report.proofs.lemmas.WrittenLines.{beginning_written}
use Rattle.puffin_replay.proofs.replay.fault.finish.Goals as goal

pub returns-then-eq-clause-beginning : goal.returns-then-eq-clause-beginning
returns-then-eq-clause-beginning g c =
    let line = c.as_bytes.ensures.value ∙ c.as_str.ensures.value ∙ c.line_of.ensures ∙ sym (ap fault_text c.in-Some.is) in
    beginning_written c.write_all.result _ _ _ _ line c.write_all.ensures.ok c.write_all.ensures.err

pub returns-else-eq-clause-beginning : goal.returns-else-eq-clause-beginning
returns-else-eq-clause-beginning g c =
    let line = c.as_bytes.ensures.value ∙ c.as_str.ensures.value ∙ c.line_of.ensures ∙ sym (ap fault_text c.in-Some.is) in
    beginning_written c.write_all.result _ _ _ _ line c.write_all.ensures.ok c.write_all.ensures.err
