-- The lines are those of the paths, one after the other.
use Rattle.std.proofs.Common.{List, ℕ, ◌++◌, ◌-◌, ap, ◌∙◌}
use Rattle.std.specs.Map.Iter.{deref_pair}
use Rattle.std.proofs.lemmas.Map.Iter.{rest_more}
use Rattle.puffin_look.specs.Folded.{path_line}
use Rattle.puffin_look.proofs.StackLines.{line_more, lines_done}
use Rattle.puffin_look.proofs.folded.lines_of.Goals as goal

pub rows-preserved : goal.rows-preserved
rows-preserved c =
    let left = rest_more deref_pair _ _ _ _ c.in-Some.is c.next.ensures.steps in
    let line = c.in_ok-push_line.ensures
    ∙ ap (λ (p : List ℕ). c.rows.text.items ++ path_line p
    (c.in-Some.times.now.whole - c.in-Some.times.now.nested)) c.deref.ensures.value in
    line_more _ _ _ _ _ _ left line c.rows.invariant

pub returns : goal.returns
returns c = lines_done _ _ _ c.in-None.ensures.steps.0 c.rows.invariant
