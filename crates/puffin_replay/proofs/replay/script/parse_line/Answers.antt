-- A line is refused with its number, skipped, or means what its words mean.
use Rattle.std.proofs.Common.{List, ℕ, refl, ap, ◌∙◌}
use Rattle.puffin_replay.specs.Script.Statements.{line_meaning, words_in}
use Rattle.puffin_replay.proofs.Scripts.{told_no_text, told_skipped, told_known}
use Rattle.puffin_replay.proofs.replay.script.parse_line.Goals as goal

pub returns-in_default : goal.returns-in_default
returns-in_default c = (refl, told_no_text _ _ c.in_default.ensures.cases.0)

pub returns-then-is_skipped : goal.returns-then-is_skipped
returns-then-is_skipped c = told_skipped _ _ c.in-Ok.ensures.cases.1 c.if-is_skipped.ensures

pub returns-in-Some : goal.returns-in-Some
returns-in-Some c =
    told_known _ _ _ c.in-Ok.ensures.cases.1 c.if-is_skipped.ensures
    (c.in-Some.ensures ∙ ap (λ (xs : List ℕ). line_meaning (words_in xs)) c.in-Ok.ensures.cases.0)

pub returns-in-None : goal.returns-in-None
returns-in-None c = (
  refl,
  told_known _ _ _ c.in-Ok.ensures.cases.1 c.if-is_skipped.ensures
      (c.in-None.ensures ∙ ap (λ (xs : List ℕ). line_meaning (words_in xs)) c.in-Ok.ensures.cases.0),
)
