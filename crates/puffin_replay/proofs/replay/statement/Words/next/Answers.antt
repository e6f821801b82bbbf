-- The next word ends at the next blank, or is the last one.
use Rattle.std.proofs.Common.{ap, ◌∙◌, lit<}
use Rattle.puffin_replay.specs.inner.ScriptReading.{words_behind}
use Rattle.puffin_replay.specs.Script.Statements.{is_blank}
use Rattle.puffin_replay.proofs.Statements.{one_word, first_word}
use Rattle.puffin_replay.proofs.replay.statement.Words.next.Goals as goal

pub returns-in-Some : goal.returns-in-Some
returns-in-Some c =
    let cut = c.in-Some.ensures.byte (lit< tt) (λ w o f. f) in
    ap words_behind c.in_ok-left.was ∙ first_word _ _ _ cut.0 cut.1 cut.2

pub returns-in-None : goal.returns-in-None
returns-in-None c = ap words_behind c.in_ok-left.was ∙ one_word is_blank _ (c.in-None.ensures.byte (lit< tt) (λ w o f. f))
