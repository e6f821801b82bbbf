-- If some text is left, a word is left.
use Rattle.std.proofs.Common.{ap, ◌∙◌}
use Rattle.puffin_replay.specs.inner.ScriptReading.{words_behind}
use Rattle.puffin_replay.proofs.Statements.{some_word}
use Rattle.puffin_replay.proofs.replay.statement.Words.end.Goals as goal

pub returns-in-Some : goal.returns-in-Some
returns-in-Some c =
    let (word, words, is) = some_word c.in-Some.field-0.now in
    (word, words, ap words_behind c.in-Some.is ∙ is)
