-- The words that are left are joined again to the text that is left.
use Rattle.std.proofs.Common.{ap, ◌∙◌, sym}
use Rattle.std.proofs.lemmas.List.Splits.{join_with_byte-slice_split}
use Rattle.puffin_replay.specs.inner.ScriptReading.{words_behind}
use Rattle.puffin_replay.specs.Script.Statements.{joined_words}
use Rattle.puffin_replay.proofs.replay.statement.Words.rest.Goals as goal

pub returns-in-Some : goal.returns-in-Some
returns-in-Some c = sym (ap joined_words (ap words_behind c.in-Some.is) ∙ join_with_byte-slice_split 32 c.in-Some.text.now)
