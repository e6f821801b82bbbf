-- The next line ends at the next line feed, or is the last one.
use Rattle.std.proofs.Common.{ap, ◌∙◌}
use Rattle.puffin_replay.specs.inner.ScriptReading.{lines_behind}
use Rattle.puffin_replay.proofs.Scripts.{line_and_rest, last_line}
use Rattle.puffin_replay.proofs.replay.script.Lines.next.Goals as goal

pub returns-in-Some : goal.returns-in-Some
returns-in-Some c = ap lines_behind c.in_ok-left.was ∙ line_and_rest _ _ c.in-Some.ensures

pub returns-in-None : goal.returns-in-None
returns-in-None c = ap lines_behind c.in_ok-left.was ∙ last_line _ c.in-None.ensures
