-- A line that is a command comes behind the others with its number; another only names a thread.
use Rattle.std.proofs.Common.{ℕ}
use Rattle.puffin_replay.specs.Script.Statements.{Meaning}
use Rattle.puffin_replay.specs.inner.ScriptReading.{meaning_of}
use Rattle.puffin_replay.proofs.Scripts.{lines_more, lines_same, names_more, forms_more, commands_more, commands_same}
use Rattle.puffin_replay.proofs.replay.script.Reading.push.Goals as goal

pub returns-in_ok-push-2 : goal.returns-in_ok-push-2
returns-in_ok-push-2 c = λ before reading.
    let asked = c.in_ok-command.ensures reading.numbered in
    let (numbered, named, formed, (is, new)) = rw c.in-Some.is at asked in
    let s : ℕ × Meaning = (c.args.number, meaning_of c.args.statement.now) in
    record {
      numbered = numbered;
      lines = lines_more _ _ before s is c.in_ok-push-2.ensures.items reading.lines;
      names = names_more _ _ before s named reading.names;
      forms = forms_more _ _ _ before s formed reading.names reading.forms;
      commands = commands_more _ _ _ _ _ before s is named c.in_ok-push.ensures.items reading.commands new;
    }

pub returns-in_default : goal.returns-in_default
returns-in_default c = λ before reading.
    let asked = c.in_ok-command.ensures reading.numbered in
    let (numbered, named, formed, none) = rw c.in_default.is at asked in
    let s : ℕ × Meaning = (c.args.number, meaning_of c.args.statement.now) in
    record {
      numbered = numbered;
      lines = lines_same _ before s none reading.lines;
      names = names_more _ _ before s named reading.names;
      forms = forms_more _ _ _ before s formed reading.names reading.forms;
      commands = commands_same _ _ _ before s none named reading.commands;
    }
