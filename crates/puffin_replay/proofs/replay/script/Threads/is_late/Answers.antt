-- A thread that has a number is named.
use Rattle.std.proofs.Common.{◌≡◌, ℕ, Option, Some, None, is_some, refl, sym, ap, ◌∙◌}
use Rattle.std.specs.Borrow.{Bor}
use Rattle.std.specs.Option.{option_copied}
use Rattle.puffin_replay.specs.declared.replay.statement.Statement.{Statement}
use Rattle.puffin_replay.specs.Script.{is_late}
use Rattle.puffin_replay.specs.inner.ScriptReading.{meaning_of, names_in}
use Rattle.puffin_replay.proofs.Scripts.{named_there}
use Rattle.puffin_replay.proofs.replay.script.Threads.is_late.Goals as goal

some_copied : (o : Option (Bor ℕ)) → is_some (option_copied o) ≡ is_some o
some_copied None = refl
some_copied (Some x) = refl

pub returns-in-Long : goal.returns-in-Long
returns-in-Long c = λ numbered.
    let names = names_in c.args.self.now in
    let thread = c.in-Long.thread.now in
    c.is_some.ensures ∙ sym (some_copied c.get.result) ∙ ap is_some c.get.ensures.value ∙ named_there names thread _ (numbered thread)
    ∙ sym (ap (λ (s : Statement). is_late names (meaning_of s)) c.in-Long.is)
