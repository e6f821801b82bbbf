-- A thread that was met has its number; one that is new is named.
use Rattle.std.proofs.Common.{sym, ◌∙◌}
use Rattle.puffin_threads.specs.Thread.ThreadKey.{key_of}
use Rattle.puffin_look.proofs.Numbered.{known_thread, new_thread}
use Rattle.puffin_look.proofs.trace.Trace.number.Goals as goal

pub returns-in-Some-clause-ok : goal.returns-in-Some-clause-ok
returns-in-Some-clause-ok c =
    known_thread c.args.self.now (key_of c.args.thread.now) c.in-Some.tid (sym c.number_under.ensures ∙ c.in-Some.is)

pub returns-in-None-clause-ok : goal.returns-in-None-clause-ok
returns-in-None-clause-ok c =
    new_thread c.args.self.now c.add_thread.new.self (key_of c.args.thread.now) c.add_thread.result
    (sym c.number_under.ensures ∙ c.in-None.is) c.add_thread.ensures.ok
