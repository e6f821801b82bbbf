-- Ending a scope changes its thread and what is collected, and nothing else.
use Rattle.std.proofs.Common.{◌<◌, length, rules, ℤ, w64, subst}
use Rattle.std.specs.Prelude.{IfOk}
use Rattle.std.proofs.lemmas.Int.{to_z-of_z}
use Rattle.puffin_threads.specs.Thread.Calls.{clock_time}
use Rattle.puffin_session.specs.inner.Serving.{EndsInnermost}
use Rattle.puffin_session.proofs.SessionCloses.{Ends-there}
use Rattle.puffin_session.proofs.session.Session.end.Goals as goal

pub returns-in-Some-clause-ok : goal.returns-in-Some-clause-ok
returns-in-Some-clause-ok c =
    let within : c.args.thread < length c.self.inside.profiled.items = search rules in
    let at = to_z-of_z w64 c.args.at c.ranges.at in
    let ends =
    subst
    (λ (x : ℤ). IfOk c.end.result
    (λ closed. EndsInnermost c.in-Some.profiled.now c.end.new.self (clock_time x) c.self.inside.collector
    c.end.new.collector closed)) at c.end.ensures.ok in
    Ends-there _ _ _ _ _ _ _ _ _ _ c.self.view_is within c.in-Some.ensures.value c.end.ensures.back ends
