-- After any number of jobs, none of which failed: what they told.
use Rattle.std.specs.Prelude.{◌≡◌, true}
use Rattle.puffin.specs.Places.{num_known}
use Rattle.puffin.specs.Telling.{HaveRunAs, Named}
use Rattle.puffin.proofs.light.pool.JobsAnyProgramReadySystemClock.run.Given as goal

abbrev pub invariant-loop : goal.invariant-loop
invariant-loop g l = record {
  known : g.W.Pool.states l.self.pool.now ≡ true → l.scopes ≡ l.fn.thread.scopes;
  ran : HaveRunAs (g.W.Pool.states l.self.pool.now) (Named (g.W.Pool.names l.self.pool.now) (g.W.Pool.runs l.self.pool.now))
      (num_known l.fn.thread.scopes) (g.P.Meets.told l.fn.reporter) (g.P.Meets.told l.reporter) l.ended.unreported;
}
