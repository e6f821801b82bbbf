-- All threads told what their types say, each through its share.
use Rattle.std.proofs.Common.{rules}
use Rattle.puffin.specs.Joined.{counts_after}
use Rattle.puffin.proofs.JoinedThreads.{all_told}
use Rattle.puffin.proofs.light.started.run_all.Goals as goal

pub returns-clause-told : goal.returns-clause-told
returns-clause-told g c =
    let crew = c.args.crew in let e = c.join_all.ensures in let led = c.lead-taker in
    all_told g.W.AnyProgram.tells g.W.AnyProgram.leads g.W.AnyProgram.takes c.in_ok-started.started.items crew.threads.items
    crew.leader c.args.program.now led.result.0.share led.result.1.share
    (counts_after led.result.1.reported led.result.1.ended) led.result.0.frames
    c.join_all.result (λ j. j.failed) (λ j. j.counts.items) (λ j. j.leader) (λ j. j.frames) (λ j. j.missed) led.result.0.missed
    (λ j. j.shares.items) (search rules) e.each e.handed e.leader e.frames led.ensures.tells led.ensures.takes led.result.0.took
    (search rules)
