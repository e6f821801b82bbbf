-- Where the stream is shorter than the supply says, there is room already.
use Rattle.std.proofs.Common.{arith}
use Rattle.puffin_threads.proofs.Readiness.{prepares_short, copy_stays}
use Rattle.puffin_threads.proofs.thread_profiler.supply.Supply.prepare.Goals as goal

pub returns-then-len-self : goal.returns-then-len-self
returns-then-len-self c =
    let supply = c.args.self.now in
    let stream = c.args.stream.now in
    let is = c.requires.supplied.ready (omega (arith, c.if-len-self.true)) in
    prepares_short supply supply c.args.name.now stream c.args.num_open c.args.text.now supply.ready c.requires.few is.0
    (omega (arith, c.len.ensures, c.if-len-self.true)) c.if-text-le-SHORT_TEXT.true
    (copy_stays supply.copy c.args.name.now is.1) c.requires.supplied
