-- Where the stream is shorter than the limit there is room already, and only a copy of the name was missing.
use Rattle.std.proofs.Common.{arith}
use Rattle.puffin_threads.proofs.Readiness.{prepares_short, copy_there}
use Rattle.puffin_threads.proofs.thread_profiler.supply.Supply.renew.Goals as goal

pub returns-then-len-self : goal.returns-then-len-self
returns-then-len-self c =
    let supply = c.args.self.now in
    let is = c.requires.supplied.limit (omega (arith, c.if-len-self.true)) in
    prepares_short supply _ c.args.name.now c.args.stream.now c.args.num_open c.args.text.now supply.limit
    c.requires.few is (omega (arith, c.len-len.ensures, c.if-len-self.true)) c.if-text-le-SHORT_TEXT.true
    c.in_ok-keep_copy.ensures.ok (record {
      ready =
          λ _. (is, copy_there supply.copy c.keep_copy.new.copy c.args.name.now c.in_ok-keep_copy.ensures.ok);
      limit =
          λ _. is;
    })
