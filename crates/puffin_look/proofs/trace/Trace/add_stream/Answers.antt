-- The thread is numbered, and then its scopes follow.
use Rattle.std.proofs.lemmas.Result.{on_ok_weaker}
use Rattle.puffin_data.specs.Honesty.{facts_of}
use Rattle.puffin_threads.specs.Thread.ThreadKey.{key_of}
use Rattle.puffin_look.proofs.Traced.{stream_traced}
use Rattle.puffin_look.proofs.trace.Trace.add_stream.Goals as goal

pub returns-clause-ok : goal.returns-clause-ok
returns-clause-ok c =
    on_ok_weaker c.add_stream.result
    (λ (forest, spelled, events).
    let (is_number, numbered) = c.in_ok-self.ensures.ok in
    stream_traced c.args.self.now c.number.new.self c.add_stream.new.self (key_of c.args.thread.now)
    (facts_of c.args.info.now) c.in_ok-self.field-0 forest is_number numbered spelled events)
    c.add_stream.ensures.ok
