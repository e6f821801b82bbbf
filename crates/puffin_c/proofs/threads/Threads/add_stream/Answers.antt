-- The thread's totals so far and the stream's are inserted under the thread.
use Rattle.puffin_data.specs.Honesty.{facts_of}
use Rattle.puffin_c.proofs.ThreadsCounted.{stream_added}
use Rattle.puffin_c.proofs.threads.Threads.add_stream.Goals as goal

pub returns-clause-ok : goal.returns-clause-ok
returns-clause-ok c =
    stream_added c.args.self.now.totals.entries c.insert.new.self.entries c.in_ok-clone.field-0 c.args.thread.now _ _
    (facts_of c.args.info.now) c.in_ok-insert.ensures.entries c.in_ok-clone.ensures.ok c.totals_under.ensures
    c.with-totals.ensures
