-- What all threads told, and the history of their shares.
use Rattle.std.proofs.Common.{rules}
use Rattle.puffin.proofs.light.started.run.Goals as goal

pub returns-clause-told : goal.returns-clause-told
returns-clause-told g c =
    let crew = c.args.crew in let joined = c.in_ok-joined.joined in let settled = c.settle.ensures in
    record {
      shares = joined.shares.items;
      log = settled.history.0;
      pending = settled.history.1;
      are = search rules;
      handed = settled.handed;
      left = settled.history.3;
      recounts = search rules;
    }
