-- What the collector answers and leaves is what the session answers and leaves.
use Rattle.puffin_session.proofs.SessionCloses.{Collects-from, KeepsPending-from, last-from}
use Rattle.puffin_session.proofs.session.Session.new_frame.Goals as goal

pub returns-clause-ok : goal.returns-clause-ok
returns-clause-ok c = Collects-from _ _ _ _ c.self.view_is c.collect_frame.ensures.exhausted c.collect_frame.ensures.ok

pub returns-clause-err : goal.returns-clause-err
returns-clause-err c = KeepsPending-from _ _ _ _ c.self.view_is c.collect_frame.ensures.err

pub returns-clause-last : goal.returns-clause-last
returns-clause-last c = last-from _ _ _ c.self.view_is c.collect_frame.ensures.exhausted
