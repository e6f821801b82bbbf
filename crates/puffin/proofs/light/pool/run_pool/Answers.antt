-- What a pool's frames show of its jobs.
use Rattle.std.proofs.Common.{length, map}
use Rattle.puffin.specs.declared.light.pool.Jobs.{Jobs}
use Rattle.puffin.specs.Places.{details_in}
use Rattle.puffin.specs.Telling.{Named}
use Rattle.puffin.proofs.ShownPools.{pool_shows_if}
use Rattle.puffin.proofs.light.pool.run_pool.Goals as goal

pub returns-clause-shows : goal.returns-clause-shows
returns-clause-shows g c =
    let W = g.W.Pool in
    pool_shows_if _ (λ (jobs : Jobs g.row.W.Denot). W.states jobs.pool.now)
    (λ (jobs : Jobs g.row.W.Denot). Named (W.names jobs.pool.now) (W.runs jobs.pool.now))
    (λ (jobs : Jobs g.row.W.Denot). W.leads jobs.pool.now) (λ (jobs : Jobs g.row.W.Denot). W.takes jobs.pool.now)
    (length (details_in c.args.scopes.now)) c.args.settings.now.leader.now (map (λ name. name.now) c.deref.result.now)
    (record { pool = c.args.pool }) c.run_named.result c.run_named.ensures.told
