-- Nothing was reported, but where a scope begins behind a report.
use Rattle.std.proofs.Common.{rules, refl, subst, inl}
use Rattle.puffin.specs.Guards.{BeginsAt}
use Rattle.puffin.proofs.light.thread.ThreadRecords.begin.Goals as goal

pub returns-then-not-are_scopes_on : goal.returns-then-not-are_scopes_on
returns-then-not-are_scopes_on g c = (
  c.args.self.now,
  inl refl,
  record {
    begins = refl;
    reporter = refl;
    scopes = refl;
    refused = refl;
  },
)

pub returns-then-not-know : goal.returns-then-not-know
returns-then-not-know g c = (c.args.self.now, inl refl, search rules)

pub returns-in-Ok : goal.returns-in-Ok
returns-in-Ok g c = (c.args.self.now, inl refl, search rules)

-- the thread that was refused is the one before
pub returns-in-Err : goal.returns-in-Err
returns-in-Err g c =
    subst (λ p. BeginsAt g.C.NsSource.answers g.P.Reporter.accepts g.P.Reporter.refuses
    (record c.args.self.now { profiler = p }) c.args.place.now c.args.text.now
    c.begin_behind_report.result c.begin_behind_report.new.self)
    c.in-Err.ensures.unchanged c.begin_behind_report.ensures
