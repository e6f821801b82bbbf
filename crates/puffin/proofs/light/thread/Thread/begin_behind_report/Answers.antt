-- What waited was reported, or not; then the scope began, or was refused.
use Rattle.std.proofs.Common.{rules, inr}
use Rattle.puffin.proofs.light.thread.Thread.begin_behind_report.Goals as goal

pub returns-in-Ok : goal.returns-in-Ok
returns-in-Ok g c = (
  c.report_closed.new.self,
  inr (record {
    answer = c.report_closed.result;
    reports = c.report_closed.ensures.reports;
    clock = c.report_closed.ensures.clock;
    scopes = c.report_closed.ensures.scopes;
    refused = c.report_closed.ensures.refused;
  }),
  search rules,
)

pub returns-in-Err : goal.returns-in-Err
returns-in-Err g c = (
  c.report_closed.new.self,
  inr (record {
    answer = c.report_closed.result;
    reports = c.report_closed.ensures.reports;
    clock = c.report_closed.ensures.clock;
    scopes = c.report_closed.ensures.scopes;
    refused = c.report_closed.ensures.refused;
  }),
  search rules,
)
