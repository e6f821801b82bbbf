-- The replies so far belong to the commands so far, and there is room for the others.
use Rattle.std.proofs.Common.{◌≡◌, ◌≤◌, length, take, All, vec_len, vec_capacity}
use Rattle.puffin_session.specs.Session.Runs.{HasIds}
use Rattle.puffin_session.proofs.Running.{RunsTo}
use Rattle.puffin_session.proofs.session.Session.run.Given as goal

abbrev pub invariant-loop-command : goal.invariant-loop-command
invariant-loop-command l = record {
  ran : RunsTo l.fn.self l.self (take l.command-index l.commands) l.replies.items;
  ids : All HasIds l.replies.items;
  room : length l.commands ≤ vec_capacity l.replies;
  filled : vec_len l.replies ≡ l.command-index;
}
