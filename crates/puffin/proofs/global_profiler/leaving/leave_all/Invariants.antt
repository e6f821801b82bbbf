-- The shares so far are merged, and each has left the history with a last entry.
use Rattle.std.specs.Prelude.{◌≡◌, ◌++◌, length}
use Rattle.puffin.specs.Members.{all_reported, all_handed}
use Rattle.puffin.specs.Leaving.{accounts_of, last_entries, AreAuthors}
use Rattle.puffin.proofs.global_profiler.leaving.leave_all.Given as goal

abbrev pub invariant-loop-share : goal.invariant-loop-share
invariant-loop-share g l = record {
  log_authors : l.log.authors ≡ l.initial.log.authors;
  entries : l.log.entries ≡ l.initial.log.entries ++ last_entries (accounts_of l.yielded);
  authors : AreAuthors l.initial.log.authors (accounts_of l.yielded) l.initial.log.entries;
  reported_parts : l.reported.parts ≡ length l.yielded;
  handed_parts : l.handed.parts ≡ length l.yielded;
  reported : l.reported.amount ≡ all_reported l.yielded;
  handed : l.handed.amount ≡ all_handed l.yielded;
}
