-- Giving up scopes that no report has handed over.
use Rattle.std.specs.Prelude.{[]}
use Rattle.puffin_threads.specs.Thread.Calls.{Thread}

-- after giving up the closed scopes, whose details stay for the next report
abbrev pub after_discarding : Thread → Thread
after_discarding thread = record thread { word = [] }
