-- The lines so far and those of the threads that are left are all lines.
use Rattle.std.proofs.Common.{◌++◌, map}
use Rattle.puffin_threads.specs.Thread.ThreadKey.{key_entries}
use Rattle.puffin_look.specs.Forms.{opening, lines_text}
use Rattle.puffin_look.specs.ThreadLines.{thread_line, column_names}
use Rattle.puffin_look.proofs.Lined.{Lists}
use Rattle.puffin_look.proofs.threads.text_of.Given as goal

abbrev pub invariant-threads : goal.invariant-threads
invariant-threads l =
    Lists l.lines (map (thread_line l.form) (key_entries l.thread-iterator))
    (opening l.form column_names ++ lines_text l.form (map (thread_line l.form) (key_entries l.threads.totals.entries)))
