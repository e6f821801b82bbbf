-- The lines so far and those that are to come are all lines.
use Rattle.std.proofs.Common.{◌≡◌, ◌++◌}
use Rattle.std.specs.String.{string_bytes}
use Rattle.std.specs.Iterator.Adapters.{zip_first, zip_second}
use Rattle.std.specs.Slice.Iter.{iter_rest}
use Rattle.puffin_replay.specs.Program.ReplyLines.{reply_lines}
use Rattle.puffin_replay.proofs.replay.reply_line.reply_lines.Given as goal

abbrev pub invariant-loop-number : goal.invariant-loop-number
invariant-loop-number l =
    string_bytes l.lines
    ++ reply_lines (iter_rest (zip_first l.number-iterator)) (iter_rest (zip_second l.number-iterator))
    ≡ reply_lines l.numbers l.replies
