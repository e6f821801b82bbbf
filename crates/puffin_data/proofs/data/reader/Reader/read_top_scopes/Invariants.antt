-- The scopes so far are those that the reader gave.
use Rattle.puffin_data.proofs.AllRead.{HasRead}
use Rattle.puffin_data.proofs.data.reader.Reader.read_top_scopes.Given as goal

abbrev pub invariant-loop-next : goal.invariant-loop-next
invariant-loop-next l = HasRead l.fn.self l.reader l.scopes.items
