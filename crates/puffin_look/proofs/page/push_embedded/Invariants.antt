-- The bytes so far.
use Rattle.std.proofs.Common.{◌≡◌, ◌++◌, take}
use Rattle.puffin_look.specs.Page.{embedded}
use Rattle.puffin_look.proofs.page.push_embedded.Given as goal

abbrev pub invariant-loop-byte : goal.invariant-loop-byte
invariant-loop-byte l = l.text.items ≡ l.initial.text.items ++ embedded (take l.byte-index l.json)
