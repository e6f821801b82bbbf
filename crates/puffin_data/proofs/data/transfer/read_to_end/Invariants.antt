-- The bytes so far were taken from the reader.
use Rattle.std.proofs.Common.{◌≡◌, ◌-◌, ◌^◌, vec_len}
use Rattle.std.specs.Io.KnownBytes.{Consumes}
use Rattle.puffin_data.proofs.data.transfer.read_to_end.Given as goal

abbrev pub invariant-pieces : goal.invariant-pieces
invariant-pieces g l = record {
  consumed : Consumes (g.S.Source.remaining l.initial.source) (g.S.Source.remaining l.source) l.bytes.items;
  failures : g.S.Source.failures l.source ≡ g.S.Source.failures l.initial.source;
}

abbrev pub decreases-pieces : goal.decreases-pieces
decreases-pieces g l = 2 ^ 64 - vec_len l.bytes
