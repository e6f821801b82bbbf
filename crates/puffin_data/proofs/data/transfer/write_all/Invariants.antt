-- The bytes up to `at` were appended to the writer.
use Rattle.std.proofs.Common.{◌≡◌, ◌-◌, ◌≤◌, length, take}
use Rattle.std.specs.Io.KnownBytes.{Appends}
use Rattle.puffin_data.proofs.data.transfer.write_all.Given as goal

abbrev pub invariant-pieces : goal.invariant-pieces
invariant-pieces g l = record {
  most : l.at ≤ length l.bytes;
  written : Appends (g.D.Drain.contents l.initial.drain) (g.D.Drain.contents l.drain) (take l.at l.bytes);
  failures : g.D.Drain.failures l.drain ≡ g.D.Drain.failures l.initial.drain;
}

abbrev pub decreases-pieces : goal.decreases-pieces
decreases-pieces g l = length l.bytes - l.at
