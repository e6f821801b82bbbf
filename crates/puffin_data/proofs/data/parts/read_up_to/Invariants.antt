-- The buffer's front, up to `end`, is what was taken from the reader.
use Rattle.std.proofs.Common.{◌≡◌, ◌-◌, ◌≤◌, length, take}
use Rattle.std.specs.Io.KnownBytes.{Consumes}
use Rattle.puffin_data.specs.Value.Layout.{IsBytes}
use Rattle.puffin_data.proofs.data.parts.read_up_to.Given as goal

abbrev pub invariant-reads : goal.invariant-reads
invariant-reads g l = record {
  size : length l.buf ≡ length l.initial.buf;
  within : l.end ≤ length l.buf;
  consumed : Consumes (g.S.Source.remaining l.initial.source) (g.S.Source.remaining l.source) (take l.end l.buf);
  are_bytes : IsBytes (take l.end l.buf);
  failures : g.S.Source.failures l.source ≡ g.S.Source.failures l.initial.source;
}

abbrev pub decreases-reads : goal.decreases-reads
decreases-reads g l = length l.buf - l.end
