-- Up to `end` are the bytes from before and those that were taken from the reader, behind it are zeros.
use Rattle.std.proofs.Common.{◌≡◌, ◌-◌, ◌≤◌, ◌++◌, List, ℕ, length, take, vec_len}
use Rattle.std.specs.Io.KnownBytes.{Consumes}
use Rattle.puffin_data.proofs.data.device.Source.read_to_len.Given as goal

abbrev pub invariant-reads : goal.invariant-reads
invariant-reads g l = record {
  size : length l.bytes.items ≡ l.len;
  within : l.end ≤ length l.bytes.items;
  filled :
      (taken : List ℕ)
      × (take l.end l.bytes.items ≡ take l.initial.end l.initial.bytes.items ++ taken)
      × Consumes (g.Self.Source.remaining l.initial.self)
      (g.Self.Source.remaining l.self) taken;
  failures : g.Self.Source.failures l.self ≡ g.Self.Source.failures l.initial.self;
}

abbrev pub decreases-reads : goal.decreases-reads
decreases-reads g l = vec_len l.bytes - l.end
