-- What was appended so far was taken from the reader.
use Rattle.std.proofs.Common.{◌≡◌, ◌++◌, ◌≤◌, ◌-◌, ℕ, List, length, vec_len}
use Rattle.std.specs.Io.KnownBytes.{Consumes}
use Rattle.puffin_data.proofs.data.buffered.append_to_len.Given as goal

abbrev pub invariant-pieces : goal.invariant-pieces
invariant-pieces g l = record {
  most : length l.bytes.items ≤ l.len;
  grown : (taken : List ℕ) × (l.bytes.items ≡ l.initial.bytes.items ++ taken) × Consumes (g.B.Read.remaining l.initial.reader)
      (g.B.Read.remaining l.reader) taken;
}

abbrev pub decreases-pieces : goal.decreases-pieces
decreases-pieces g l = l.len - vec_len l.bytes
