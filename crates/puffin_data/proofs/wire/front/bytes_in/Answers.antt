-- What is read is the layout of bytes, and nothing is read only where none begins.
use Rattle.std.proofs.Common.{rules, ◌≡◌, Some, None, arith}
use Rattle.puffin_data.specs.Value.Layout.{block, IsBlock, IsBytes}
use Rattle.puffin_data.specs.Value.Decoding.{bytes_at}
use Rattle.puffin_data.proofs.lemmas.Readers.{none_begins}
use Rattle.puffin_data.proofs.lemmas.ValueReaders.{bytes_reader}
use Rattle.puffin_data.proofs.wire.front.bytes_in.Goals as goal

pub returns-then-rest-len-clause-reads : goal.returns-then-rest-len-clause-reads
returns-then-rest-len-clause-reads c =
    let none : bytes_at c.args.bytes.now ≡ None = search rules in
    none_begins IsBlock block bytes_at bytes_reader c.args.bytes.now none

pub returns-clause-reads : goal.returns-clause-reads
returns-clause-reads c =
    let bytes : IsBytes c.args.bytes.now = λ index. omega (arith, c.type_inv.bytes index) in
    let given : bytes_at c.args.bytes.now ≡ Some (c.split_at.result.0.now, c.split_at.result.1.now) = search rules in
    bytes_reader.taken c.args.bytes.now c.split_at.result.0.now c.split_at.result.1.now bytes given
