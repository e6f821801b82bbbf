-- Where a number doesn't fit 32 bits, no number begins that does.
use Rattle.std.proofs.Common.{rules, ◌≡◌, None}
use Rattle.puffin_data.specs.Value.Layout.{number, IsU32}
use Rattle.puffin_data.specs.Value.Decoding.{u32_at}
use Rattle.puffin_data.proofs.lemmas.Readers.{none_begins}
use Rattle.puffin_data.proofs.lemmas.ValueReaders.{word_reader}
use Rattle.puffin_data.proofs.wire.front.u32_in.Goals as goal

pub returns-else-number-lt4294967296-clause-reads : goal.returns-else-number-lt4294967296-clause-reads
returns-else-number-lt4294967296-clause-reads c =
    let none : u32_at c.args.bytes.now ≡ None = search rules in
    none_begins IsU32 number u32_at word_reader c.args.bytes.now none
