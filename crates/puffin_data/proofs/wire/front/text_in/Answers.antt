-- Where stored bytes are no text, no text begins.
use Rattle.std.proofs.Common.{rules, ◌≡◌, None}
use Rattle.puffin_data.specs.Value.Layout.{block, IsText}
use Rattle.puffin_data.specs.Value.Decoding.{text_at}
use Rattle.puffin_data.proofs.lemmas.Readers.{none_begins}
use Rattle.puffin_data.proofs.lemmas.ValueReaders.{text_reader}
use Rattle.puffin_data.proofs.wire.front.text_in.Goals as goal

pub returns-in_err-text-clause-reads : goal.returns-in_err-text-clause-reads
returns-in_err-text-clause-reads c =
    let none : text_at c.args.bytes.now ≡ None = search rules in
    let begins = none_begins IsText block text_at text_reader c.args.bytes.now none in
    rw c.from_residual-in_err-text.ensures begins
