-- What is read was laid out, and what is laid out is read.
use Rattle.puffin_data.specs.Value.Layout.{byte, number, signed, flag, block, IsByte, IsU32, IsLong, IsSigned, IsAny, IsBlock, IsText}
use Rattle.puffin_data.specs.Value.Decoding.{byte_at, number_at, u32_at, signed_at, flag_at, bytes_at, text_at}
use Rattle.puffin_data.proofs.lemmas.Readers.{reads_layouts}
use Rattle.puffin_data.proofs.lemmas.ValueReaders.{byte_reader, number_reader, word_reader, signed_reader, flag_reader, bytes_reader, text_reader}
use Rattle.puffin_data.proofs.laws.only_layouts_are_read.Goals as goal

pub returns-clause-bytes : goal.returns-clause-bytes
returns-clause-bytes c bytes value rest = reads_layouts IsByte byte byte_at byte_reader bytes value rest

pub returns-clause-numbers : goal.returns-clause-numbers
returns-clause-numbers c bytes value rest = reads_layouts IsLong number number_at number_reader bytes value rest

pub returns-clause-words : goal.returns-clause-words
returns-clause-words c bytes value rest = reads_layouts IsU32 number u32_at word_reader bytes value rest

pub returns-clause-signed : goal.returns-clause-signed
returns-clause-signed c bytes value rest = reads_layouts IsSigned signed signed_at signed_reader bytes value rest

pub returns-clause-flags : goal.returns-clause-flags
returns-clause-flags c bytes value rest = reads_layouts IsAny flag flag_at flag_reader bytes value rest

pub returns-clause-blocks : goal.returns-clause-blocks
returns-clause-blocks c bytes value rest = reads_layouts IsBlock block bytes_at bytes_reader bytes value rest

pub returns-clause-texts : goal.returns-clause-texts
returns-clause-texts c bytes value rest = reads_layouts IsText block text_at text_reader bytes value rest
