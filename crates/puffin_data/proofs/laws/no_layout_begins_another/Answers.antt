-- What begins with a layout is read as its value, so two layouts at the front have one value.
use Rattle.puffin_data.specs.Value.Layout.{byte, number, signed, flag, block, IsByte, IsLong, IsSigned, IsAny, IsBlock}
use Rattle.puffin_data.specs.Value.Decoding.{byte_at, number_at, signed_at, flag_at, bytes_at}
use Rattle.puffin_data.proofs.lemmas.Readers.{begins_no_other}
use Rattle.puffin_data.proofs.lemmas.ValueReaders.{byte_reader, number_reader, signed_reader, flag_reader, bytes_reader}
use Rattle.puffin_data.proofs.laws.no_layout_begins_another.Goals as goal

pub returns-clause-bytes : goal.returns-clause-bytes
returns-clause-bytes c one other rest other_rest = begins_no_other IsByte byte byte_at byte_reader one other rest other_rest

pub returns-clause-numbers : goal.returns-clause-numbers
returns-clause-numbers c one other rest other_rest = begins_no_other IsLong number number_at number_reader one other rest other_rest

pub returns-clause-signed : goal.returns-clause-signed
returns-clause-signed c one other rest other_rest = begins_no_other IsSigned signed signed_at signed_reader one other rest other_rest

pub returns-clause-flags : goal.returns-clause-flags
returns-clause-flags c one other rest other_rest = begins_no_other IsAny flag flag_at flag_reader one other rest other_rest

pub returns-clause-blocks : goal.returns-clause-blocks
returns-clause-blocks c one other rest other_rest = begins_no_other IsBlock block bytes_at bytes_reader one other rest other_rest
