-- A length of up to 127 is one byte in both forms.
use Rattle.std.proofs.Common.{length, arith}
use Rattle.puffin_data.proofs.lemmas.Lengths.{one_group}
use Rattle.puffin_data.proofs.data.stream.Stream.begin_within.Goals as goal

pub write_begin-requires-clause-layout : goal.write_begin-requires-clause-layout
write_begin-requires-clause-layout c =
    one_group c.args.self.now.form (length c.args.text.now) (omega (arith, c.if-text-le-ONE_GROUP.true))
