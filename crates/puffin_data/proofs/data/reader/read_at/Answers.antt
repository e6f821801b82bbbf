-- A sound scope has passed what its telling asks.
use Rattle.std.proofs.Common.{arith}
use Rattle.puffin_data.proofs.Lenience.{found_is_convertible}
use Rattle.puffin_data.proofs.data.reader.read_at.Goals as goal

pub to_scope-requires-clause-id : goal.to_scope-requires-clause-id
to_scope-requires-clause-id c =
    (found_is_convertible c.args.form c.args.bytes.now c.args.at c.args.end c.in_ok-scope_in.field-0 c.in-Some.found c.requires.ordered
    c.requires.within c.in_ok-scope_in.ensures c.in-Some.is).id

pub to_scope-requires-clause-fits : goal.to_scope-requires-clause-fits
to_scope-requires-clause-fits c =
    (found_is_convertible c.args.form c.args.bytes.now c.args.at c.args.end c.in_ok-scope_in.field-0 c.in-Some.found c.requires.ordered
    c.requires.within c.in_ok-scope_in.ensures c.in-Some.is).fits

pub to_scope-requires-clause-begins : goal.to_scope-requires-clause-begins
to_scope-requires-clause-begins c =
    (found_is_convertible c.args.form c.args.bytes.now c.args.at c.args.end c.in_ok-scope_in.field-0 c.in-Some.found c.requires.ordered
    c.requires.within c.in_ok-scope_in.ensures c.in-Some.is).begins

pub to_scope-requires-clause-ends : goal.to_scope-requires-clause-ends
to_scope-requires-clause-ends c =
    (found_is_convertible c.args.form c.args.bytes.now c.args.at c.args.end c.in_ok-scope_in.field-0 c.in-Some.found c.requires.ordered
    c.requires.within c.in_ok-scope_in.ensures c.in-Some.is).ends

pub to_scope-requires-clause-within : goal.to_scope-requires-clause-within
to_scope-requires-clause-within c =
    omega (
      arith,
      (found_is_convertible c.args.form c.args.bytes.now c.args.at c.args.end c.in_ok-scope_in.field-0 c.in-Some.found
          c.requires.ordered c.requires.within c.in_ok-scope_in.ensures c.in-Some.is).within,
    )
