-- A call was added to the name at the place, and to no others.
use Rattle.std.proofs.Common.{true, sym, ap, ◌∙◌}
use Rattle.std.specs.Option.{option_copied_mut}
use Rattle.std.proofs.lemmas.Result.{on_ok_weaker}
use Rattle.puffin_look.proofs.TallyRows.{row_grown}
use Rattle.puffin_look.proofs.tallies.add_call.Goals as goal

pub returns : goal.returns
returns c =
    let value = sym c.get_index_mut.ensures.value ∙ ap option_copied_mut c.in-Some.is in
    on_ok_weaker c.add_call.result
    (λ more. λ name at. row_grown (record { name = name; is_call = true; time = c.args.time }) c.args.rows.now.entries
    c.args.place c.in-Some.tally.now c.add_call.new.self more at value c.get_index_mut.ensures.unique) c.add_call.ensures
