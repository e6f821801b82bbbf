-- The scope's name has its duration, and so has the name around it.
--
-- `named`: the name has a row; `at`: its place.
use Rattle.std.proofs.Common.{ap, ◌∙◌, refl}
use Rattle.std.specs.Prelude.{Some}
use Rattle.puffin_look.specs.inner.Tallies.{rows_in, rows_of, with_row}
use Rattle.puffin_look.proofs.TallyRows.{scope_added, place_still, call_at}
use Rattle.puffin_look.proofs.tallies.Tallies.add_scope.Goals as goal

pub returns-in-Some-clause-added : goal.returns-in-Some-clause-added
returns-in-Some-clause-added c =
    let named = c.in_ok-place.ensures.rows ∙ ap (with_row (rows_of c.args.self.now)) c.deref.ensures.value in
    let at = c.in_ok-place.ensures.place ∙ ap Some c.deref.ensures.value in
    record {
      rows =
          scope_added (rows_of c.args.self.now) (rows_in c.place_of.new.rows.entries) (rows_in c.add_call.new.rows.entries)
          (rows_in c.add_nested.new.rows.entries) c.args.self.now.name.items c.args.time c.in_ok-place.place
          named (c.in_ok-add_call.ensures _ at) at c.args.outer c.in-Some.outer c.in-Some.is c.requires.outer c.add_nested.ensures;
      known = refl;
      texts = refl;
    }

pub returns-in-Some-clause-place : goal.returns-in-Some-clause-place
returns-in-Some-clause-place c =
    let named = c.in_ok-place.ensures.rows ∙ ap (with_row (rows_of c.args.self.now)) c.deref.ensures.value in
    let at = c.in_ok-place.ensures.place ∙ ap Some c.deref.ensures.value in
    place_still (rows_of c.args.self.now) (rows_in c.place_of.new.rows.entries) (rows_in c.add_call.new.rows.entries)
    (rows_in c.add_nested.new.rows.entries) c.args.self.now.name.items c.args.time c.in_ok-place.place
    named (c.in_ok-add_call.ensures _ at) at c.args.outer c.in-Some.outer c.in-Some.is c.requires.outer c.add_nested.ensures

pub returns-in_default-clause-place : goal.returns-in_default-clause-place
returns-in_default-clause-place c =
    let named = c.in_ok-place.ensures.rows ∙ ap (with_row (rows_of c.args.self.now)) c.deref.ensures.value in
    let at = c.in_ok-place.ensures.place ∙ ap Some c.deref.ensures.value in
    call_at (rows_of c.args.self.now) (rows_in c.place_of.new.rows.entries) (rows_in c.add_call.new.rows.entries)
    (rows_in c.add_call.new.rows.entries) c.args.self.now.name.items c.args.time c.in_ok-place.place
    named (c.in_ok-add_call.ensures _ at) at
