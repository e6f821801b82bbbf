-- The scope's path has its duration, and so has the path around it.
--
-- `path`: the path was made first; `first`: its time was added. `scope_nested` says that the second step gives all parts of the scope.
use Rattle.std.proofs.Common.{ap, ◌∙◌}
use Rattle.std.specs.Prelude.{Some}
use Rattle.puffin_look.specs.Folded.{label}
use Rattle.puffin_look.specs.inner.Stacks.{rows_in, rows_of, with_part}
use Rattle.puffin_look.proofs.StackRows.{scope_nested, place_nested}
use Rattle.puffin_look.proofs.stacks.Stacks.add_scope.Goals as goal

pub returns-in-Some-clause-added : goal.returns-in-Some-clause-added
returns-in-Some-clause-added c =
    let set = c.in_ok-set_path.ensures in
    let path = c.deref.ensures.value ∙ set.path in
    let first = c.in_ok-place.ensures.rows
    ∙ (λ i. with_part (rows_in ((set.rows i).entries)) (record { path = path i; whole = c.args.time; nested = 0 })) in
    record {
      rows = scope_nested (rows_of c.args.self.now) (rows_in c.add_time.new.rows.entries) (rows_in c.grow.new.rows.entries)
          (label c.args.self.now.known.now c.args.id) c.args.time c.args.outer c.in-Some.outer c.in-Some.is c.requires.outer first
          c.grow.ensures;
      known = set.known;
    }

pub returns-in-Some-clause-place : goal.returns-in-Some-clause-place
returns-in-Some-clause-place c =
    let set = c.in_ok-set_path.ensures in
    let path = c.deref.ensures.value ∙ set.path in
    let first = c.in_ok-place.ensures.rows
    ∙ (λ i. with_part (rows_in ((set.rows i).entries)) (record { path = path i; whole = c.args.time; nested = 0 })) in
    place_nested (rows_of c.args.self.now) (rows_in c.add_time.new.rows.entries) (rows_in c.grow.new.rows.entries)
    (label c.args.self.now.known.now c.args.id) c.args.time c.args.outer c.in-Some.outer c.in-Some.is c.requires.outer first
    c.grow.ensures
    c.in_ok-place.place _ (c.in_ok-place.ensures.place ∙ ap Some path)
