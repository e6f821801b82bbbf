-- A scope's fields are those of its node as it is placed, and its children's forest is that of their list.
use Rattle.std.proofs.Common.{◌∙◌, w64, arith, FitsSigned}
use Rattle.std.proofs.lemmas.Int.{to_z_pos, to_z-of_z, ints}
use Rattle.puffin_merge.specs.Merge.Tree.{merged}
use Rattle.puffin_merge.specs.Merge.Scopes.{forest_in}
use Rattle.puffin_merge.proofs.Attaching.{made_then, held_is}
use Rattle.puffin_merge.proofs.merge.tree.make_scope.Goals as goal

pub returns-clause-ok : goal.returns-clause-ok
returns-clause-ok c =
    let fits : FitsSigned w64 c.args.placement.now.start = omega (arith, ints, c.well_formed) in
    let start = to_z-of_z w64 c.args.placement.now.start fits in
    let small : FitsSigned w64 c.per_frame.result = omega (arith, ints, c.per_frame.type_inv) in
    let per_frame = to_z-of_z w64 c.per_frame.result small ∙ c.per_frame.ensures in
    let id =
    held_is c.new.result _ c.args.ordered.now.id c.unwrap.result c.new.ensures c.requires.id c.unwrap.ensures in
    let total = to_z_pos w64 c.args.sums.now.total c.requires.small in
    let greatest = to_z_pos w64 c.args.sums.now.greatest c.requires.greatest in
    λ others. made_then _ _ _ _ _ _ _ c.args.children others
    ∙ (λ i. merged (record {
      label = record { id = id i; text = c.in_ok-text.ensures.ok i };
      start = start i;
      total = total i;
      per_frame = per_frame i;
      greatest = greatest i;
      pieces = c.args.sums.now.number;
    })
    (forest_in c.args.children.items) others)
