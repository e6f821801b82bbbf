-- No details before had the number of this registration.
use Rattle.std.proofs.Common.{◌≡◌, ◌+◌, [], ◌∷◌, ◌++◌, length, ap, ◌∙◌, arith}
use Rattle.std.proofs.lemmas.Grind.{common_steps}
use Rattle.puffin_threads.specs.Details.{details_of, with_id, shared_details}
use Rattle.puffin_threads.specs.Details.Collection.{first_with_id}
use Rattle.puffin.specs.Places.{details_in}
use Rattle.puffin.proofs.Registered.{found_last}
use Rattle.puffin.proofs.light.scopes.Scopes.register.Goals as goal

pub returns-clause-ok : goal.returns-clause-ok
returns-clause-ok g =
    let old = details_in g.args.self.now in
    let details = details_of g.args.details in
    let id = g.new-3.result.id in
    let number : id ≡ length old + 1 = grind (arith, common_steps) in
    let added : shared_details g.push.new.self.items ≡ old ++ (with_id details id ∷ []) = grind (arith, common_steps) in
    record {
      number = number;
      added = added;
      found = ap (first_with_id id) added ∙ found_last old details id g.args.self.now.in_order number;
    }
