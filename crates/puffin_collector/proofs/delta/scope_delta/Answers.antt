-- The new details have ids, and so have those of the collection.
use Rattle.std.proofs.Common.{◌≡◌, sym, ap, ◌∙◌, subst, arith, take_all}
use Rattle.std.specs.Prelude.{IsSome}
use Rattle.std.proofs.lemmas.List.Elements.{All-append}
use Rattle.puffin_threads.specs.Details.{Details, shared_details, AllHaveIds}
use Rattle.puffin_collector.specs.Collector.State.{all_details}
use Rattle.puffin_collector.proofs.Owning.{all_have_ids}
use Rattle.puffin_collector.proofs.delta.scope_delta.Goals.{then-wants_all+in_ok-append_all, else-wants_all}
use Rattle.puffin_collector.proofs.delta.scope_delta.Goals as goal

pub returns-clause-ids : goal.returns-clause-ids
returns-clause-ids c =
    let new = c.args.new_details.now in
    let collection = c.args.collection.now in
    let copies = shared_details c.loop-details.delta.items in
    let copied : copies ≡ shared_details new = c.loop-details.invariant
    ∙ ap shared_details (take_all c.loop-details.details-index new (omega (arith, c.loop-details-test.false))) in
    let have : AllHaveIds copies = subst AllHaveIds (sym copied) c.requires in
    let all : AllHaveIds (shared_details c.if-wants_all.delta.items) =
    elim c.if-wants_all.branch [
      | then-wants_all+in_ok-append_all wanted ↦
          let appended = wanted.in_ok-append_all.ensures in
          let both = All-append (λ (one : Details). IsSome one.id) copies (all_details collection) have
          (all_have_ids collection appended.own) in
          subst (λ details. AllHaveIds (shared_details details)) (sym (ap (λ list. list.items) wanted.delta-is))
          (subst AllHaveIds (sym appended.ok) both)
      | else-wants_all unwanted ↦
          subst (λ details. AllHaveIds (shared_details details)) (sym (ap (λ list. list.items) unwanted.delta-is)) have
    ] in
    all
