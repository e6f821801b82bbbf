-- There are three ways through an insertion: the id is there, it is new, or it is new and is taken out again.
use Rattle.std.proofs.Common.{◌≡◌, Some, None, option_map, option_copied, ap, sym, ◌∙◌}
use Rattle.std.specs.Ordering.{nat_cmp}
use Rattle.std.specs.FinMap.{FinMap, get, insert}
use Rattle.std.specs.Arc.{arc_value}
use Rattle.puffin_threads.specs.Details.{Details, details_of, name_of}
use Rattle.puffin_threads.specs.Details.Collection.{Collection, with_details, by_ids, by_names}
use Rattle.puffin_threads.specs.inner.HeldCollection.{collection_in}
use Rattle.puffin_threads.proofs.Inserting.{get-by_ids, by_ids-insert, own_ids_put, kept_inserted, fresh_inserted, kept_is, get-put, undone}
use Rattle.puffin_threads.proofs.scope_details.collection.ScopeCollection.insert.Goals as goal

-- where details are there under the id

under_id : (c : goal.After-drop-details-in-Some-get) → (details_of (arc_value c.args.details)).id ≡ Some c.in-Some.id
under_id c = ap (λ x. (details_of x).id) (sym c.deref.ensures) ∙ sym c.scope_id.ensures ∙ c.in-Some.is

there : (c : goal.After-drop-details-in-Some-get) →
    get (by_ids c.self.inside.by_id.entries) c.in-Some.id ≡ Some (details_of (arc_value c.in-Some-get.kept.now))
there c =
    get-by_ids c.self.inside.by_id.entries c.in-Some.id
    ∙ ap (option_map (λ x. details_of (arc_value x))) (sym c.get.ensures.value ∙ ap option_copied c.in-Some-get.is)

pub returns-in-Some-get-clause-ok : goal.returns-in-Some-get-clause-ok
returns-in-Some-get-clause-ok c =
    let given = details_of (arc_value c.args.details) in
    let name : c.as_str.result.now ≡ name_of given =
    c.as_str.ensures.value ∙ c.name.ensures ∙ ap (λ x. name_of (details_of x)) c.deref-in-Some-get.ensures in
    let named = c.in_ok-put_name.ensures.ok ∙ ap (λ n. insert (by_names c.self.inside.by_name.entries) n c.in-Some.id) name in
    kept_inserted (collection_in c.self.inside) given c.in-Some.id (details_of (arc_value c.in-Some-get.kept.now))
    (by_names c.put_name.new.by_name.entries) (under_id c) (there c) named
    ∙ ap (λ (seen : Collection). with_details seen given) c.self.view_is

pub returns-in-Some-get-clause-kept : goal.returns-in-Some-get-clause-kept
returns-in-Some-get-clause-kept c =
    let after : Collection =
    record { by_id = by_ids c.self.inside.by_id.entries; by_name = by_names c.put_name.new.by_name.entries } in
    kept_is after (details_of (arc_value c.args.details)) c.in-Some.id (details_of (arc_value c.in_ok-kept.kept))
    (under_id c) (there c ∙ ap (λ x. Some (details_of x)) (sym c.in_ok-kept.ensures))

-- where the name couldn't be put

back : (c : goal.After-drop-kept-in-Err) → by_ids c.remove-undone.new.self.entries ≡ by_ids c.self.inside.by_id.entries
back c =
    let none = sym c.get.ensures.value ∙ ap option_copied c.in_default-get.is in
    undone c.self.inside.by_id c.insert.new.self c.remove-undone.new.self c.in-Some.id c.args.details none
    c.in_ok-_none.ensures.updates c.remove-undone.ensures.updates

pub invariant_of-self-in-Err : goal.invariant_of-self-in-Err
invariant_of-self-in-Err c id d found =
    c.self.invariant id d (ap (λ (m : FinMap nat_cmp Details). get m id) (sym (back c)) ∙ found)

pub returns-in-Err-clause-err : goal.returns-in-Err-clause-err
returns-in-Err-clause-err c = (λ i. record { by_id = back c i; by_name = c.in-Err.ensures.err i }) ∙ c.self.view_is

-- where the details are the first under the id

pub invariant_of-self-in_default-put_name : goal.invariant_of-self-in_default-put_name
invariant_of-self-in_default-put_name c =
    let given = details_of (arc_value c.args.details) in
    let is : given.id ≡ Some c.in-Some.id =
    ap (λ x. (details_of x).id) (sym c.deref.ensures) ∙ sym c.scope_id.ensures ∙ c.in-Some.is in
    let put : by_ids c.insert.new.self.entries ≡ insert (by_ids c.self.inside.by_id.entries) c.in-Some.id given =
    ap by_ids c.in_ok-_none.ensures.entries
    ∙ by_ids-insert c.self.inside.by_id.entries c.in-Some.id c.args.details in
    λ id x found. own_ids_put (by_ids c.self.inside.by_id.entries) c.in-Some.id given c.self.invariant is id x
    (ap (λ (m : FinMap nat_cmp Details). get m id) (sym put) ∙ found)

pub returns-clause-ok : goal.returns-clause-ok
returns-clause-ok c =
    let given = details_of (arc_value c.args.details) in
    let is : given.id ≡ Some c.in-Some.id =
    ap (λ x. (details_of x).id) (sym c.deref.ensures) ∙ sym c.scope_id.ensures ∙ c.in-Some.is in
    let none : get (by_ids c.self.inside.by_id.entries) c.in-Some.id ≡ None =
    get-by_ids c.self.inside.by_id.entries c.in-Some.id
    ∙ ap (option_map (λ x. details_of (arc_value x)))
    (sym c.get.ensures.value ∙ ap option_copied c.in_default-get.is) in
    let put : by_ids c.insert.new.self.entries ≡ insert (by_ids c.self.inside.by_id.entries) c.in-Some.id given =
    ap by_ids c.in_ok-_none.ensures.entries
    ∙ by_ids-insert c.self.inside.by_id.entries c.in-Some.id c.args.details in
    let name : c.as_str-2.result.now ≡ name_of given =
    c.as_str-2.ensures.value
    ∙ c.name-2.ensures
    ∙ ap (λ x. name_of (details_of x)) (c.deref-2.ensures ∙ c.in_ok-kept-2.ensures) in
    let named =
    c.in_default-put_name.ensures.ok
    ∙ ap (λ n. insert (by_names c.self.inside.by_name.entries) n c.in-Some.id) name in
    fresh_inserted (collection_in c.self.inside) given c.in-Some.id (by_ids c.insert.new.self.entries)
    (by_names c.put_name-2.new.by_name.entries) is none put named
    ∙ ap (λ (seen : Collection). with_details seen given) c.self.view_is

pub returns-clause-kept : goal.returns-clause-kept
returns-clause-kept c =
    let given = details_of (arc_value c.args.details) in
    let is : given.id ≡ Some c.in-Some.id =
    ap (λ x. (details_of x).id) (sym c.deref.ensures) ∙ sym c.scope_id.ensures ∙ c.in-Some.is in
    let put : by_ids c.insert.new.self.entries ≡ insert (by_ids c.self.inside.by_id.entries) c.in-Some.id given =
    ap by_ids c.in_ok-_none.ensures.entries
    ∙ by_ids-insert c.self.inside.by_id.entries c.in-Some.id c.args.details in
    let after : Collection =
    record { by_id = by_ids c.insert.new.self.entries; by_name = by_names c.put_name-2.new.by_name.entries } in
    kept_is after given c.in-Some.id (details_of (arc_value c.in_ok-kept-2.kept)) is
    (ap (λ (m : FinMap nat_cmp Details). get m c.in-Some.id) put
    ∙ get-put (by_ids c.self.inside.by_id.entries) c.in-Some.id given
    ∙ ap (λ x. Some (details_of x)) (sym c.in_ok-kept-2.ensures))
