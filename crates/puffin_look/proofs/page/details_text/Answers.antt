-- Each element is that of the next details.
use Rattle.std.proofs.Common.{rules, ◌≡◌, List, ◌++◌, ℕ, codes, ap, sym, ◌∙◌, append-nil}
use Rattle.std.specs.List.{flat_map}
use Rattle.std.specs.List.Sorted.{IsStrictlySortedBy}
use Rattle.std.specs.Map.{keys_of, values_of}
use Rattle.std.specs.Map.Iter.{deref_pair}
use Rattle.std.proofs.lemmas.Map.Iter.{rest_more}
use Rattle.std.specs.Ordering.{nat_cmp}
use Rattle.std.specs.FinMap.{values}
use Rattle.puffin_threads.specs.Details.{Details, details_of, shared_details}
use Rattle.puffin_look.specs.Page.{element, details_element, details_json}
use Rattle.puffin_look.proofs.PagesPrinted.{values_held, details_more}
use Rattle.puffin_look.proofs.page.details_text.Goals as goal

pub details-init : goal.details-init
details-init c =
    let es = c.scopes_by_id.result.now.entries in
    let same : c.into_iter-details-iterator.result ≡ es = search rules in
    let sorted : IsStrictlySortedBy nat_cmp (keys_of es) = search rules in
    let all : values c.args.known.now.by_id ≡ shared_details (values_of es) = ap values (sym c.scopes_by_id.ensures.details)
    ∙ values_held es sorted in
    ap (λ (t : List ℕ). t ++ flat_map details_element (shared_details (values_of c.into_iter-details-iterator.result)))
    c.new-text.ensures.items
    ∙ ap (λ es. flat_map details_element (shared_details (values_of es))) same
    ∙ ap (λ (ds : List Details). flat_map details_element ds) (sym all)

pub details-preserved : goal.details-preserved
details-preserved c =
    let left = rest_more deref_pair _ _ _ _ c.in-Some.is c.next.ensures.steps in
    let json = c.deref-in-details.ensures.value ∙ c.in_ok-push_details.ensures
    ∙ (λ i. c.new-json.ensures.items i ++ details_json (details_of (c.deref.ensures i))) in
    details_more _ _ _ _ _ _ left (c.in_ok-push_element.ensures
    ∙ ap (λ (t : List ℕ). c.details.text.items ++ element (codes "details") t) json) c.details.invariant

pub returns : goal.returns
returns c =
    sym (append-nil c.details.text.items)
    ∙ ap (λ es. c.details.text.items ++ flat_map details_element (shared_details (values_of es)))
    (sym c.in-None.ensures.steps.0) ∙ c.details.invariant
