-- A clone's maps have entries that are seen as those of the original.
use Rattle.std.proofs.Common.{◌≡◌, ap, sym, ◌∙◌, string_bytes}
use Rattle.std.specs.Ordering.{nat_cmp}
use Rattle.std.specs.FinMap.{FinMap, get, from_entries}
use Rattle.std.specs.Arc.{arc_value}
use Rattle.puffin_threads.specs.Details.{Details, details_of}
use Rattle.puffin_threads.specs.Details.Collection.{by_ids, by_names}
use Rattle.puffin_threads.proofs.lemmas.EntriesSeen.{seen_from_clone}
use Rattle.puffin_threads.proofs.scope_details.collection.ScopeCollection.clone.Goals as goal

ids : (c : goal.After-result-2-1) → by_ids c.in_ok-clone.field-0.entries ≡ by_ids c.self.inside.by_id.entries
ids c =
    ap from_entries (seen_from_clone (λ k. k) (λ d. details_of (arc_value d)) _ _
    (λ a b same. same) (λ v w same. ap details_of same) c.self.inside.by_id.entries c.in_ok-clone.field-0.entries
    c.in_ok-clone.ensures.cases)

names : (c : goal.After-result-2-1) → by_names c.in_ok-clone-2.field-0.entries ≡ by_names c.self.inside.by_name.entries
names c =
    ap from_entries (seen_from_clone (λ k. string_bytes k) (λ n. n) _ _
    (λ a b same. same) (λ v w same. same) c.self.inside.by_name.entries c.in_ok-clone-2.field-0.entries
    c.in_ok-clone-2.ensures.cases)

pub invariant_of-result : goal.invariant_of-result
invariant_of-result c id d found = c.self.invariant id d (ap (λ (m : FinMap nat_cmp Details). get m id) (sym (ids c)) ∙ found)

pub returns-clause-ok : goal.returns-clause-ok
returns-clause-ok c = (λ i. record { by_id = ids c i; by_name = names c i }) ∙ c.self.view_is
