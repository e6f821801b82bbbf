-- An id is written over the one that is there, or inserted under a new name; both are insertions into the map that is seen.
use Rattle.std.proofs.Common.{ap, sym, ◌∙◌, string_bytes}
use Rattle.std.specs.Option.{option_copied_mut}
use Rattle.std.specs.BTreeMap.{insert_entry}
use Rattle.std.specs.FinMap.{insert}
use Rattle.puffin_threads.specs.Details.Collection.{bytes_cmp, by_names}
use Rattle.puffin_threads.proofs.Inserting.{by_names-insert, by_names-write}
use Rattle.puffin_threads.proofs.scope_details.collection.put_name.Goals as goal

pub returns-in-Some-clause-ok : goal.returns-in-Some-clause-ok
returns-in-Some-clause-ok c =
    ap by_names (c.get_mut.follows.holds c.args.id).0
    ∙ by_names-write c.args.by_name.now.entries c.args.name.now c.in-Some.kept.now c.args.id
    (sym c.get_mut.ensures.value ∙ ap option_copied_mut c.in-Some.is)

pub returns-clause-ok : goal.returns-clause-ok
returns-clause-ok c =
    let after =
    c.in_ok-_none.ensures.entries
    ∙ ap (λ m. insert_entry (λ a b. bytes_cmp (string_bytes a) (string_bytes b)) m.entries c.in_ok-from_str.field-0
    c.args.id) c.get_mut.follows.holds-at-none in
    ap by_names after
    ∙ by_names-insert c.args.by_name.now.entries c.in_ok-from_str.field-0 c.args.id
    ∙ ap (λ n. insert (by_names c.args.by_name.now.entries) n c.args.id) c.in_ok-from_str.ensures.ok
