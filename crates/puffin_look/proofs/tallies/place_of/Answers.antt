-- A name that is there keeps its place; a new one comes last.
use Rattle.std.proofs.Common.{List, ℕ, sym, ap, ◌++◌, ◌∙◌, is_some, slice_get}
use Rattle.std.specs.Map.{keys_of, lookup}
use Rattle.indexmap.proofs.CallerLemmas.{insert_entry-new}
use Rattle.puffin_look.specs.inner.Tallies.{rows_in}
use Rattle.puffin_look.proofs.StackRows.{same_key, has_path, no_value}
use Rattle.puffin_look.proofs.TallyRows.{row_there, row_added, place_added, place_found}
use Rattle.puffin_look.proofs.tallies.place_of.Goals as goal

pub returns-in-Some-clause-rows : goal.returns-in-Some-clause-rows
returns-in-Some-clause-rows c =
    sym (row_there (rows_in c.args.rows.now.entries) c.args.name.now c.in-Some.place
    (place_found c.args.rows.now.entries c.args.name.now c.in-Some.place (sym c.get_index_of.ensures.index ∙ c.in-Some.is)))

pub returns-in-Some-clause-place : goal.returns-in-Some-clause-place
returns-in-Some-clause-place c =
    place_found c.args.rows.now.entries c.args.name.now c.in-Some.place (sym c.get_index_of.ensures.index ∙ c.in-Some.is)

-- `new`: no entry has the name; `own`: the key that is inserted is the name; `none`: so no entry has the key

pub returns-clause-rows : goal.returns-clause-rows
returns-clause-rows c =
    let new = sym c.get_index_of.ensures.found ∙ ap is_some c.in_default.is in
    let own = c.in_ok-extend_from_slice.ensures.items ∙ ap (λ (bs : List ℕ). bs ++ c.args.name.now) c.new-own.ensures.items in
    let none = ap (λ (p : List ℕ). lookup (has_path p) c.args.rows.now.entries) own ∙ no_value _ new in
    ap rows_in (c.in_ok-insert.ensures.entries ∙ insert_entry-new same_key c.args.rows.now c.extend_from_slice.new.self c.none.result none)
    ∙ row_added c.args.rows.now.entries c.args.name.now c.extend_from_slice.new.self c.none.result new own c.none.ensures

pub returns-clause-place : goal.returns-clause-place
returns-clause-place c =
    let new = sym c.get_index_of.ensures.found ∙ ap is_some c.in_default.is in
    let own = c.in_ok-extend_from_slice.ensures.items ∙ ap (λ (bs : List ℕ). bs ++ c.args.name.now) c.new-own.ensures.items in
    let none = ap (λ (p : List ℕ). lookup (has_path p) c.args.rows.now.entries) own ∙ no_value _ new in
    ap (λ es. slice_get (keys_of (rows_in es)) c.len-place.result)
    (c.in_ok-insert.ensures.entries
    ∙ insert_entry-new same_key c.args.rows.now c.extend_from_slice.new.self c.none.result none)
    ∙ ap (slice_get (keys_of (rows_in _))) c.len-place.ensures.len
    ∙ place_added c.args.rows.now.entries c.extend_from_slice.new.self c.none.result c.args.name.now own
