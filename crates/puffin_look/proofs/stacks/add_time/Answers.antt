-- A path that is there grows; a new one comes last.
use Rattle.std.proofs.Common.{List, ℕ, Some, sym, ap, ◌++◌, ◌∙◌, is_some, slice_get}
use Rattle.std.specs.Map.{keys_of, lookup}
use Rattle.indexmap.proofs.CallerLemmas.{insert_entry-new}
use Rattle.puffin_look.specs.inner.Stacks.{Row, times_with, place_kept, rows_in}
use Rattle.puffin_look.specs.declared.stacks.Times.{Times}
use Rattle.puffin_look.proofs.StackRows.{same_key, has_path, no_value, row_added, place_added, place_found}
use Rattle.puffin_look.proofs.stacks.add_time.Goals as goal

pub returns-in-Some-clause-rows : goal.returns-in-Some-clause-rows
returns-in-Some-clause-rows c =
    c.grow.ensures c.args.path.now
    (place_found c.args.rows.now.entries c.args.path.now c.in-Some.place (sym c.get_index_of.ensures.index ∙ c.in-Some.is))

pub returns-in-Some-clause-place : goal.returns-in-Some-clause-place
returns-in-Some-clause-place c =
    let at = place_found c.args.rows.now.entries c.args.path.now c.in-Some.place (sym c.get_index_of.ensures.index ∙ c.in-Some.is) in
    ap (λ (rows : List Row). slice_get (keys_of rows) c.in-Some.place) (c.grow.ensures c.args.path.now at)
    ∙ place_kept (rows_in c.args.rows.now.entries) (record { path = c.args.path.now; whole = c.args.time; nested = 0 })
    (Some c.in-Some.place) c.args.path.now at

-- `new`: no entry has the path; `own`: the key that is inserted is the path; `none`: so no entry has the key

pub returns-clause-rows : goal.returns-clause-rows
returns-clause-rows c =
    let new = sym c.get_index_of.ensures.found ∙ ap is_some c.in_default.is in
    let own = c.in_ok-extend_from_slice.ensures.items ∙ ap (λ (bs : List ℕ). bs ++ c.args.path.now) c.new-own.ensures.items in
    let none = ap (λ (p : List ℕ). lookup (has_path p) c.args.rows.now.entries) own ∙ no_value _ new in
    ap rows_in (c.in_ok-insert.ensures.entries ∙ insert_entry-new same_key c.args.rows.now c.extend_from_slice.new.self c.with.result none)
    ∙ row_added (record { path = c.args.path.now; whole = c.args.time; nested = 0 }) c.args.rows.now.entries
    c.extend_from_slice.new.self c.with.result new own
    (c.with.ensures ∙ ap (λ (t : Times). times_with t c.args.time 0) c.none.ensures)

pub returns-clause-place : goal.returns-clause-place
returns-clause-place c =
    let new = sym c.get_index_of.ensures.found ∙ ap is_some c.in_default.is in
    let own = c.in_ok-extend_from_slice.ensures.items ∙ ap (λ (bs : List ℕ). bs ++ c.args.path.now) c.new-own.ensures.items in
    let none = ap (λ (p : List ℕ). lookup (has_path p) c.args.rows.now.entries) own ∙ no_value _ new in
    ap (λ es. slice_get (keys_of (rows_in es)) c.len-place.result)
    (c.in_ok-insert.ensures.entries
    ∙ insert_entry-new same_key c.args.rows.now c.extend_from_slice.new.self c.with.result none)
    ∙ ap (slice_get (keys_of (rows_in _))) c.len-place.ensures.len
    ∙ place_added c.args.rows.now.entries c.extend_from_slice.new.self c.with.result c.args.path.now own
