-- A name that ends in `::f` is trimmed and shortened; another is kept.
use Rattle.std.proofs.Common.{◌∙◌, ap}
use Rattle.puffin_scopes.specs.Names.Functions.{f_ending, without_last}
use Rattle.puffin_scopes.proofs.Endings.{ends, lacks_end, trimmed}
use Rattle.puffin_scopes.proofs.utils.function_names.clean_function_name.Goals as goal

pub returns-in-Some-clause-ok : goal.returns-in-Some-clause-ok
returns-in-Some-clause-ok c =
    let name = c.args.name.now in
    let found = c.in-Some.ensures.cases in
    let has_ending = ends f_ending name _ found.1.1 in
    let outer = found.2 ∙ ap (λ size. without_last size name) found.1.0 in
    let trim = trimmed c.in-Some.outer.now c.trim_end_matches.result.now c.trim_end_matches.ensures.matches in
    rw (has_ending, ← outer, ← trim) c.shorten_rust_function_name.ensures.ok

pub returns-in_ok-from_str-in-None-clause-ok : goal.returns-in_ok-from_str-in-None-clause-ok
returns-in_ok-from_str-in-None-clause-ok c =
    rw (lacks_end f_ending c.args.name.now c.in-None.ensures.cases) c.in_ok-from_str-in-None.ensures.ok
