-- A path without backslashes is left as it is; in another they are replaced by slashes.
use Rattle.std.proofs.Common.{lit<, ◌≡◌, refl, sym, ◌∙◌, string_bytes, true≢false}
use Rattle.std.proofs.lemmas.Str.Pattern.{contains_char}
use Rattle.puffin_scopes.specs.Names.Files.{with_slashes}
use Rattle.puffin_scopes.proofs.utils.file_names.short_file_name.Goals as goal
use Rattle.puffin_scopes.proofs.Slashes.{slashed_by_replace, same}

pub returns-then-not-contains-clause-ok : goal.returns-then-not-contains-clause-ok
returns-then-not-contains-clause-ok c =
    let path = c.args.path.now in
    let found = contains_char 92 path c.contains.result c.contains.ensures.cases (lit< tt) in
    let none : with_slashes path ≡ path =
    same path (λ i less is. absurd (true≢false (sym (found.1 i less is) ∙ c.if-not-contains.true))) in
    rw (sym none) at c.shorten_path.ensures.ok

pub returns-clause-ok : goal.returns-clause-ok
returns-clause-ok c =
    let replaced = c.in_ok-path.ensures.ok in
    let slashed : string_bytes c.in_ok-path.path ≡ with_slashes c.args.path.now =
    slashed_by_replace replaced.0 _ _ _ refl replaced.1 in
    rw (c.deref.ensures, slashed) at c.shorten_path-2.ensures.ok
