-- Each `rsplit_once` answers with the last cut, or with none. The bytes of ` as ` are 32, 97, 115 and 32; `>` is 62, and `<` is 60.
use Rattle.std.proofs.Common.{◌≡◌, refl, None, rules, [], ◌∷◌}
use Rattle.puffin_scopes.proofs.Cuts.{cut_is, cut_none}
use Rattle.puffin_scopes.proofs.utils.function_names.shorten_rust_function_name.Goals as goal
use Rattle.puffin_scopes.proofs.utils.function_names.shorten_rust_function_name.Goals.{in-Some-rsplit_once-2, in-None}

-- no ` as `
pub returns-in_default-clause-ok : goal.returns-in_default-clause-ok
returns-in_default-clause-ok c =
    let is : c.rsplit_once.result ≡ None = search rules in
    let none = cut_none 32 (97 ∷ 115 ∷ 32 ∷ []) _ _ c.rsplit_once.ensures.cases is in
    rw none c.last_two_segments.ensures.ok

-- no `>` after it
pub returns-in_default-rsplit_once-clause-ok : goal.returns-in_default-rsplit_once-clause-ok
returns-in_default-rsplit_once-clause-ok c =
    let as_cut = cut_is 32 (97 ∷ 115 ∷ 32 ∷ []) _ _ _ _ c.rsplit_once.ensures.cases c.in-Some.is in
    let is : c.rsplit_once-2.result ≡ None = search rules in
    let none = cut_none 62 [] _ _ c.rsplit_once-2.ensures.cases is in
    rw (as_cut, none) c.last_two_segments-in_default-rsplit_once.ensures.ok

-- both, with `<` before the type or without
pub returns-clause-ok : goal.returns-clause-ok
returns-clause-ok c =
    let as_cut = cut_is 32 (97 ∷ 115 ∷ 32 ∷ []) _ _ _ _ c.rsplit_once.ensures.cases c.in-Some.is in
    let trait_cut = cut_is 62 [] _ _ _ _ c.rsplit_once-2.ensures.cases c.in-Some-rsplit_once.is in
    let text = c.in_ok-format.ensures.ok in
    let concrete = c.last_segment-concrete.ensures in
    let trait_name = c.last_segment-trait_name.ensures in
    elim c.match-rsplit_once-3.branch [
      | in-Some-rsplit_once-2 typed ↦
          let type_cut = cut_is 60 [] _ _ _ _ c.rsplit_once-3.ensures.cases typed.in-Some-rsplit_once-2.is in
          rw (as_cut, trait_cut, type_cut, text, concrete, trait_name, typed.concrete-is) refl
      | in-None whole ↦
          let none = cut_none 60 [] _ _ c.rsplit_once-3.ensures.cases whole.in-None.is in
          rw (as_cut, trait_cut, none, text, concrete, trait_name, whole.concrete-is) refl
    ]
