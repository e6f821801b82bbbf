-- Each `rsplit_once` at `::` answers with the last cut, or with none. The bytes of `::` are 58 and 58.
use Rattle.std.proofs.Common.{◌≡◌, None, rules, [], ◌∷◌}
use Rattle.puffin_scopes.proofs.Cuts.{cut_is, cut_none}
use Rattle.puffin_scopes.proofs.utils.function_names.last_two_segments.Goals as goal
use Rattle.puffin_scopes.proofs.utils.function_names.last_two_segments.Goals.{in_default-via-in-None-1, in_default-via-in-Some+in-None-1}

pub returns-clause-ok : goal.returns-clause-ok
returns-clause-ok c =
    let last = cut_is 58 (58 ∷ []) _ _ _ _ c.rsplit_once.ensures.cases c.in-Some.is in
    let before = cut_is 58 (58 ∷ []) _ _ _ _ c.rsplit_once-2.ensures.cases c.in-Some-rsplit_once.is in
    rw (last, before) c.in_ok-format.ensures.ok

pub returns-2-clause-ok : goal.returns-2-clause-ok
returns-2-clause-ok c = elim c.in_default.branch [
  | in_default-via-in-None-1 no_cut ↦
      let is : c.rsplit_once.result ≡ None = search rules in
      let none = cut_none 58 (58 ∷ []) _ _ c.rsplit_once.ensures.cases is in
      rw none c.in_ok-from_str.ensures.ok
  | in_default-via-in-Some+in-None-1 one_cut ↦
      let last = cut_is 58 (58 ∷ []) _ _ _ _ c.rsplit_once.ensures.cases one_cut.in-Some.is in
      let is : one_cut.rsplit_once-2.result ≡ None = search rules in
      let none = cut_none 58 (58 ∷ []) _ _ one_cut.rsplit_once-2.ensures.cases is in
      rw (last, none) c.in_ok-from_str.ensures.ok
]
