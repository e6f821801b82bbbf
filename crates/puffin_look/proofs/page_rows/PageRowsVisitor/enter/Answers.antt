-- The scope was appended, and the scopes within it are nested once more.
--
-- A time that fits `i64` is the one that its 64 bits stand for (`to_z-of_z`).
use Rattle.std.proofs.Common.{List, ℕ, [], ◌∷◌, ◌++◌, ap, sym, ◌∙◌, refl, w64, arith, append-nil, length-append}
use Rattle.std.proofs.lemmas.Int.{ints, to_z-of_z}
use Rattle.puffin_data.specs.Walk.FoundScopes.{found_of}
use Rattle.puffin_look.specs.Page.{row_json, scope_json}
use Rattle.puffin_look.proofs.page_rows.PageRowsVisitor.enter.Goals as goal

pub returns-clause-ok : goal.returns-clause-ok
returns-clause-ok c = λ around stands.
    let v = c.args.self.now in
    let s = (found_of c.args.scope.now).span in
    let begin = to_z-of_z w64 v.begin (omega (arith, ints)) in (
      record {
        text = c.in_ok-push_row.ensures ∙ (λ i. v.text.items ++ row_json (begin i) (stands i) s)
            ∙ ap (λ (t : List ℕ). v.text.items ++ t) (sym (append-nil (scope_json v.begin (record { around = around; span = s }))));
        begin = refl;
      },
      omega (arith, length-append around (s ∷ []), stands, c.saturating_add.ensures),
    )
