-- The scope's line was appended, and the scopes within it are nested once more.
--
-- A time that fits `i64` is the one that its 64 bits stand for (`to_z-of_z`).
use Rattle.std.proofs.Common.{List, ℕ, [], ◌∷◌, ◌++◌, ◌-ℤ◌, ap, sym, ◌∙◌, refl, w64, arith, append-nil, length-append}
use Rattle.std.specs.Prelude.{unsigned_abs}
use Rattle.std.proofs.lemmas.Int.{ints, to_z-of_z}
use Rattle.puffin_data.specs.Walk.FoundScopes.{found_of}
use Rattle.puffin_look.specs.FrameTree.{nested_line, scope_line}
use Rattle.puffin_look.specs.Cells.{length_of}
use Rattle.puffin_look.proofs.TreesShown.{outer_time_within}
use Rattle.puffin_look.proofs.tree.LinesVisitor.enter.Goals as goal

pub returns-clause-ok : goal.returns-clause-ok
returns-clause-ok c = λ around stands.
    let v = c.args.self.now in
    let s = (found_of c.args.scope.now).span in
    let begin = to_z-of_z w64 v.range_ns.0 (omega (arith, ints)) in
    let start = to_z-of_z w64 c.args.scope.now.start (omega (arith, ints)) in
    let stop = to_z-of_z w64 c.args.scope.now.stop (omega (arith, ints)) in
    let time = c.abs_diff.ensures ∙ (λ i. unsigned_abs (stop i -ℤ start i)) in
    let level = stands.level in (
      record {
        text = c.in_ok-push_scope.ensures.text ∙ (λ i. v.text.items ++ nested_line v.known.now (begin i) (stands.level i) (stands.time i) s)
            ∙ ap (λ (t : List ℕ). v.text.items
            ++ t) (sym (append-nil (scope_line v.known.now v.range_ns (record { around = around; span = s }))));
        known = refl;
        range = refl;
      },
      record {
        level = omega (arith, length-append around (s ∷ []), level);
        time = time ∙ sym (outer_time_within (length_of v.range_ns) around s);
      },
    )
