-- With one part more, the last `src` is that part, or the one before.
use Rattle.std.proofs.Common.{Bor, List, ℕ, sym, ◌∙◌, [], arith}
use Rattle.puffin_scopes.proofs.Parts.{last_src-found, last_src-passed}
use Rattle.puffin_scopes.proofs.utils.file_names.last_src.Goals as goal
use Rattle.puffin_scopes.proofs.utils.file_names.last_src.Goals.{then-eq, else-eq}

pub loop-i-preserved : goal.loop-i-preserved
loop-i-preserved c =
    let parts = c.args.parts.now in
    let i = c.loop-i.i in
    let none : Bor (List ℕ) = record { ref_ptr = (0, 0); now = [] } in
    record {
      place = elim c.if-eq.branch [
        | then-eq is_src ↦
            is_src.last-is ∙ last_src-found parts i c.loop-i-test.true none (sym c.eq.ensures ∙ is_src.if-eq.true)
        | else-eq other ↦
            other.last-is
            ∙ (c.loop-i.invariant.place ∙ last_src-passed parts i c.loop-i-test.true none (sym c.eq.ensures ∙ other.if-eq.false))
      ];
      below = grind arith;
    }
