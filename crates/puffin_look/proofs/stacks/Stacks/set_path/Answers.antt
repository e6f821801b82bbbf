-- The path is that of the scope around it, and the name.
use Rattle.std.proofs.Common.{List, ℕ, ◌++◌, ap, ◌∙◌}
use Rattle.std.proofs.lemmas.Result.{on_ok_weaker}
use Rattle.puffin_look.specs.Folded.{label, front}
use Rattle.puffin_look.specs.inner.Stacks.{rows_of, path_at}
use Rattle.puffin_look.proofs.stacks.Stacks.set_path.Goals as goal

pub returns-clause-path : goal.returns-clause-path
returns-clause-path c =
    let outer = c.in_ok-push_outer.ensures
    ∙ ap (λ (bs : List ℕ). bs ++ front (path_at (rows_of c.args.self.now) c.args.outer)) c.clear.ensures.items in
    on_ok_weaker c.push_label.result
    (λ h. h ∙ ap (λ (bs : List ℕ). bs ++ label c.args.self.now.known.now c.args.id) outer) c.push_label.ensures
