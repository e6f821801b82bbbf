-- The thread's line, and then those of its scopes.
use Rattle.std.proofs.lemmas.Result.{on_ok_weaker}
use Rattle.puffin_threads.specs.Thread.ThreadKey.{key_of}
use Rattle.puffin_look.proofs.TreesShown.{tree_added}
use Rattle.puffin_look.proofs.tree.Lines.add_stream.Goals as goal

pub returns-clause-ok : goal.returns-clause-ok
returns-clause-ok c =
    on_ok_weaker c.add_scopes.result
    (λ (forest, spelled, lines). (
      forest,
      spelled,
      tree_added c.args.self.now c.push_head.new.self c.add_scopes.new.self
          (key_of c.args.thread.now) forest c.in_ok-push_head.ensures lines,
    )) c.add_scopes.ensures.ok
