-- The thread's start and name, and then its scopes.
use Rattle.std.proofs.Common.{refl}
use Rattle.puffin_threads.specs.Thread.ThreadKey.{key_of}
use Rattle.puffin_look.proofs.PagesMade.{thread_made}
use Rattle.puffin_look.proofs.page_rows.PageRows.add_stream.Goals as goal

pub returns-clause-ok : goal.returns-clause-ok
returns-clause-ok c =
    let (forest, spelled, rows) = c.in_ok-add_scopes.ensures.ok in (
      forest,
      spelled,
      thread_made c.args.self.now c.push_key.new.self c.add_scopes.new.self _ (key_of c.args.thread.now) forest
          c.in_ok-push_key.ensures rows c.in_ok-extend_from_slice.ensures.items refl,
    )
