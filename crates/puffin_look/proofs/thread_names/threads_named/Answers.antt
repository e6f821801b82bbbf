-- What was found is the named threads of the frames that were read.
use Rattle.std.proofs.Common.{◌≡◌, false, ap, sym, ◌∙◌}
use Rattle.puffin_threads.specs.Thread.ThreadKey.{by_key}
use Rattle.puffin_look.specs.inner.Taken.{fails_outside}
use Rattle.puffin_look.proofs.ThreadsPrinted.{ends}
use Rattle.puffin_look.proofs.ThreadsNamed.{named}
use Rattle.puffin_look.proofs.thread_names.threads_named.Goals.{then-fails_outside+in_ok-answer, else-fails_outside}
use Rattle.puffin_look.proofs.thread_names.threads_named.Goals as goal

pub returns-clause-named : goal.returns-clause-named
returns-clause-named g c =
    let quiet : fails_outside c.list_frames-answer.result
    ≡ false = elim c.if-fails_outside.branch [
      | then-fails_outside+in_ok-answer w ↦ ap fails_outside
          w.in_ok-answer.was
      | else-fails_outside w ↦ sym c.fails_outside.ensures ∙ w.if-fails_outside.false
    ] in
    named _ _ _ _ _ _ (ap by_key c.new-threads.ensures) c.args.word.now _ c.in_ok-threads_under.ensures.ok c.list_frames-answer.result quiet
    (ends _ _ _ _ _ _ (ap by_key c.new-threads.ensures) c.list_frames-answer.result c.list_frames-answer.ensures.ok
    c.list_frames-answer.ensures.err)
