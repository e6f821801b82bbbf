-- The handle holds the profiler without the bytes that were read.
use Rattle.std.proofs.Common.{ℕ, List, ap, ◌∙◌}
use Rattle.std.specs.Prelude.{Some, length, drop, min}
use Rattle.puffin_c.specs.declared.profiler.Profiler.{Profiler}
use Rattle.puffin_c.specs.declared.unread.Pieces.{Pieces}
use Rattle.puffin_c.specs.Pieces.{unread_in}
use Rattle.puffin_c.specs.Profiling.{with_unread}
use Rattle.puffin_c.specs.Reporting.{laid_over}
use Rattle.puffin_c.proofs.view_file.read.Goals as goal

pub returns : goal.returns
returns c =
    let here : Profiler = c.deref_mut.result.now in
    let out : List ℕ = c.args.out.now in
    let same = c.deref_mut.ensures.value in (
      c.take-whole.result.value,
      c.take-whole.ensures.taken,
      c.read.ensures.number ∙ ap (λ (q : Profiler). min (length (unread_in c.args.piece q.unread)) (length out)) same,
      c.put.ensures ∙ ap (λ (u : Pieces). Some (record here { unread = u })) c.read.ensures.left
          ∙ ap (λ (q : Profiler). Some (with_unread c.args.piece q (drop c.read.result (unread_in c.args.piece q.unread)))) same,
      c.read.ensures.out ∙ ap (λ (q : Profiler). laid_over out (unread_in c.args.piece q.unread)) same,
    )
