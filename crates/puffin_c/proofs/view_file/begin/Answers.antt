-- The handle holds the profiler with the unread piece, or the one from before.
use Rattle.std.proofs.Common.{refl, sym, ap, ◌∙◌, inr}
use Rattle.std.specs.Prelude.{Some, length}
use Rattle.puffin_c.specs.declared.profiler.Profiler.{Profiler}
use Rattle.puffin_c.specs.Profiling.{bytes_of, with_unread}
use Rattle.puffin_c.proofs.Refusals.{piece_refusal}
use Rattle.puffin_c.proofs.view_file.begin.Goals as goal

pub returns-in-Ok : goal.returns-in-Ok
returns-in-Ok c =
    let same = c.deref_mut.ensures.value in (
      c.take-whole.result.value,
      c.take-whole.ensures.taken,
      c.put.ensures ∙ ap (λ (q : Profiler). Some q) c.in-Ok.ensures.made
          ∙ ap (λ (q : Profiler). Some (with_unread c.args.piece q (bytes_of c.args.piece q))) same,
      c.in-Ok.ensures.size ∙ ap (λ (q : Profiler). length (bytes_of c.args.piece q)) same,
    )

pub returns-in-Err : goal.returns-in-Err
returns-in-Err c =
    let same = c.deref_mut.ensures.value in (
      c.put.ensures ∙ ap (λ (q : Profiler). Some q) (c.in-Err.ensures.unchanged ∙ same) ∙ sym c.take-whole.ensures.taken,
      refl,
      inr (
        c.take-whole.result.value,
        c.take-whole.ensures.taken,
        piece_refusal c.args.piece _ _ c.in-Err.fault _ same c.from.ensures c.in-Err.ensures.err,
      ),
    )
