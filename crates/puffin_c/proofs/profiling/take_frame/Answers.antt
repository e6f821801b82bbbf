-- The handle holds the profiler after the call, whether a frame was taken or not.
use Rattle.std.proofs.Common.{refl, subst, inr}
use Rattle.puffin_c.specs.declared.profiler.Profiler.{Profiler}
use Rattle.puffin_c.specs.Profiling.{IsTaken, IsLeft}
use Rattle.puffin_c.proofs.profiling.take_frame.Goals as goal

pub returns-in-Ok : goal.returns-in-Ok
returns-in-Ok c =
    let new : Profiler = c.take_frame-answer.new.self in (
      c.take-whole.result.value,
      new,
      c.in-Ok.meta,
      c.take-whole.ensures.taken,
      c.put.ensures,
      subst (λ (p : Profiler). IsTaken p new c.in-Ok.meta) c.deref_mut.ensures.value c.in-Ok.ensures.ok,
      c.tell.ensures,
    )

pub returns-in-Err : goal.returns-in-Err
returns-in-Err c =
    let new : Profiler = c.take_frame-answer.new.self in (
      refl,
      inr (
        c.in-Err.cause,
        refl,
        c.take-whole.result.value,
        new,
        c.take-whole.ensures.taken,
        c.put.ensures,
        subst (λ (p : Profiler). IsLeft p new c.in-Err.cause) c.deref_mut.ensures.value c.in-Err.ensures.err,
      ),
    )
