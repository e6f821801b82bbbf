-- The handle holds the profiler after the call. The id is the one under which the details are known.
use Rattle.std.proofs.Common.{refl, sym, ap, ◌∙◌, subst, ℕ}
use Rattle.std.proofs.lemmas.Result.{err_from_is_err_and}
use Rattle.std.specs.Prelude.{Some}
use Rattle.puffin_threads.specs.Details.{details_of, with_id}
use Rattle.puffin_c.specs.declared.profiler.Profiler.{Profiler}
use Rattle.puffin_c.specs.Naming.{after_naming, IsUnregistered}
use Rattle.puffin_c.specs.Profiling.{with_collected}
use Rattle.puffin_c.proofs.naming.register.Goals as goal

pub returns-in_err-answer : goal.returns-in_err-answer
returns-in_err-answer c =
    let new : Profiler = c.register-answer.new.self in
    let (_, is_err, same_cause) = err_from_is_err_and c.from_residual.result c.from_residual.ensures.1 in
    rw is_err (
      refl,
      c.in_err-answer.field-0.0,
      same_cause,
      c.take-whole.result.value,
      new,
      c.take-whole.ensures.taken,
      c.put.ensures,
      subst (λ (q : Profiler). IsUnregistered q (details_of c.args.details) new c.in_err-answer.field-0.0)
          c.deref_mut.ensures.value c.in_err-answer.ensures.err,
    )

pub returns : goal.returns
returns c = (
  c.take-whole.result.value,
  c.take-whole.ensures.taken,
  c.get.ensures.positive,
  c.put.ensures ∙ ap (λ (q : Profiler). Some q) c.in_ok-answer.ensures.ok
      ∙ ap (λ (q : Profiler). Some
      (with_collected q (after_naming q.collector (with_id (details_of c.args.details) c.in_ok-answer.field-0))))
      c.deref_mut.ensures.value
      ∙ ap (λ (id : ℕ). Some
      (with_collected c.take-whole.result.value
      (after_naming c.take-whole.result.value.collector (with_id (details_of c.args.details) id))))
      (sym c.get.ensures.number),
)
