-- An empty stream is a valid state.
use Rattle.std.proofs.Common.{refl, ap, arith}
use Rattle.std.proofs.lemmas.Int.{ints}
use Rattle.puffin_threads.specs.Details.{details_seen}
use Rattle.puffin_threads.specs.inner.FirstStart.{first_open}
use Rattle.puffin_threads.proofs.ThreadStates.{cleared_in, none_in, same_thread}
use Rattle.puffin_threads.proofs.thread_profiler.thread_state.ThreadState.new.Goals as goal

pub invariant_of-result : goal.invariant_of-result
invariant_of-result c =
    cleared_in _ (omega (arith, ints)) c.with_form.ensures.honest refl refl
    (record { ready = λ some. absurd (omega (arith, some)); limit = λ some. absurd (omega (arith, some)) })
    (λ name is. cc is)

pub returns : goal.returns
returns c =
    same_thread _ _ refl c.with_form.ensures.form
    (ap first_open (none_in c.with_form.result c.with_form.ensures.honest)) refl
    (none_in c.with_form.result c.with_form.ensures.honest) (ap details_seen c.new.ensures.items)
