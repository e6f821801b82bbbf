-- The copy of the name, if it is there, is a copy of this name; without it the thread is as valid while no scope is open.
use Rattle.std.proofs.Common.{◌∙◌, ap, sym, subst, option_map, string_bytes}
use Rattle.puffin_data.specs.Forest.Words.{open_after}
use Rattle.puffin_threads.specs.Thread.Calls.{Thread}
use Rattle.puffin_threads.proofs.ThreadStates.{none_open_in, none_supplied}
use Rattle.puffin_threads.specs.declared.thread_profiler.supply.Supply.{Supply}
use Rattle.puffin_threads.specs.inner.Supplied.{IsSupplied}
use Rattle.puffin_threads.proofs.thread_profiler.thread_state.ThreadState.name_for_report.Goals as goal

pub invariant_of-self-2 : goal.invariant_of-self-2
invariant_of-self-2 c =
    let valid = c.self.invariant in
    record {
      latest = valid.latest;
      scopes = valid.scopes;
      counted = valid.counted;
      in_order = valid.in_order;
      num_open = valid.num_open;
      innermost = valid.innermost;
      room = valid.room;
      has_spare =
          λ _. none_open_in c.self.inside valid (ap (λ (t : Thread). open_after 0 t.word) c.self.view_is ∙ c.requires);
      supplied =
          subst (λ (x : Supply). IsSupplied x c.self.inside.info.stream) (sym c.take_copy.ensures.left)
          (none_supplied c.self.inside.supply c.self.inside.info.stream valid.supplied);
      spare = λ name is. cc (ap (λ (x : Supply). option_map (λ s. string_bytes s) x.copy) c.take_copy.ensures.left, is);
    }
