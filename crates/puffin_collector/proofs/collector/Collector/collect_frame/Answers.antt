-- Where the new details couldn't all be learnt, a prefix of them is known.
use Rattle.std.proofs.Common.{rules, ◌≡◌, inr, refl, sym, ap, subst}
use Rattle.std.proofs.lemmas.Result.{err_from_is_err_and}
use Rattle.puffin_data.specs.declared.error.Error.TheVariants.{Memory}
use Rattle.puffin_threads.specs.Details.{shared_details, AllHaveIds}
use Rattle.puffin_threads.specs.Details.Collection.{IsPrefix}
use Rattle.puffin_collector.specs.Collector.State.{Collected}
use Rattle.puffin_collector.specs.Collector.Collecting.{KeepsPending}
use Rattle.puffin_collector.proofs.Seen.{seen_of}
use Rattle.puffin_collector.proofs.Knowing.{memory_alone}
use Rattle.puffin_collector.proofs.collector.Collector.collect_frame.Goals as goal

pub returns-in_err-insert_all : goal.returns-in_err-insert_all
returns-in_err-insert_all c =
    let passed_on = err_from_is_err_and c.from_residual-in_err-insert_all.result c.from_residual-in_err-insert_all.ensures.1 in
    let seen = seen_of c.self.inside in
    let given = c.deref-2.result.now in
    let given_is : shared_details given ≡ seen.new_details = ap shared_details c.deref-2.ensures.value in
    let cause = c.in_err-insert_all.field-0.0 in
    let said = c.in_err-insert_all.ensures in
    let memory = memory_alone c.insert_all.result cause (shared_details given) (subst AllHaveIds (sym given_is) c.self.invariant.1)
    c.in_err-insert_all.was c.insert_all.ensures.missing said.cause in
    let left : Collected = record seen { collection = c.insert_all.new.self } in
    let learnt = said.err.0 in
    let kept : KeepsPending c.args.self.now Memory left = subst (λ (old : Collected). KeepsPending old Memory left) c.self.view_is
    (inr (
      refl,
      (learnt, subst (IsPrefix learnt) given_is said.err.1, λ i. record seen { collection = said.err.2 i }),
    )) in
    record {
      ok = search rules;
      ids = search rules;
      honest = search rules;
      sum = search rules;
      exhausted = search rules;
      err = rw (passed_on.1, passed_on.2, memory) kept;
    }
