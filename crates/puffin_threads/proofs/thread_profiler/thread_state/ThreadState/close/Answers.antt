-- The innermost scope's size and stop are written, and the end is one more event of the word. Where that was the last open scope, the
-- copy of the name is taken.
use Rattle.std.proofs.Common.{rules, ◌≡◌, ℤ, ◌≤ℤ◌, w64, FitsSigned, to_z, of_z, refl, sym, ap, subst, ◌∙◌, arith, option_map, string_bytes}
use Rattle.std.specs.Int.{int_max}
use Rattle.std.proofs.lemmas.Bool.Decides.{nat_tests}
use Rattle.std.proofs.lemmas.Int.{ints, to_z-of_z, clamps}
use Rattle.puffin_threads.specs.Thread.Calls.{Thread, after_end}
use Rattle.puffin_threads.proofs.EndedStates.{ended_in, ended_thread, place_in, some_open}
use Rattle.puffin_threads.proofs.ThreadStates.{none_supplied}
use Rattle.puffin_threads.specs.declared.thread_profiler.supply.Supply.{Supply}
use Rattle.puffin_threads.specs.inner.Supplied.{IsSupplied}
use Rattle.puffin_threads.proofs.thread_profiler.thread_state.ThreadState.close.Goals as goal

pub end_within-requires-clause-inside : goal.end_within-requires-clause-inside
end_within-requires-clause-inside c =
    place_in c.self.inside c.self.invariant (some_open c.self.inside _ c.self.invariant c.self.view_is c.requires)

pub end_within-requires-clause-room : goal.end_within-requires-clause-room
end_within-requires-clause-room c =
    omega (arith, c.self.invariant.room, some_open c.self.inside _ c.self.invariant c.self.view_is c.requires)

pub overflow_sub-self : goal.overflow_sub-self
overflow_sub-self c = omega (arith, some_open c.self.inside _ c.self.invariant c.self.view_is c.requires)

pub invariant_of-self : goal.invariant_of-self
invariant_of-self c =
    let at = to_z w64 (of_z w64 c.max-at.result) in
    let fits : FitsSigned w64 c.max-at.result = search rules in
    let same : at ≡ c.max-at.result = to_z-of_z w64 c.max-at.result fits in
    ended_in c.self.inside _ at c.self.invariant (record {
      form = c.end_within.ensures.form;
      later = subst (λ (t : ℤ). c.self.inside.latest ≤ℤ t) (sym same) (omega (arith, ints, c.max-at.ensures.self_bound));
      fits = subst (λ (t : ℤ). FitsSigned w64 t) (sym same) fits;
      num_open = omega (arith, some_open c.self.inside _ c.self.invariant c.self.view_is c.requires);
      innermost = c.end_within.ensures.size;
      small = search rules;
      bytes = search rules;
      num_scopes = refl;
      depth = refl;
      latest = refl;
      room = omega (arith, c.end_within.ensures.room);
      has_spare = λ _. grind (arith, nat_tests);
      supplied =
          subst (λ (x : Supply). IsSupplied x c.self.inside.info.stream) (sym c.take_copy.ensures.left)
          (none_supplied c.self.inside.supply c.self.inside.info.stream c.self.invariant.supplied);
      spare = λ name is. cc (ap (λ (x : Supply). option_map (λ s. string_bytes s) x.copy) c.take_copy.ensures.left, is);
    })

pub invariant_of-self-else-self-eq0 : goal.invariant_of-self-else-self-eq0
invariant_of-self-else-self-eq0 c =
    let at = to_z w64 (of_z w64 c.max-at.result) in
    let fits : FitsSigned w64 c.max-at.result = search rules in
    let same : at ≡ c.max-at.result = to_z-of_z w64 c.max-at.result fits in
    ended_in c.self.inside _ at c.self.invariant (record {
      form = c.end_within.ensures.form;
      later = subst (λ (t : ℤ). c.self.inside.latest ≤ℤ t) (sym same) (omega (arith, ints, c.max-at.ensures.self_bound));
      fits = subst (λ (t : ℤ). FitsSigned w64 t) (sym same) fits;
      num_open = omega (arith, some_open c.self.inside _ c.self.invariant c.self.view_is c.requires);
      innermost = c.end_within.ensures.size;
      small = search rules;
      bytes = search rules;
      num_scopes = refl;
      depth = refl;
      latest = refl;
      room = omega (arith, c.end_within.ensures.room);
      has_spare =
          λ none. absurd (omega (
            arith,
            c.self.invariant.has_spare none,
            some_open c.self.inside _ c.self.invariant c.self.view_is c.requires,
          ));
      supplied = c.self.invariant.supplied;
      spare = c.self.invariant.spare;
    })

pub returns-then-self-eq0-clause-closed : goal.returns-then-self-eq0-clause-closed
returns-then-self-eq0-clause-closed c =
    let at = to_z w64 (of_z w64 c.max-at.result) in
    let fits : FitsSigned w64 c.max-at.result = search rules in
    let same : at ≡ c.max-at.result = to_z-of_z w64 c.max-at.result fits in
    let time : at ≡ int_max c.self.inside.latest c.args.now_ns = grind (arith, ints, clamps, to_z-of_z) in
    ended_thread c.self.inside c.end_within.new.self.form c.end_within.new.self.bytes at c.args.now_ns c.self.invariant
    c.end_within.ensures.form (subst (λ (t : ℤ). FitsSigned w64 t) (sym same) fits) time
    (some_open c.self.inside _ c.self.invariant c.self.view_is c.requires) (search rules)
    ∙ ap (λ (t : Thread). after_end t c.args.now_ns) c.self.view_is

pub returns-else-self-eq0-clause-closed : goal.returns-else-self-eq0-clause-closed
returns-else-self-eq0-clause-closed c =
    let at = to_z w64 (of_z w64 c.max-at.result) in
    let fits : FitsSigned w64 c.max-at.result = search rules in
    let same : at ≡ c.max-at.result = to_z-of_z w64 c.max-at.result fits in
    let time : at ≡ int_max c.self.inside.latest c.args.now_ns = grind (arith, ints, clamps, to_z-of_z) in
    ended_thread c.self.inside c.end_within.new.self.form c.end_within.new.self.bytes at c.args.now_ns c.self.invariant
    c.end_within.ensures.form (subst (λ (t : ℤ). FitsSigned w64 t) (sym same) fits) time
    (some_open c.self.inside _ c.self.invariant c.self.view_is c.requires) (search rules)
    ∙ ap (λ (t : Thread). after_end t c.args.now_ns) c.self.view_is
