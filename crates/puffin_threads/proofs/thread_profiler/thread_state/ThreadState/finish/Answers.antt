-- The innermost scope's size and stop are written, and the end is one more event of the word.
use Rattle.std.proofs.Common.{rules, ◌≡◌, ℤ, ◌≤ℤ◌, w64, FitsSigned, to_z, of_z, refl, sym, ap, subst, ◌∙◌, arith}
use Rattle.std.specs.Int.{int_max}
use Rattle.std.proofs.lemmas.Int.{ints, to_z-of_z, clamps}
use Rattle.puffin_threads.specs.Thread.Calls.{Thread, after_end}
use Rattle.puffin_threads.proofs.EndedStates.{ended_in, ended_thread, place_in, some_open}
use Rattle.puffin_threads.proofs.thread_profiler.thread_state.ThreadState.finish.Goals as goal

pub end_within-requires-clause-inside : goal.end_within-requires-clause-inside
end_within-requires-clause-inside c =
    place_in c.self.inside c.self.invariant (some_open c.self.inside _ c.self.invariant c.self.view_is c.requires)

pub end_within-requires-clause-room : goal.end_within-requires-clause-room
end_within-requires-clause-room c =
    omega (arith, c.self.invariant.room, some_open c.self.inside _ c.self.invariant c.self.view_is c.requires)

pub overflow_sub-self : goal.overflow_sub-self
overflow_sub-self c = omega (arith, some_open c.self.inside _ c.self.invariant c.self.view_is c.requires)

pub invariant_of-self : goal.invariant_of-self
invariant_of-self c =
    let at = to_z w64 (of_z w64 c.max-stop.result) in
    let fits : FitsSigned w64 c.max-stop.result = search rules in
    let same : at ≡ c.max-stop.result = to_z-of_z w64 c.max-stop.result fits in
    ended_in c.self.inside _ at c.self.invariant (record {
      form = c.end_within.ensures.form;
      later = subst (λ (t : ℤ). c.self.inside.latest ≤ℤ t) (sym same) (omega (arith, ints, c.max-stop.ensures.self_bound));
      fits = subst (λ (t : ℤ). FitsSigned w64 t) (sym same) fits;
      num_open = omega (arith, some_open c.self.inside _ c.self.invariant c.self.view_is c.requires);
      innermost = c.end_within.ensures.size;
      small = search rules;
      bytes = search rules;
      num_scopes = refl;
      depth = refl;
      latest = refl;
      room = omega (arith, c.end_within.ensures.room);
      has_spare =
          λ none. absurd (omega (
            arith,
            c.self.invariant.has_spare none,
            some_open c.self.inside _ c.self.invariant c.self.view_is c.requires,
          ));
      supplied = c.self.invariant.supplied;
      spare = c.self.invariant.spare;
    })

pub returns : goal.returns
returns c =
    let at = to_z w64 (of_z w64 c.max-stop.result) in
    let fits : FitsSigned w64 c.max-stop.result = search rules in
    let same : at ≡ c.max-stop.result = to_z-of_z w64 c.max-stop.result fits in
    let time : at ≡ int_max c.self.inside.latest c.args.now_ns = grind (arith, ints, clamps, to_z-of_z) in
    ended_thread c.self.inside c.end_within.new.self.form c.end_within.new.self.bytes at c.args.now_ns c.self.invariant
    c.end_within.ensures.form (subst (λ (t : ℤ). FitsSigned w64 t) (sym same) fits) time
    (some_open c.self.inside _ c.self.invariant c.self.view_is c.requires) (search rules)
    ∙ ap (λ (t : Thread). after_end t c.args.now_ns) c.self.view_is
