-- Only the offset of the innermost open scope ends a scope.
use Rattle.std.proofs.Common.{◌∙◌, ap, length, w64, rules, ◌≡◌, ◌-◌, ℕ, get_or, take, vec_len, reverse, refl, inl, arith}
use Rattle.std.proofs.lemmas.Result.{err_from_is_err_and}
use Rattle.puffin_threads.specs.Thread.Calls.{Thread, offsets_of}
use Rattle.std.proofs.lemmas.Int.{to_z-of_z}
use Rattle.puffin_session.proofs.Offsets.{innermost_last, outer_or_none, past_all, closed_places}
use Rattle.puffin_collector.specs.Collector.State.{AcceptsReport, RefusesReport}
use Rattle.puffin_session.proofs.SessionCloses.{Ends-from, kept_ids}
use Rattle.puffin_session.proofs.profiled.Profiled.end.Goals as goal

pub returns-clause-back : goal.returns-clause-back
returns-clause-back c =
    let items = c.self.inside.offsets.items in
    let (places, ids) = c.self.invariant in
    let depth : c.len-depth.result ≡ length items = search rules in
    innermost_last items c.self.inside.profiler.state.form c.self.inside.profiler.state.word c.args.back c.index-offset.result.now
    places
    (omega (arith, depth, c.if-depth-back.false))
    (c.index-offset.ensures ∙ ap (λ (n : ℕ). get_or items (n - 1 - c.args.back) c.index-offset.result.now) depth)
    c.in_ok-closed.ensures.innermost.innermost

pub returns-clause-ok : goal.returns-clause-ok
returns-clause-ok c =
    let (time, (asked, answered), sound, closes) = c.in_ok-closed.ensures.closed in
    let set = c.set.ensures ∙ to_z-of_z w64 c.args.at c.ranges.at in
    Ends-from _ _ _ _ _ time _ _ _ c.self.view_is set answered closes

pub returns-then-depth-back-clause-cause : goal.returns-then-depth-back-clause-cause
returns-then-depth-back-clause-cause c =
    let items = c.self.inside.offsets.items in
    let (places, ids) = c.self.invariant in
    let depth : c.len-depth.result ≡ length items = search rules in (
      refl,
      past_all items c.args.self.now.form c.args.self.now.word c.args.back
          (places ∙ ap (λ (th : Thread). reverse (offsets_of th)) c.self.view_is)
          (omega (arith, depth, c.if-depth-back.true)),
    )

pub returns-in_err-closed-clause-cause : goal.returns-in_err-closed-clause-cause
returns-in_err-closed-clause-cause c =
    let items = c.self.inside.offsets.items in
    let depth : c.len-depth.result ≡ length items = search rules in
    let (places, ids) = c.self.invariant in
    let (is_mismatched, not_innermost) = c.in_err-closed.ensures.innermost.mismatched in
    let outer =
    outer_or_none items c.self.inside.profiler.state.form c.self.inside.profiler.state.word c.args.back
    c.index-offset.result.now
    places
    (omega (arith, depth, c.if-depth-back.false))
    (c.index-offset.ensures ∙ ap (λ (n : ℕ). get_or items (n - 1 - c.args.back) c.index-offset.result.now) depth)
    not_innermost in
    let (_, is_err, same_cause) = err_from_is_err_and c.from_residual.result c.from_residual.ensures.1 in
    rw (is_err, same_cause) (is_mismatched, inl outer)

pub invariant_of-self-2 : goal.invariant_of-self-2
invariant_of-self-2 c =
    let items = c.self.inside.offsets.items in
    let (time, answered, sound, closes) = c.in_ok-closed.ensures.closed in
    let (places, ids) = c.self.invariant in
    let size : vec_len c.self.inside.offsets ≡ length items = search rules in (
      closed_places AcceptsReport RefusesReport items c.pop.new.self.items c.self.inside.profiler.state _ _ _ _ _
          places
          (c.pop.ensures.rest ∙ ap (λ (n : ℕ). take (n - 1) items) size) closes,
      kept_ids AcceptsReport RefusesReport c.self.inside.profiler.state _ _ _ _ _ closes ids,
    )
