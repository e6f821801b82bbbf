-- The offset of the new scope is put behind those of the other open scopes.
use Rattle.std.proofs.Common.{◌∙◌, subst, sym}
use Rattle.puffin_threads.specs.Details.{AllHaveIds}
use Rattle.puffin_threads.specs.Thread.Calls.{Thread}
use Rattle.puffin_session.proofs.Offsets.{pushed}
use Rattle.puffin_session.proofs.profiled.Profiled.begin.Goals as goal

pub invariant_of-self-2 : goal.invariant_of-self-2
invariant_of-self-2 c =
    let (time, answered, sound, begun) = c.in_ok-offset.ensures.begun in
    let (places, ids) = c.self.invariant in (
      pushed c.reserve.new.self.items c.push_reserved.new.self.items c.self.inside.profiler.state
          c.begin_scope.new.self.state _ _ time c.in_ok-offset.offset
          (c.in_ok-reserve.ensures.items ∙ places) begun c.in_ok-offset.ensures.offset c.push_reserved.ensures.items,
      subst (λ (th : Thread). AllHaveIds th.details) (sym begun) ids,
    )
