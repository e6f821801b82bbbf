-- The rows are the same, and so are their sums.
use Rattle.std.proofs.Common.{sym, ap, subst, ◌∙◌}
use Rattle.puffin_view.specs.inner.Held.{held_of, IsSummed}
use Rattle.puffin_view.proofs.profile_view.held_frames.HeldFrames.set_aside.Goals as goal

pub invariant_of-self : goal.invariant_of-self
invariant_of-self c = subst (λ es. IsSummed es c.self.inside.sums) (sym c.set_aside.ensures) c.self.invariant

pub returns : goal.returns
returns c = ap held_of c.set_aside.ensures ∙ c.self.view_is
