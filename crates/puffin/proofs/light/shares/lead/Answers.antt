-- What the leader's thread told is all that happened through its share.
use Rattle.std.proofs.Common.{◌≡◌, ℕ, List, [], ap, sym, subst, ◌∙◌}
use Rattle.puffin.specs.declared.light.ready.ThreadEnd.{ThreadEnd}
use Rattle.puffin.specs.Happenings.{Happening}
use Rattle.puffin.specs.Members.{Member}
use Rattle.puffin.proofs.TellingShares.{nothing_told}
use Rattle.puffin.proofs.light.shares.lead.Goals as goal

pub returns-clause-tells : goal.returns-clause-tells
returns-clause-tells g c =
    let tells = g.W.AnyProgram.leads c.args.leader c.args.program.now in
    let first : c.new-reporter.result.reporter.share.own ≡ [] = ap (λ r. r.share.own) c.new-reporter.ensures
    ∙ ap (λ (m : Member). m.own) c.new.ensures ∙ nothing_told c.args.shares.reporting c.args.shares.reporting_new in
    subst (λ (ended : ThreadEnd). tells ended.unreported [] c.into_return.result.share.own) (sym c.into_return.ensures.ended)
    (subst (λ (own : List Happening). tells c.lead-reporter.result.0.unreported [] own)
    (sym (ap (λ (m : Member). m.own) c.into_return.ensures.share))
    (subst (λ (before : List Happening). tells c.lead-reporter.result.0.unreported
    before c.lead-reporter.result.1.reporter.share.own) first
    c.lead-reporter.ensures.tells))

pub returns-clause-takes : goal.returns-clause-takes
returns-clause-takes g c =
    c.lead-reporter.ensures.takes (nothing_told c.args.shares.taking c.args.shares.taking_new)
