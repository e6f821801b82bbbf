-- What a thread told is all that happened through its share.
use Rattle.std.proofs.Common.{◌≡◌, List, [], ap, sym, subst, ◌∙◌}
use Rattle.puffin.specs.Happenings.{Happening}
use Rattle.puffin.specs.Members.{Member}
use Rattle.puffin.specs.declared.light.ready.ThreadEnd.{ThreadEnd}
use Rattle.puffin.proofs.TellingShares.{nothing_told}
use Rattle.puffin.proofs.light.started.work.Goals as goal

pub returns : goal.returns
returns g c =
    let tells = g.W.AnyProgram.tells c.args.thread c.args.program.now c.args.number in
    let ran = c.run-reporter.result in
    let first : c.new-reporter.result.reporter.share.own ≡ [] = ap (λ r. r.share.own) c.new-reporter.ensures
    ∙ ap (λ (m : Member). m.own) c.new.ensures ∙ nothing_told c.args.share c.requires in
    subst (λ (ended : ThreadEnd). tells ended [] c.into_return.result.share.own) (sym c.into_return.ensures.ended)
    (subst (λ (own : List Happening). tells ran.0 [] own) (sym (ap (λ (m : Member). m.own) c.into_return.ensures.share))
    (subst (λ (before : List Happening). tells ran.0 before ran.1.reporter.share.own) first c.run-reporter.ensures))
