-- Both shares that the leader gets, and those that are left, count nothing.
use Rattle.std.proofs.Common.{subst}
use Rattle.std.specs.Prelude.{IfSome}
use Rattle.std.proofs.lemmas.List.Elements.{All-pop}
use Rattle.puffin.specs.Members.{IsNewMember}
use Rattle.puffin.proofs.light.started.Opened.new.Goals as goal

pub invariant_of-result : goal.invariant_of-result
invariant_of-result g c =
    let first = All-pop IsNewMember _ _ c.pop.result c.pop.ensures.items c.in-Ok.ensures.shares.1 in
    let second = All-pop IsNewMember _ _ c.pop-2.result c.pop-2.ensures.items first.0 in
    record {
      taking_new = subst (λ o. IfSome o IsNewMember) c.in_ok-taking.ensures.ok_part first.1;
      reporting_new = subst (λ o. IfSome o IsNewMember) c.in_ok-reporting.ensures.ok_part second.1;
    }

pub invariant_of-result-2 : goal.invariant_of-result-2
invariant_of-result-2 g c =
    let first = All-pop IsNewMember _ _ c.pop.result c.pop.ensures.items c.in-Ok.ensures.shares.1 in
    record { all_new = (All-pop IsNewMember _ _ c.pop-2.result c.pop-2.ensures.items first.0).0 }
