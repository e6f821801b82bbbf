-- Each part of the law is a lemma.
use Rattle.puffin.proofs.EndedScopes.{ends, leaves, begins, reports_by}
use Rattle.puffin.proofs.light.laws.ended_scopes_are_counted.Goals as goal

pub returns : goal.returns
returns g c = record {
  ends = λ reported counts old offset new. ends _ _ reported counts _ old offset new;
  leaves = λ reported old offset new. leaves _ _ _ reported old offset new;
  begins = λ reported counts old place text state new. begins _ _ _ reported counts old place text state new;
  reports = λ reported counts old new result. reports_by _ _ reported counts old new result;
}
