-- The last duration of a bucket is near each duration in it.
use Rattle.std.proofs.Common.{inl, inr, arith}
use Rattle.std.proofs.lemmas.Bool.{cases_lt}
use Rattle.puffin_look.proofs.Bucketing.{last_is_near}
use Rattle.puffin_look.proofs.laws.bucket_is_near.Goals as goal

pub returns-clause-not_less : goal.returns-clause-not_less
returns-clause-not_less c = (last_is_near c.args.time (omega arith)).reached

pub returns-clause-near : goal.returns-clause-near
returns-clause-near c =
    let near = last_is_near c.args.time (omega arith) in
    elim (cases_lt c.args.time 256) [
      | inl small ↦ omega (arith, near.exact small)
      | inr large ↦ omega (arith, near.near (omega arith))
    ]
