-- Half of a duration above 255 is in a bucket that is 128 lower.
use Rattle.std.proofs.Common.{◌+◌, ap, sym, ◌∙◌, ℕ}
use Rattle.puffin_look.proofs.Bucketing.{bucket_halved}
use Rattle.puffin_look.proofs.histogram.+bucket_of.Goals as goal

pub returns-else-time-lt256-clause-bucket : goal.returns-else-time-lt256-clause-bucket
returns-else-time-lt256-clause-bucket t c =
    ap (λ (b : ℕ). 128 + b) c.bucket_of.ensures.bucket ∙ sym (bucket_halved c.args.time c.if-time-lt256.false)
