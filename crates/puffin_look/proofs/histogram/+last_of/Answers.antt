-- The last duration of a bucket above 255 is that of the bucket 128 lower, doubled, and one more.
use Rattle.std.proofs.Common.{arith}
use Rattle.puffin_look.proofs.Bucketing.{last_doubled}
use Rattle.puffin_look.proofs.histogram.+last_of.Goals as goal

pub returns-else-bucket-lt256 : goal.returns-else-bucket-lt256
returns-else-bucket-lt256 t c =
    omega (
      arith,
      c.saturating_add.ensures,
      c.saturating_mul.ensures,
      c.last_of.ensures,
      last_doubled c.args.bucket c.if-bucket-lt256.false,
    )
