-- The details that were skipped, with those that are left to skip, are all details of the reading.
use Rattle.std.proofs.Common.{◌≡◌, ◌++◌, ◌∷◌, [], List, Option, Some, None, ℕ}
use Rattle.puffin_data.specs.Value.Decoding.{times_at}
use Rattle.puffin_data.proofs.lemmas.Loops.{one_more}
use Rattle.puffin_frames.specs.Packet.Structs.{detail_at}
use Rattle.puffin_frames.specs.inner.Stopping.{rest_of}
use Rattle.puffin_frames.proofs.frame_data.decode.pass_details.Goals as goal

-- where bytes are left, a value was read
value_before : {A : Type 0} (read : Option (A × List ℕ)) (rest : List ℕ) →
    rest_of read ≡ Some rest →
    (a : A) × (read ≡ Some (a, rest))
value_before None rest is = cc
value_before (Some (a, after)) rest is = (a, cc)

pub details-preserved : goal.details-preserved
details-preserved c =
    let (one, read) =
    value_before (detail_at c.details.cursor) c.pass_detail.new.cursor c.in_ok-pass_detail.ensures in
    let (before, so_far) = c.details.invariant in (
      before ++ one ∷ [],
      one_more detail_at before c.args.count c.details.counter c.details.cursor one
          c.pass_detail.new.cursor (times_at detail_at c.args.count c.args.cursor.now) c.details-test.true read so_far,
    )
