-- The details that were read, with those that are left to read, are all details of the reading.
use Rattle.std.proofs.Common.{◌≡◌, ◌++◌, ◌∷◌, [], ap, ◌∙◌}
use Rattle.std.proofs.lemmas.List.{map_push}
use Rattle.puffin_data.specs.Value.Decoding.{times_at}
use Rattle.puffin_data.proofs.lemmas.Loops.{one_more}
use Rattle.puffin_frames.specs.Packet.Structs.{detail_at}
use Rattle.puffin_threads.specs.Details.{Details, details_of, shared_details}
use Rattle.puffin_frames.proofs.frame_data.decode.read_counted_details.Goals as goal

pub details-preserved : goal.details-preserved
details-preserved c =
    let given = c.in_ok-details.details in
    let before = shared_details c.details.all.items in
    let grown : shared_details c.push.new.self.items ≡ before ++ details_of given ∷ [] =
    rw c.in_ok-push.ensures.items (map_push _ c.details.all.items c.in_ok-new.field-0)
    ∙ ap (λ (one : Details). before ++ one ∷ []) (ap details_of c.in_ok-new.ensures.ok) in
    rw grown (one_more detail_at before c.args.count c.details.counter c.details.cursor
    (details_of given) c.read_detail.new.cursor
    (times_at detail_at c.args.count c.args.cursor.now) c.details-test.true c.in_ok-details.ensures c.details.invariant)
