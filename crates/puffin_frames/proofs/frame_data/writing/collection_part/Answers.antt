-- The details in a collection's map, in the order of their ids, are those of its stored entries.
use Rattle.std.proofs.Common.{◌≡◌, List, ap, sym, subst, ◌∙◌}
use Rattle.std.specs.FinMap.{values}
use Rattle.std.specs.Map.{values_of}
use Rattle.puffin_threads.specs.Details.{Details, shared_details}
use Rattle.puffin_frames.specs.Packet.Structs.{details_layout, AreDetails}
use Rattle.puffin_frames.proofs.Writing.{values-by_ids}
use Rattle.puffin_frames.proofs.frame_data.writing.collection_part.Goals as goal

pub returns-clause-ok : goal.returns-clause-ok
returns-clause-ok c =
    let es = c.scopes_by_id.result.now.entries in
    let same : values c.args.scopes.now.by_id ≡ shared_details (values_of es) =
    ap values (sym c.scopes_by_id.ensures.details) ∙ values-by_ids es c.put_details_by_id.ensures.sorted in
    let put = rw c.new-bytes.ensures.items at c.in_ok-put_details_by_id.ensures.ok in
    put ∙ ap details_layout (sym same)

pub returns-clause-fit : goal.returns-clause-fit
returns-clause-fit c =
    let es = c.scopes_by_id.result.now.entries in
    let same : values c.args.scopes.now.by_id ≡ shared_details (values_of es) =
    ap values (sym c.scopes_by_id.ensures.details) ∙ values-by_ids es c.put_details_by_id.ensures.sorted in
    subst (λ (ds : List Details). AreDetails ds) (sym same) c.in_ok-put_details_by_id.ensures.fit
