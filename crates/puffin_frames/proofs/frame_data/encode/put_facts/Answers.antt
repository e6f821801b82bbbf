-- Six pieces are appended one after the other; the numbers of a range are those of their types.
use Rattle.std.proofs.Common.{rules, FitsSigned, w64}
use Rattle.std.proofs.Math.Facts.{to_z-of_z}
use Rattle.std.proofs.lemmas.Result.{on_ok_weaker}
use Rattle.puffin_frames.proofs.Appending.{six}
use Rattle.puffin_frames.proofs.frame_data.encode.put_facts.Goals as goal

pub returns-clause-ok : goal.returns-clause-ok
returns-clause-ok c =
    let start : FitsSigned w64 c.args.info.now.range_ns.0 = search rules in
    let stop : FitsSigned w64 c.args.info.now.range_ns.1 = search rules in
    let form = rw c.form.ensures at c.in_ok-put_form.ensures.ok in
    let first = rw (c.block_of-stream.ensures.same, c.bytes.ensures) at c.in_ok-put_bytes.ensures.ok in
    let fourth = rw (to_z-of_z start) at c.in_ok-put_i64.ensures.ok in
    let fifth = rw (to_z-of_z stop) at c.put_i64-2.ensures.ok in
    on_ok_weaker c.put_i64-2.result (six _ _ _ _ _ _ _ _ _ _ _ _ _ form first c.in_ok-put_u64.ensures.ok
    c.in_ok-put_u64-2.ensures.ok fourth) fifth
