-- Five pieces are appended one after the other; the numbers of a range are those of their types.
use Rattle.std.proofs.Common.{rules, FitsSigned, w64}
use Rattle.std.proofs.Math.Facts.{to_z-of_z}
use Rattle.std.proofs.lemmas.Result.{on_ok_weaker}
use Rattle.puffin_frames.proofs.Appending.{five}
use Rattle.puffin_frames.proofs.frame_data.encode.put_meta.Goals as goal

pub returns-clause-ok : goal.returns-clause-ok
returns-clause-ok c =
    let start : FitsSigned w64 c.args.meta.now.range_ns.0 = search rules in
    let stop : FitsSigned w64 c.args.meta.now.range_ns.1 = search rules in
    let second = rw (to_z-of_z start) at c.in_ok-put_i64.ensures.ok in
    let third = rw (to_z-of_z stop) at c.in_ok-put_i64-2.ensures.ok in
    on_ok_weaker c.put_u64-3.result (five _ _ _ _ _ _ _ _ _ _ _ c.in_ok-put_u64.ensures.ok second third
    c.in_ok-put_u64-2.ensures.ok) c.put_u64-3.ensures.ok
