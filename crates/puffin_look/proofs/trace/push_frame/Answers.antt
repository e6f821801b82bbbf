-- The event's parts, one after the other.
--
-- A time that fits `i64` is the one that its 64 bits stand for (`to_z-of_z`).
use Rattle.std.proofs.Common.{◌++◌, codes, ◌∙◌, w64, arith}
use Rattle.std.specs.Fmt.{signed_decimal}
use Rattle.std.proofs.lemmas.Int.{ints, to_z-of_z}
use Rattle.std.proofs.lemmas.Result.{on_ok_weaker}
use Rattle.puffin_look.specs.Trace.{thousandths, since}
use Rattle.puffin_look.proofs.Pushed.{pushed5, appended_if}
use Rattle.puffin_look.proofs.trace.push_frame.Goals as goal

pub returns : goal.returns
returns c =
    let origin = to_z-of_z w64 c.args.origin c.ranges.origin in
    let start = to_z-of_z w64 c.args.meta.now.range_ns.0 (omega (arith, ints)) in
    let stop = to_z-of_z w64 c.args.meta.now.range_ns.1 (omega (arith, ints)) in
    let time = c.since.ensures ∙ (λ i. since (origin i) (start i)) in
    let instant = c.in_ok-push_micros.ensures
    ∙ (λ i. c.args.text.now.items
    ++ (codes ",\n{\"ph\":\"i\",\"s\":\"p\",\"pid\":1,\"tid\":0,\"ts\":" ++ thousandths (time i))) in
    let first = c.in_ok-push_moment.ensures
    ∙ (λ i. c.push_count.new.text.items ++ (codes "\",\"args\":{\"start\":\"" ++ signed_decimal (start i))) in
    let last = c.in_ok-push_moment-2.ensures ∙ (λ i. c.push_moment.new.text.items ++ (codes "\",\"stop\":\"" ++ signed_decimal (stop i))) in
    on_ok_weaker c.extend_from_slice.result (pushed5 _ _ _ _ _ _ _ _ _ _ _ instant c.in_ok-push_count.ensures first last)
    (appended_if c.extend_from_slice.result c.extend_from_slice.new.self.items c.push_moment-2.new.text.items
    (codes "\"}}") c.extend_from_slice.ensures.items)
