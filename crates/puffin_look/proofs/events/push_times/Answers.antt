-- The times are those of the scope.
--
-- A time that fits `i64` is the one that its 64 bits stand for (`to_z-of_z`).
use Rattle.std.proofs.Common.{◌++◌, ◌-ℤ◌, codes, w64, ◌∙◌}
use Rattle.std.specs.Prelude.{unsigned_abs}
use Rattle.std.proofs.lemmas.Int.{to_z-of_z}
use Rattle.std.proofs.lemmas.Result.{on_ok_weaker}
use Rattle.puffin_look.specs.Trace.{thousandths, since}
use Rattle.puffin_look.proofs.Pushed.{pushed2}
use Rattle.puffin_look.proofs.events.push_times.Goals as goal

pub returns : goal.returns
returns c =
    let origin = to_z-of_z w64 c.args.origin c.ranges.origin in
    let start = to_z-of_z w64 c.args.start c.ranges.start in
    let stop = to_z-of_z w64 c.args.stop c.ranges.stop in
    let begun = c.since.ensures ∙ (λ i. since (origin i) (start i)) in
    let time = c.abs_diff.ensures ∙ (λ i. unsigned_abs (stop i -ℤ start i)) in
    on_ok_weaker c.push_micros-2.result
    (λ h. pushed2 _ _ _ _ _ (c.in_ok-push_micros.ensures
    ∙ (λ i. c.args.text.now.items ++ (codes ",\"ts\":" ++ thousandths (begun i))))
    (h ∙ (λ i. c.push_micros.new.text.items ++ (codes ",\"dur\":" ++ thousandths (time i)))))
    c.push_micros-2.ensures
