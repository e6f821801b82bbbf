-- The times are those of the scope.
--
-- A time that fits `i64` is the one that its 64 bits stand for (`to_z-of_z`).
use Rattle.std.proofs.Common.{◌++◌, ◌-ℤ◌, codes, w64, ◌∙◌, arith}
use Rattle.std.specs.Prelude.{unsigned_abs}
use Rattle.std.specs.Fmt.{decimal, signed_decimal}
use Rattle.std.proofs.lemmas.Int.{ints, to_z-of_z}
use Rattle.std.proofs.lemmas.Result.{on_ok_weaker}
use Rattle.puffin_look.proofs.Pushed.{pushed2}
use Rattle.puffin_look.proofs.page_rows.push_times.Goals as goal

pub returns : goal.returns
returns c =
    let begin = to_z-of_z w64 c.args.begin c.ranges.begin in
    let start = to_z-of_z w64 c.args.scope.now.start (omega (arith, ints)) in
    let stop = to_z-of_z w64 c.args.scope.now.stop (omega (arith, ints)) in
    let time = c.abs_diff.ensures ∙ (λ i. unsigned_abs (stop i -ℤ start i)) in
    let offset = c.in_ok-push_difference.ensures ∙ (λ i. c.extend_from_slice.new.self.items ++ signed_decimal (start i -ℤ begin i)) in
    let first = pushed2 c.args.text.now.items c.extend_from_slice.new.self.items c.push_difference.new.text.items (codes ",")
    (signed_decimal (c.args.scope.now.start -ℤ c.args.begin)) c.in_ok-extend_from_slice.ensures.items offset in
    on_ok_weaker c.push_count.result
    (λ h. pushed2 c.args.text.now.items c.push_difference.new.text.items c.push_count.new.text.items
    (codes "," ++ signed_decimal (c.args.scope.now.start -ℤ c.args.begin)) (codes ","
    ++ decimal (unsigned_abs (c.args.scope.now.stop -ℤ c.args.scope.now.start))) first
    (h ∙ (λ i. c.push_difference.new.text.items ++ (codes "," ++ decimal (time i)))))
    c.push_count.ensures
