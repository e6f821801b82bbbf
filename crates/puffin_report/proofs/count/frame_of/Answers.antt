-- The frame has one stream, whose range is that of its forest.
use Rattle.std.proofs.Common.{arith, ◌-◌, ◌^◌, ◌<◌, pos, negsuc, ◌≤ℤ◌}
use Rattle.std.proofs.lemmas.Grind.{common_steps}
use Rattle.puffin_data.specs.Forest.{IsForest}
use Rattle.puffin_data.specs.Forest.Measures.{scope_count, least_start, greatest_stop}
use Rattle.puffin_data.proofs.lemmas.ForestRanges.{least_in_range, greatest_in_range, ordered}
use Rattle.puffin_report.proofs.count.frame_of.Goals as goal

pub returns : goal.returns
returns c = λ f honest.
    let start : least_start f ≤ℤ pos (2 ^ 63 - 1) = least_in_range f in
    let stop : negsuc (2 ^ 63 - 1) ≤ℤ greatest_stop f = greatest_in_range f in
    let range : IsForest c.args.info.stream.form f → 0 < scope_count f → least_start f ≤ℤ greatest_stop f =
    ordered c.args.info.stream.form f in
    grind (arith, common_steps)
