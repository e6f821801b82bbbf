-- One frame was added.
use Rattle.std.proofs.Common.{◌≡◌, [], arith}
use Rattle.tests_merge.proofs.merger.refused.Goals as goal

pub add-requires-2 : goal.add-requires-2
add-requires-2 c =
    let one = c.in_ok-add.ensures.added [] c.new-merger.ensures.none in
    let number : c.add.new.self.frames ≡ 1 = one.number in
    ((_, one), omega (arith, number))
