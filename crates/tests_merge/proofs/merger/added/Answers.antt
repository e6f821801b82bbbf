-- One frame was added, and then another.
use Rattle.std.proofs.Common.{◌≡◌, [], arith}
use Rattle.tests_merge.proofs.merger.added.Goals as goal

pub add-requires-2 : goal.add-requires-2
add-requires-2 c =
    let one = c.in_ok-add.ensures.added [] c.new-merger.ensures.none in
    let number : c.add.new.self.frames ≡ 1 = one.number in
    ((_, one), omega (arith, number))

pub finish-requires : goal.finish-requires
finish-requires c = (_, c.in_ok-add-2.ensures.added _ (c.in_ok-add.ensures.added [] c.new-merger.ensures.none))
