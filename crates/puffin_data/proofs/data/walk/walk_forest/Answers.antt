-- The walk of the stream's bytes, told of the stream, in each form.
use Rattle.std.proofs.Common.{refl}
use Rattle.puffin_data.specs.declared.data.form.Form.TheVariants.{Short, Long}
use Rattle.puffin_data.proofs.RangesTold.{forest_of_result, fault_of_result, only_of_result}
use Rattle.puffin_data.proofs.data.walk.walk_forest.Goals as goal

pub returns-in-Short-clause-forest : goal.returns-in-Short-clause-forest
returns-in-Short-clause-forest c =
    rw c.in-Short.is (forest_of_result Short c.args.bytes.now c.args.bytes.now c.walk_bytes.new.tries c.walk_bytes.result refl
    c.walk_bytes.ensures.bytes c.walk_bytes.ensures.walked)

pub returns-in-Short-clause-only : goal.returns-in-Short-clause-only
returns-in-Short-clause-only c =
    rw c.in-Short.is (only_of_result Short c.args.bytes.now c.args.bytes.now c.walk_bytes.new.tries c.walk_bytes.result refl
    c.walk_bytes.ensures.bytes c.walk_bytes.ensures.small c.walk_bytes.ensures.walked)

pub returns-in-Short-clause-fault : goal.returns-in-Short-clause-fault
returns-in-Short-clause-fault c =
    rw c.in-Short.is (fault_of_result Short c.args.bytes.now c.args.bytes.now c.walk_bytes.new.tries c.walk_bytes.result refl
    c.walk_bytes.ensures.bytes c.walk_bytes.ensures.walked)

pub returns-in-Long-clause-forest : goal.returns-in-Long-clause-forest
returns-in-Long-clause-forest c =
    rw c.in-Long.is (forest_of_result Long c.args.bytes.now c.args.bytes.now c.walk_bytes-in-Long.new.tries c.walk_bytes-in-Long.result
    refl c.walk_bytes-in-Long.ensures.bytes c.walk_bytes-in-Long.ensures.walked)

pub returns-in-Long-clause-only : goal.returns-in-Long-clause-only
returns-in-Long-clause-only c =
    rw c.in-Long.is (only_of_result Long c.args.bytes.now c.args.bytes.now c.walk_bytes-in-Long.new.tries c.walk_bytes-in-Long.result refl
    c.walk_bytes-in-Long.ensures.bytes c.walk_bytes-in-Long.ensures.small c.walk_bytes-in-Long.ensures.walked)

pub returns-in-Long-clause-fault : goal.returns-in-Long-clause-fault
returns-in-Long-clause-fault c =
    rw c.in-Long.is (fault_of_result Long c.args.bytes.now c.args.bytes.now c.walk_bytes-in-Long.new.tries c.walk_bytes-in-Long.result refl
    c.walk_bytes-in-Long.ensures.bytes c.walk_bytes-in-Long.ensures.walked)
