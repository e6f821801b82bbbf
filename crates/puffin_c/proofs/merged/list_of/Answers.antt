-- The top scopes are appended to an empty list.
use Rattle.std.proofs.Common.{arith}
use Rattle.puffin_c.proofs.MergedListed.{none_appended, next_appended, all_appended, listed}
use Rattle.puffin_c.proofs.merged.list_of.Goals as goal

pub loop-scope-init : goal.loop-scope-init
loop-scope-init c = none_appended _

pub loop-scope-preserved : goal.loop-scope-preserved
loop-scope-preserved c =
    next_appended 0 _ c.loop-scope.list c.append.new.self c.args.scopes.now c.loop-scope.scope-index c.scope-item.result
    (omega arith) c.scope-item.is c.loop-scope.invariant c.in_ok-append.ensures

pub returns : goal.returns
returns c =
    listed _ c.loop-scope.list c.args.scopes.now c.new.ensures.items c.new-2.ensures.items
    (all_appended 0 _ c.loop-scope.list c.args.scopes.now c.loop-scope.scope-index (omega arith) c.loop-scope.invariant)
