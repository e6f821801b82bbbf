-- One frame after the other is added, and then the merger is finished.
use Rattle.std.proofs.Common.{◌+◌, arith, ap, ◌∙◌}
use Rattle.std.proofs.lemmas.Result.{err_from_is_err_and}
use Rattle.puffin_threads.specs.Thread.ThreadKey.{key_of}
use Rattle.puffin_merge.specs.Merge.Scopes.{frames_bytes}
use Rattle.puffin_merge.proofs.FramesRead.{tries_of_all, one_more_tries}
use Rattle.puffin_merge.proofs.AllAdded.{none_first, same_bytes, one_more_first, refused_first, tries_first, few_first, merged_first, ended_first}
use Rattle.puffin_merge.proofs.merge.merge_scopes_counted.Goals as goal

pub loop-frame-init : goal.loop-frame-init
loop-frame-init c = record {
  info = ap key_of c.new-merger.ensures.info;
  added = none_first (frames_bytes (key_of c.args.info.now) c.args.frames.now) c.new-merger.result
      c.new-merger.ensures.none;
  few = omega arith;
  low = omega arith;
}

pub returns-in_err-added-clause-refused : goal.returns-in_err-added-clause-refused
returns-in_err-added-clause-refused c =
    let p = err_from_is_err_and c.from_residual.result c.from_residual.ensures.1 in
    let same = same_bytes (key_of c.args.info.now) (key_of c.loop-frame.merger.info.now) c.deref.result.now
    c.frame-item.result c.loop-frame.invariant.info c.deref.ensures in
    rw (p.1, p.2)
    (refused_first (key_of c.args.info.now) c.args.frames.now c.loop-frame.frame-index c.frame-item.result
    _ c.loop-frame.merger c.loop-frame.tries c.add_counted-added.new.tries c.in_err-added.field-0.0 (omega arith)
    c.frame-item.is same c.loop-frame.invariant.added c.in_err-added.ensures.refused)

pub returns-in_err-added-clause-few : goal.returns-in_err-added-clause-few
returns-in_err-added-clause-few c =
    let same = same_bytes (key_of c.args.info.now) (key_of c.loop-frame.merger.info.now) c.deref.result.now
    c.frame-item.result c.loop-frame.invariant.info c.deref.ensures in
    tries_of_all (frames_bytes (key_of c.args.info.now) c.args.frames.now) (c.loop-frame.frame-index + 1) _
    (tries_first (key_of c.args.info.now) c.args.frames.now c.loop-frame.frame-index c.frame-item.result _
    c.loop-frame.tries c.add_counted-added.new.tries (omega arith) c.frame-item.is same c.loop-frame.invariant.few
    c.in_err-added.ensures.few)

pub returns-in_err-added-clause-read : goal.returns-in_err-added-clause-read
returns-in_err-added-clause-read c =
    let same = same_bytes (key_of c.args.info.now) (key_of c.loop-frame.merger.info.now) c.deref.result.now
    c.frame-item.result c.loop-frame.invariant.info c.deref.ensures in
    few_first (frames_bytes (key_of c.args.info.now) c.args.frames.now) c.loop-frame.frame-index c.loop-frame.merger
    c.loop-frame.tries _ c.loop-frame.invariant.added
    (tries_first (key_of c.args.info.now) c.args.frames.now c.loop-frame.frame-index c.frame-item.result _
    c.loop-frame.tries c.add_counted-added.new.tries (omega arith) c.frame-item.is same c.loop-frame.invariant.few
    c.in_err-added.ensures.few)

pub loop-frame-preserved : goal.loop-frame-preserved
loop-frame-preserved c =
    let same = same_bytes (key_of c.args.info.now) (key_of c.loop-frame.merger.info.now) c.deref.result.now
    c.frame-item.result c.loop-frame.invariant.info c.deref.ensures in
    record {
      info = ap (λ r. key_of r.now) c.in_ok-added.ensures.info ∙ c.loop-frame.invariant.info;
      added = one_more_first (key_of c.args.info.now) c.args.frames.now c.loop-frame.frame-index c.frame-item.result
          _ c.loop-frame.merger c.add_counted-added.new.self c.loop-frame.tries c.add_counted-added.new.tries
          (omega arith) c.frame-item.is same c.loop-frame.invariant.added c.in_ok-added.ensures.added;
      few = tries_first (key_of c.args.info.now) c.args.frames.now c.loop-frame.frame-index
          c.frame-item.result _ c.loop-frame.tries c.add_counted-added.new.tries (omega arith) c.frame-item.is same
          c.loop-frame.invariant.few c.in_ok-added.ensures.few;
      low = omega arith;
    }

pub returns-clause-read : goal.returns-clause-read
returns-clause-read c =
    let frames = frames_bytes (key_of c.args.info.now) c.args.frames.now in
    few_first frames c.loop-frame.frame-index c.loop-frame.merger c.loop-frame.tries _ c.loop-frame.invariant.added
    (one_more_tries frames c.loop-frame.frame-index c.loop-frame.tries c.loop-frame.invariant.few)

pub returns-clause-merged : goal.returns-clause-merged
returns-clause-merged c =
    merged_first (key_of c.args.info.now) c.args.frames.now c.loop-frame.frame-index c.loop-frame.merger
    c.loop-frame.tries c.finish.result (omega arith) c.loop-frame.invariant.added c.finish.ensures.merged

pub returns-clause-refused : goal.returns-clause-refused
returns-clause-refused c =
    ended_first (key_of c.args.info.now) c.args.frames.now c.loop-frame.frame-index c.loop-frame.merger
    c.loop-frame.tries c.finish.result (omega arith) c.loop-frame.invariant.added c.finish.ensures.refused
