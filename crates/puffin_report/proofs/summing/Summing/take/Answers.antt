-- One more frame is taken: with it, the frames that are kept are those that a view keeps.
use Rattle.std.proofs.Common.{ℕ, Some, refl, ap, ◌∙◌}
use Rattle.puffin_threads.specs.Thread.ThreadKey.{key_of}
use Rattle.puffin_frames.specs.Frame.Contents.{packet_fields}
use Rattle.puffin_report.specs.inner.Summing.{said_by}
use Rattle.puffin_report.proofs.Stepping.{none_added, can_go_on, one_taken}
use Rattle.puffin_report.proofs.summing.Summing.take.Goals as goal

pub with-requires : goal.with-requires
with-requires c =
    let can_take = c.requires in
    let sum = can_take.summed in
    let next = packet_fields c.args.frame in
    let none = none_added can_take.info c.new.result c.new.ensures.none (ap key_of c.new.ensures.info ∙ sum.thread) in
    can_go_on can_take.info can_take.stored next c.kept_before.result can_take.fewer
    (c.kept_before.ensures can_take.info (said_by can_take.stored) next sum.last c.frame_index-index.ensures sum.progress none)

pub returns-clause-ok : goal.returns-clause-ok
returns-clause-ok c = λ info stored next is sum.
    let none = none_added info c.new.result c.new.ensures.none (ap key_of c.new.ensures.info ∙ sum.thread) in
    let kept =
    c.kept_before.ensures info (said_by stored) (packet_fields c.args.frame) sum.last c.frame_index-index.ensures
    sum.progress none in
    one_taken info stored next c.args.self _ c.args.frame is sum refl (ap (λ (i : ℕ). Some i) c.frame_index-index.ensures)
    c.in_ok-insert_details.ensures.ok c.kept_before.result kept
    (c.in_ok-progress.ensures.ok info kept.before kept.progress)
