-- The event's parts, one after the other.
--
-- A time that fits `i64` is the one that its 64 bits stand for (`to_z-of_z`).
use Rattle.std.proofs.Common.{◌++◌, ap, ◌∙◌, Option, w64, arith}
use Rattle.std.proofs.lemmas.Int.{ints, to_z-of_z}
use Rattle.std.proofs.lemmas.Result.{on_ok_weaker}
use Rattle.puffin_threads.specs.Details.{Details}
use Rattle.puffin_look.specs.Trace.{times_text, labels_text}
use Rattle.puffin_look.proofs.Pushed.{pushed3}
use Rattle.puffin_look.proofs.events.push_scope.Goals as goal

pub returns : goal.returns
returns c =
    let origin = to_z-of_z w64 c.args.overview.now.start (omega (arith, ints)) in
    let start = to_z-of_z w64 c.args.scope.now.start (omega (arith, ints)) in
    let stop = to_z-of_z w64 c.args.scope.now.stop (omega (arith, ints)) in
    on_ok_weaker c.push_labels.result
    (λ h. pushed3 _ _ _ _ _ _ _ c.in_ok-push_count.ensures (c.in_ok-push_times.ensures
    ∙ (λ i. c.push_count.new.text.items ++ times_text (origin i) (start i) (stop i)))
    (h ∙ ap (λ (d : Option Details). c.push_times.new.text.items
    ++ labels_text d c.args.scope.now.id c.args.scope.now.text.now) c.details_under-details.ensures))
    c.push_labels.ensures
