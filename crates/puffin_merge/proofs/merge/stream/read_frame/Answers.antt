-- The walk of the frame's stream, told of the frame.
use Rattle.std.proofs.Common.{◌∙◌, ℤ, ◌-ℤ◌, length, refl, sym, ap, subst, arith}
use mir.Syntax.{w128}
use mir.Val.{to_z, of_z}
use Rattle.puffin_threads.proofs.lemmas.ThreadKeys.{key_cmp_total}
use Rattle.puffin_merge.specs.declared.merge.stream.OpenScope.{OpenScope}
use Rattle.puffin_merge.specs.inner.Merging.{StandsFor}
use Rattle.puffin_merge.specs.inner.Origins.{IsOrigin}
use Rattle.puffin_merge.proofs.Paths.{top_path}
use Rattle.puffin_merge.proofs.Entering.{origin_fits, passed_64, passed_128}
use Rattle.puffin_merge.proofs.StreamsMerged.{no_bytes, some_bytes, some_form, some_tries, nothing_taken, taken_of_frame, refused_of_frame}
use Rattle.puffin_merge.proofs.merge.stream.read_frame.Goals as goal

pub walk_with-requires : goal.walk_with-requires
walk_with-requires c κs =
    let same = passed_128 c.origin_of-merging.result
    (origin_fits c.origin_of-merging.result c.origin_of-merging.ensures.is) in (
      (refl, tt),
      subst (λ (w : OpenScope). StandsFor
          (record { table = c.args.merging.now.table; origin = to_z w128 (of_z w128 c.origin_of-merging.result) }) w
          _) (sym c.outside-outside.ensures) (record {
            table = c.requires;
            node = omega arith;
            path = top_path c.args.merging.now.table.nodes.items;
            depth = refl;
            shallow = omega arith;
            origin = ap (λ (t : ℤ). to_z w128 (of_z w128 t)) same;
            is_origin =
                subst IsOrigin (sym (ap (λ (t : ℤ). to_z w128 (of_z w128 t)) same ∙ same)) c.origin_of-merging.ensures.is;
          }),
    )

pub returns-in-None-clause-ok : goal.returns-in-None-clause-ok
returns-in-None-clause-ok c =
    let same = passed_128 c.origin_of-merging.result
    (origin_fits c.origin_of-merging.result c.origin_of-merging.ensures.is) in
    let counted_from = ap (λ (t : ℤ). c.args.frame.now.meta.range_ns.0 -ℤ t) (passed_64 c.args.first c.ranges.first) in
    nothing_taken _ c.args.merging.now.table (to_z w128 (of_z w128 c.origin_of-merging.result)) _ _
    (same ∙ c.origin_of-merging.ensures.origin ∙ counted_from)
    (no_bytes key_cmp_total c.args.info.now c.args.frame.now c.in-None.ensures.value)

pub returns-in-Some-clause-ok : goal.returns-in-Some-clause-ok
returns-in-Some-clause-ok c =
    let same = passed_128 c.origin_of-merging.result
    (origin_fits c.origin_of-merging.result c.origin_of-merging.ensures.is) in
    let counted_from = ap (λ (t : ℤ). c.args.frame.now.meta.range_ns.0 -ℤ t) (passed_64 c.args.first c.ranges.first) in
    let bytes = some_bytes key_cmp_total c.args.info.now c.args.frame.now c.in-Some.times.now c.in-Some.ensures.value in
    let form = some_form key_cmp_total c.args.info.now c.args.frame.now c.in-Some.times.now c.in-Some.ensures.value in
    taken_of_frame c.form.result _ c.args.merging.now.table (to_z w128 (of_z w128 c.origin_of-merging.result))
    _ c.bytes.result.now _ c.walk_with.new.visitor c.walk_with.new.tries c.walk_with.result (c.form.ensures ∙ ap
    (λ s. s.stream.form) c.deref.ensures ∙ sym form) (same ∙ c.origin_of-merging.ensures.origin ∙ counted_from)
    (c.bytes.ensures ∙ ap (λ s. s.stream.bytes) c.deref-in-Some.ensures ∙ sym bytes) c.walk_with.ensures.ok

pub returns-in-Some-clause-err : goal.returns-in-Some-clause-err
returns-in-Some-clause-err c =
    let same = passed_128 c.origin_of-merging.result
    (origin_fits c.origin_of-merging.result c.origin_of-merging.ensures.is) in
    let counted_from = ap (λ (t : ℤ). c.args.frame.now.meta.range_ns.0 -ℤ t) (passed_64 c.args.first c.ranges.first) in
    let bytes = some_bytes key_cmp_total c.args.info.now c.args.frame.now c.in-Some.times.now c.in-Some.ensures.value in
    let form = some_form key_cmp_total c.args.info.now c.args.frame.now c.in-Some.times.now c.in-Some.ensures.value in
    refused_of_frame c.form.result _ c.args.merging.now.table (to_z w128 (of_z w128 c.origin_of-merging.result)) _
    c.bytes.result.now _ c.walk_with.new.visitor c.walk_with.new.tries c.walk_with.result (c.form.ensures ∙ ap
    (λ s. s.stream.form) c.deref.ensures ∙ sym form) (same ∙ c.origin_of-merging.ensures.origin ∙ counted_from)
    (c.bytes.ensures ∙ ap (λ s. s.stream.bytes) c.deref-in-Some.ensures ∙ sym bytes) c.walk_with.ensures.err

pub returns-in-Some-clause-few : goal.returns-in-Some-clause-few
returns-in-Some-clause-few c =
    let size = ap length (c.bytes.ensures ∙ ap (λ s. s.stream.bytes) c.deref-in-Some.ensures) in
    some_tries key_cmp_total c.args.info.now c.args.frame.now c.in-Some.times.now c.walk_with.new.tries
    c.in-Some.ensures.value (omega (arith, size, c.walk_with.ensures.few))

pub returns-in-None-clause-short : goal.returns-in-None-clause-short
returns-in-None-clause-short c =
    let size = ap length (no_bytes key_cmp_total c.args.info.now c.args.frame.now c.in-None.ensures.value) in
    omega (arith, size)

pub returns-in-Some-clause-short : goal.returns-in-Some-clause-short
returns-in-Some-clause-short c =
    let bytes = some_bytes key_cmp_total c.args.info.now c.args.frame.now c.in-Some.times.now c.in-Some.ensures.value in
    let size = ap length (c.bytes.ensures ∙ ap (λ s. s.stream.bytes) c.deref-in-Some.ensures ∙ sym bytes) in
    omega (arith, size)
