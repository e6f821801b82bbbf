-- Numbers that are passed on keep their values, and then the lemmas on entering a scope serve.
use Rattle.std.proofs.Common.{◌≡◌, ◌∙◌, ◌-ℤ◌, nat_abs, ℤ, refl, ap, sym, subst, arith, inr, w64, FitsSigned}
use Rattle.std.proofs.lemmas.Result.{err_from_is_err_and}
use mir.Syntax.{w128}
use mir.Val.{to_z, of_z}
use Rattle.puffin_data.specs.Walk.FoundScopes.{found_of}
use Rattle.puffin_merge.specs.declared.merge.table.KeyRef.{KeyRef}
use Rattle.puffin_merge.specs.Merge.Occurrences.{Label}
use Rattle.puffin_merge.proofs.Entering.{ok_start, start_refused, sums_refused, scope_taken, origin_fits, time_fits, passed_64, passed_128}
use Rattle.puffin_merge.proofs.merge.stream.MergingVisitor.enter.Goals as goal

pub returns-in_err-own_start-clause-err : goal.returns-in_err-own_start-clause-err
returns-in_err-own_start-clause-err c =
    let (cause, is_err, same_cause) = err_from_is_err_and c.from_residual.result c.from_residual.ensures.1 in
    let start = passed_64 c.args.scope.now.start c.requires.span.1.start in
    let origin = passed_128 c.args.within.origin (origin_fits c.args.within.origin c.requires.stands.1.is_origin) in
    rw (is_err, same_cause) (inr (start_refused c.args.self.now c.args.within (found_of c.args.scope.now).span _
    c.in_err-own_start.field-0.0 (omega arith) (λ i. start i -ℤ origin i) c.in_err-own_start.ensures))

pub returns-in_err-node-clause-err : goal.returns-in_err-node-clause-err
returns-in_err-node-clause-err c =
    let (cause, is_err, same_cause) = err_from_is_err_and c.from_residual-in_err-node.result c.from_residual-in_err-node.ensures.1 in
    let start = passed_64 c.args.scope.now.start c.requires.span.1.start in
    let stop = passed_64 c.args.scope.now.stop c.requires.span.1.stop in
    let origin = passed_128 c.args.within.origin (origin_fits c.args.within.origin c.requires.stands.1.is_origin) in
    let (is_difference, fits) = ok_start (to_z w64 (of_z w64 c.args.scope.now.start) -ℤ to_z w128 (of_z w128 c.args.within.origin))
    c.in_ok-own_start.own_start c.in_ok-own_start.ensures in
    let own_fits : FitsSigned w64 c.in_ok-own_start.own_start = subst (FitsSigned w64) (sym is_difference) fits in
    let label : ◌≡◌ {A = Label} (record { id = c.args.scope.now.id; text = c.text_of.result.now }) _ =
    ap (λ t. record { id = c.args.scope.now.id; text = t }) c.text_of.ensures in
    let key : KeyRef = record { parent = c.args.within.node; id = c.args.scope.now.id; text = c.text_of.result } in
    rw (is_err, same_cause) (sums_refused c.args.self.now c.args.within (found_of c.args.scope.now).span key
    (to_z w64 (of_z w64 c.in_ok-own_start.own_start)) c.abs_diff.result c.in_err-node.field-0.0 (record {
      low = omega arith;
      parent = refl;
      label = label;
      start = passed_64 c.in_ok-own_start.own_start own_fits ∙ is_difference ∙ (λ i. start i -ℤ origin i);
      lasts = c.abs_diff.ensures ∙ (λ i. nat_abs (stop i -ℤ start i));
    }) c.in_err-node.ensures.err)

pub returns-clause-ok : goal.returns-clause-ok
returns-clause-ok c =
    let start = passed_64 c.args.scope.now.start c.requires.span.1.start in
    let stop = passed_64 c.args.scope.now.stop c.requires.span.1.stop in
    let origin = passed_128 c.args.within.origin (origin_fits c.args.within.origin c.requires.stands.1.is_origin) in
    let (is_difference, fits) = ok_start (to_z w64 (of_z w64 c.args.scope.now.start) -ℤ to_z w128 (of_z w128 c.args.within.origin))
    c.in_ok-own_start.own_start c.in_ok-own_start.ensures in
    let own_fits : FitsSigned w64 c.in_ok-own_start.own_start = subst (FitsSigned w64) (sym is_difference) fits in
    let own = passed_64 c.in_ok-own_start.own_start own_fits in
    let label : ◌≡◌ {A = Label} (record { id = c.args.scope.now.id; text = c.text_of.result.now }) _ =
    ap (λ t. record { id = c.args.scope.now.id; text = t }) c.text_of.ensures in
    let key : KeyRef = record { parent = c.args.within.node; id = c.args.scope.now.id; text = c.text_of.result } in
    scope_taken c.args.self.now c.args.within (found_of c.args.scope.now).span
    c.add.new.self key (to_z w64 (of_z w64 c.in_ok-own_start.own_start)) c.abs_diff.result c.in_ok-node.node
    (to_z w128 (of_z w128 (to_z w64 (of_z w64 c.args.scope.now.start)))) (record {
      low = omega arith;
      parent = refl;
      label = label;
      start = own ∙ is_difference ∙ (λ i. start i -ℤ origin i);
      lasts = c.abs_diff.ensures ∙ (λ i. nat_abs (stop i -ℤ start i));
    }) (subst (FitsSigned w64) (sym own) own_fits)
    (ap (λ (t : ℤ). to_z w128 (of_z w128 t)) start ∙ passed_128 c.args.scope.now.start
    (time_fits c.args.scope.now.start c.requires.span.1.start)) c.requires.span.1.start c.in_ok-node.ensures.ok
