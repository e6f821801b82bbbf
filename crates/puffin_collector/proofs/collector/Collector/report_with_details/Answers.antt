-- Details that are appended to the new ones before the scopes are reported, and removed again where those are refused.
use Rattle.std.proofs.Common.{◌≡◌, ◌++◌, List, refl, sym, subst, ◌∙◌, ap, inl}
use Rattle.std.specs.Arc.{arc_value}
use Rattle.std.proofs.lemmas.List.{map-append}
use Rattle.puffin_data.specs.Honesty.{facts_of_ref}
use Rattle.puffin_threads.specs.Thread.ThreadKey.{key_of}
use Rattle.puffin_threads.specs.Details.{Details, details_of, details_seen, shared_details, AllHaveIds}
use Rattle.puffin_collector.specs.Collector.State.{Collected, IsReportRefusal, AcceptsReport}
use Rattle.puffin_collector.proofs.Seen.{seen_of}
use Rattle.puffin_collector.proofs.Knowing.{all_ids, not_all_ids, ids_after}
use Rattle.puffin_collector.proofs.Appending.{refused_before, accepted_before, seen_before}
use Rattle.puffin_collector.proofs.collector.Collector.report_with_details.Goals as goal

-- some details have no id
pub returns-then-not-all_have_ids-clause-err : goal.returns-then-not-all_have_ids-clause-err
returns-then-not-all_have_ids-clause-err c =
    (inl (refl, not_all_ids _ c.args.details.now c.all_have_ids.ensures c.if-not-all_have_ids.true), refl)

-- no memory for copies
pub returns-in-Err-clause-err : goal.returns-in-Err-clause-err
returns-in-Err-clause-err c =
    let ids = all_ids _ c.args.details.now c.all_have_ids.ensures c.if-not-all_have_ids.false in
    (c.cause_without_memory.ensures (details_seen c.args.details.now) ids, refl)

-- no memory for appending them
pub returns-in-Err-append-clause-err : goal.returns-in-Err-append-clause-err
returns-in-Err-append-clause-err c =
    let details = details_seen c.args.details.now in
    let ids = all_ids _ c.args.details.now c.all_have_ids.ensures c.if-not-all_have_ids.false in
    let with = λ (new : List Details). record (seen_of c.self.inside) { new_details = new } in
    let same = ap with (ap shared_details c.in-Err-append.ensures.items) ∙ c.self.view_is in
    let first = c.cause_without_memory-in-Err-append in (
      subst (λ (old : Collected). IsReportRefusal old (key_of c.args.info) details (facts_of_ref c.args.times.now) first.result)
          same (first.ensures details ids),
      same,
    )

pub invariant_of-self-2 : goal.invariant_of-self-2
invariant_of-self-2 c =
    let ids = all_ids _ c.args.details.now c.all_have_ids.ensures c.if-not-all_have_ids.false in
    let fresh_ids = subst AllHaveIds (sym c.in-Ok.ensures.ok) ids in
    (c.self.invariant.0, ids_after _ _ _ c.in-Ok-append.ensures.items c.self.invariant.1 fresh_ids)

-- accepted
pub returns-in-Ok-append-2-clause-ok : goal.returns-in-Ok-append-2-clause-ok
returns-in-Ok-append-2-clause-ok c =
    let seen = seen_of c.self.inside in
    let thread = key_of c.args.info in
    let details = details_seen c.args.details.now in
    let stream = facts_of_ref c.args.times.now in
    let ids = all_ids _ c.args.details.now c.all_have_ids.ensures c.if-not-all_have_ids.false in
    let all = shared_details c.append.new.self.items in
    let joined : all ≡ seen.new_details ++ details =
    ap shared_details c.in-Ok-append.ensures.items
    ∙ map-append (λ one. details_of (arc_value one)) c.self.inside.new_details.items c.in-Ok.fresh.items
    ∙ ap (λ more. seen.new_details ++ more) c.in-Ok.ensures.ok in
    subst (λ (old : Collected). AcceptsReport old thread details stream c.append-2.new.self) c.self.view_is
    (accepted_before seen all stream thread details _ ids joined c.in-Ok-append-2.ensures.ok)

-- refused: once the details are removed again, the new ones are those from before
pub invariant_of-self-in-Err-append-2 : goal.invariant_of-self-in-Err-append-2
invariant_of-self-in-Err-append-2 c =
    let before = c.self.inside.new_details in
    let after = c.self-2.inside.new_details in
    let left = ap (λ (new : Collected). new.new_details) (c.self-2.view_is ∙ c.in-Err-append-2.ensures.err.1)
    ∙ ap shared_details c.in-Ok-append.ensures.items in
    let back = ap shared_details c.truncate.ensures.items
    ∙ seen_before c.len-known.result before.items c.in-Ok.fresh.items after.items (sym (c.len-known.ensures ∙ before.ok.0)) left in
    (c.self-2.invariant.0, subst AllHaveIds (sym back) c.self.invariant.1)

pub returns-clause-err : goal.returns-clause-err
returns-clause-err c =
    let seen = seen_of c.self.inside in
    let thread = key_of c.args.info in
    let details = details_seen c.args.details.now in
    let stream = facts_of_ref c.args.times.now in
    let ids = all_ids _ c.args.details.now c.all_have_ids.ensures c.if-not-all_have_ids.false in
    let with = λ (new : List Details). record seen { new_details = new } in
    let cause = c.in-Err-append-2.cause in
    let refused = c.in-Err-append-2.ensures.err in
    let before = c.self.inside.new_details in
    let after = c.self-2.inside.new_details in
    let left = ap (λ (new : Collected). new.new_details) (c.self-2.view_is ∙ refused.1) ∙ ap shared_details c.in-Ok-append.ensures.items in
    let back = ap shared_details c.truncate.ensures.items
    ∙ seen_before c.len-known.result before.items c.in-Ok.fresh.items after.items (sym (c.len-known.ensures ∙ before.ok.0)) left in
    let cut = λ (new : Collected). record new { new_details = shared_details c.truncate.new.self.items } in (
      subst (λ (old : Collected). IsReportRefusal old thread details stream cause) c.self.view_is
          (refused_before seen (shared_details c.append.new.self.items) stream thread details cause ids refused.0),
      ap cut (c.self-2.view_is ∙ refused.1) ∙ ap with back ∙ c.self.view_is,
    )
