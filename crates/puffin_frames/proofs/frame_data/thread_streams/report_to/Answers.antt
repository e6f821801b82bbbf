-- What is reported comes after what is there, and a refusal leaves what was recorded.
use Rattle.std.proofs.Common.{◌≡◌, Ok, Err, Result, IsErrAnd, IfErr, OnOk, refl, ap, ◌∙◌, sym, subst}
use Rattle.std.specs.Option.{option_copied_mut}
use Rattle.std.specs.BTreeMap.{insert_entry}
use Rattle.puffin_threads.specs.Thread.ThreadKey.{thread_cmp}
use Rattle.std.proofs.lemmas.Result.{on_ok_weaker, on_err_weaker}
use Rattle.puffin_data.specs.Honesty.{facts_of_ref}
use Rattle.puffin_data.specs.declared.error.Error.{Error}
use Rattle.puffin_data.specs.declared.error.Error.TheVariants.{Memory}
use Rattle.puffin_frames.proofs.Reports.{WritesAt, IsRefusedBy, reported_over, refused_over, reported_first, under_there, none_under, not_unlike, not_too_large, refused_as, not_refused}
use Rattle.puffin_frames.specs.Frame.Contents.{shared_streams, stream_under}
use Rattle.puffin_threads.specs.Thread.ThreadKey.{key_of}
use Rattle.puffin_frames.proofs.lemmas.LayoutsKept.{layout_over, layout_first}
use Rattle.puffin_frames.proofs.frame_data.thread_streams.report_to.Goals as goal

-- what is lent for the thread is written in its place
writes : (c : goal.After-drop-info) →
    WritesAt c.args.streams.now.entries c.args.info c.in-Some.shared.now c.extend_shared.new.shared
    (c.get_mut.follows.lender c.extend_shared.new.shared).entries
writes c = record {
  sorted = c.get_mut.ensures.ordered;
  found = sym c.get_mut.ensures.value ∙ ap option_copied_mut c.in-Some.is;
  after = (c.get_mut.follows.holds c.extend_shared.new.shared).0;
}

-- facts about results
on_ok_both : {A P Q R : Type 0} (result : Result A Error) → (P → Q → R) → OnOk result P → OnOk result Q → OnOk result R
on_ok_both (Ok x) both first second = both first second
on_ok_both (Err cause) both first second = tt

when_refused : {A : Type 0} (result : Result A Error) →
    IsErrAnd result (λ cause. cause ≡ Memory) →
    IfErr result (λ cause. cause ≡ Memory)
when_refused (Ok x) is = absurd is
when_refused (Err cause) is = is

pub returns-in-Some-clause-ok : goal.returns-in-Some-clause-ok
returns-in-Some-clause-ok c =
    on_ok_weaker c.extend_shared.result
    (reported_over c.args.streams.now.entries c.args.info c.in-Some.shared.now c.extend_shared.new.shared
    (c.get_mut.follows.lender c.extend_shared.new.shared).entries (facts_of_ref c.args.times.now) (writes c))
    c.extend_shared.ensures.ok

pub returns-in-Some-clause-err : goal.returns-in-Some-clause-err
returns-in-Some-clause-err c =
    on_err_weaker c.extend_shared.result
    (refused_over c.args.streams.now.entries c.args.info c.in-Some.shared.now c.extend_shared.new.shared
    (c.get_mut.follows.lender c.extend_shared.new.shared).entries (writes c)) c.extend_shared.ensures.err

pub returns-clause-ok : goal.returns-clause-ok
returns-clause-ok c =
    let none = sym c.get_mut.ensures.value ∙ ap option_copied_mut c.in_default.is in
    let same =
    ap (λ streams. insert_entry thread_cmp streams.entries c.args.info c.in_ok-first.first)
    c.get_mut.follows.holds-at-none in
    on_ok_weaker c.insert_first.result
    (λ after. reported_first c.args.streams.now.entries c.args.info c.in_ok-first.first
    c.insert_first.new.streams.entries (facts_of_ref c.args.times.now) none (after ∙ same) c.in_ok-first.ensures.ok)
    c.insert_first.ensures.ok

-- where the thread has scopes, the report is refused as an extension of them is
there : (c : goal.After-drop-info) →
    IsRefusedBy c.extend_shared.result (stream_under (shared_streams c.args.streams.now.entries) (key_of c.args.info))
    (facts_of_ref c.args.times.now)
there c =
    let same = sym (under_there c.args.streams.now.entries c.args.info c.in-Some.shared.now (writes c).found) in
    refused_as c.extend_shared.result c.extend_shared.result _ _ (facts_of_ref c.args.times.now) refl same
    (record { unlike = c.extend_shared.ensures.unlike; too_large = c.extend_shared.ensures.too_large })

pub returns-in-Some-clause-unlike : goal.returns-in-Some-clause-unlike
returns-in-Some-clause-unlike c = (there c).unlike

pub returns-in-Some-clause-too_large : goal.returns-in-Some-clause-too_large
returns-in-Some-clause-too_large c = (there c).too_large

-- where it has none, nothing but memory refuses it
pub returns-in_err-first-clause-unlike : goal.returns-in_err-first-clause-unlike
returns-in_err-first-clause-unlike c =
    let memory =
    when_refused c.from_residual.result
    (subst (λ (error : Error). IsErrAnd c.from_residual.result (λ cause. cause ≡ error)) c.in_err-first.ensures.err
    c.from_residual.ensures.1) in
    let none =
    none_under c.args.streams.now.entries c.args.info
    (sym c.get_mut.ensures.value ∙ ap option_copied_mut c.in_default.is) in
    (not_refused c.from_residual.result _ (facts_of_ref c.args.times.now) (not_unlike c.from_residual.result memory)
    (not_too_large c.from_residual.result memory) none c.in_err-first.ensures.fits).unlike

pub returns-in_err-first-clause-too_large : goal.returns-in_err-first-clause-too_large
returns-in_err-first-clause-too_large c =
    let memory =
    when_refused c.from_residual.result
    (subst (λ (error : Error). IsErrAnd c.from_residual.result (λ cause. cause ≡ error)) c.in_err-first.ensures.err
    c.from_residual.ensures.1) in
    let none =
    none_under c.args.streams.now.entries c.args.info
    (sym c.get_mut.ensures.value ∙ ap option_copied_mut c.in_default.is) in
    (not_refused c.from_residual.result _ (facts_of_ref c.args.times.now) (not_unlike c.from_residual.result memory)
    (not_too_large c.from_residual.result memory) none c.in_err-first.ensures.fits).too_large

pub returns-clause-unlike : goal.returns-clause-unlike
returns-clause-unlike c =
    let none =
    none_under c.args.streams.now.entries c.args.info
    (sym c.get_mut.ensures.value ∙ ap option_copied_mut c.in_default.is) in
    (not_refused c.insert_first.result _ (facts_of_ref c.args.times.now)
    (not_unlike c.insert_first.result c.insert_first.ensures.memory)
    (not_too_large c.insert_first.result c.insert_first.ensures.memory) none c.in_ok-first.ensures.fits).unlike

pub returns-clause-too_large : goal.returns-clause-too_large
returns-clause-too_large c =
    let none =
    none_under c.args.streams.now.entries c.args.info
    (sym c.get_mut.ensures.value ∙ ap option_copied_mut c.in_default.is) in
    (not_refused c.insert_first.result _ (facts_of_ref c.args.times.now)
    (not_unlike c.insert_first.result c.insert_first.ensures.memory)
    (not_too_large c.insert_first.result c.insert_first.ensures.memory) none c.in_ok-first.ensures.fits).too_large

pub returns-in-Some-clause-layout : goal.returns-in-Some-clause-layout
returns-in-Some-clause-layout c =
    on_ok_weaker c.extend_shared.result
    (layout_over c.args.streams.now.entries c.args.info c.in-Some.shared.now c.extend_shared.new.shared
    (c.get_mut.follows.lender c.extend_shared.new.shared).entries (writes c)) c.extend_shared.ensures.counts

pub returns-clause-layout : goal.returns-clause-layout
returns-clause-layout c =
    let same =
    ap (λ streams. insert_entry thread_cmp streams.entries c.args.info c.in_ok-first.first)
    c.get_mut.follows.holds-at-none in
    on_ok_both c.insert_first.result
    (λ after few. layout_first c.args.streams.now.entries c.args.info c.in_ok-first.first
    c.insert_first.new.streams.entries (after ∙ same) c.insert_first.ensures.sorted few c.insert_first.ensures.thread
    c.in_ok-first.ensures.counts) c.insert_first.ensures.ok c.insert_first.ensures.count
