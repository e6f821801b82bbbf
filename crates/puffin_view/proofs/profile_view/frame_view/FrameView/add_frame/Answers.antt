-- A refusal leaves a prefix of the details known, and the frame is taken after all that were taken before.
use Rattle.std.proofs.Common.{◌≡◌, List, [], subst, sym, ap, ◌∙◌, inl, append-nil}
use Rattle.std.specs.List.{list_any}
use Rattle.std.proofs.lemmas.Result.{on_ok_weaker, on_err_weaker, err_from_is_err_and}
use Rattle.puffin_threads.specs.Details.{Details, shared_details, lacks_id}
use Rattle.puffin_threads.specs.Details.Collection.{LearnsSome, with_all_details}
use Rattle.puffin_view.specs.View.ViewedFrames.{index_of}
use Rattle.puffin_view.specs.View.FrameOf.{shared_frame, details_of_frame, frame_of}
use Rattle.puffin_view.specs.View.{after_taking, KeepsFrames}
use Rattle.puffin_view.specs.View.Known.{KnownView, view_of, collection_of}
use Rattle.puffin_view.specs.inner.Kept.{IsSteady}
use Rattle.puffin_view.proofs.Taking.{HoldsAlso-taking}
use Rattle.puffin_view.proofs.FileFrames.{has_ids}
use Rattle.puffin_view.proofs.profile_view.frame_view.FrameView.add_frame.Goals as goal

pub returns-clause-holds : goal.returns-clause-holds
returns-clause-holds c =
    let f = shared_frame c.args.frame in
    let was = ap view_of c.self.view_is in
    on_ok_weaker c.take.result (λ e. HoldsAlso-taking _ _ f (subst IsSteady was c.take.ensures.steady)
    (e ∙ ap (λ v. after_taking v f) was)) c.take.ensures.ok

learnt : (c : goal.After-take) → collection_of c.take.new.self
    ≡ with_all_details (collection_of c.args.self.now) (details_of_frame (shared_frame c.args.frame))
learnt c =
    c.take.ensures.collection ∙ (c.in_ok-insert_all.ensures.ok ∙ (ap (with_all_details c.self.inside.scope_collection)
    (ap shared_details c.deref-2.ensures.value ∙ ap (λ f. details_of_frame (frame_of f)) c.deref.ensures)
    ∙ ap (λ v. with_all_details (collection_of v) (details_of_frame (shared_frame c.args.frame))) c.self.view_is))

pub returns-clause-ok : goal.returns-clause-ok
returns-clause-ok c =
    let f = shared_frame c.args.frame in
    let was = ap view_of c.self.view_is in
    let ids = has_ids _ _ _ c.in_ok-insert_all.was c.insert_all.ensures.missing in
    on_ok_weaker c.take.result (λ e. record {
      frames = e ∙ ap (λ v. after_taking v f) was;
      learnt = learnt c;
      ids = sym (ap (list_any lacks_id) (ap shared_details c.deref-2.ensures.value
          ∙ ap (λ f. details_of_frame (frame_of f)) c.deref.ensures)) ∙ ids;
    }) c.take.ensures.ok

pub returns-clause-err : goal.returns-clause-err
returns-clause-err c =
    let f = shared_frame c.args.frame in
    let was = ap view_of c.self.view_is in
    on_err_weaker c.take.result (λ kept. record {
      frames = subst (λ v. KeepsFrames v (index_of f) (view_of c.take.new.self)) was kept;
      known = (details_of_frame f, ([], sym (append-nil (details_of_frame f))), learnt c);
    }) c.take.ensures.err

pub returns-in_err-insert_all-clause-err : goal.returns-in_err-insert_all-clause-err
returns-in_err-insert_all-clause-err c =
    let p = err_from_is_err_and c.from_residual.result c.from_residual.ensures.1 in
    let P : List Details → Type 0 = λ ds. LearnsSome c.self.inside.scope_collection ds c.insert_all.new.self in
    let Q : KnownView → Type 0 =
    λ v. LearnsSome (collection_of v) (details_of_frame (shared_frame c.args.frame)) c.insert_all.new.self in
    let some = subst P (ap shared_details c.deref-2.ensures.value
    ∙ ap (λ f. details_of_frame (frame_of f)) c.deref.ensures) c.in_err-insert_all.ensures.err in
    rw p.1 (record { frames = inl (ap view_of c.self.view_is); known = subst Q c.self.view_is some })
