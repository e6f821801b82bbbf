-- One share more is merged and leaves; with the last one, each was an author of the history as it was before.
use Rattle.std.proofs.Common.{rules, ◌≡◌, ◌<◌, ◌++◌, ◌∷◌, [], ℕ, List, subst, sym, ◌∙◌, arith}
use Rattle.std.proofs.lemmas.Iterator.Consumers.{YieldsList-end}
use Rattle.std.proofs.lemmas.Iterator.Adapters.{YieldsList-from_vec}
use Rattle.std.proofs.lemmas.List.{length-append, map-id}
use Rattle.history.specs.Entries.{HasAuthors}
use Rattle.puffin.specs.Members.{Member}
use Rattle.puffin.specs.Leaving.{accounts_of, last_entries, AreAuthors}
use Rattle.puffin.proofs.LeavingShares.{entries_more, authors_more, reported_more, handed_more, has_before}
use Rattle.puffin.proofs.global_profiler.leaving.leave_all.Goals as goal

pub loop-share-preserved : goal.loop-share-preserved
loop-share-preserved g c =
    let so_far = c.loop-share.invariant in let its = c.leave.ensures in let shares : List Member = c.loop-share.yielded in
    let share : Member = c.in-Some.share in let log = c.args.log.now in
    record {
      log_authors = search rules;
      entries = entries_more log.entries c.loop-share.log.entries c.leave.new.log.entries shares share so_far.entries its.log.1;
      authors = authors_more log.authors log.entries c.loop-share.log.entries shares share so_far.authors so_far.entries its.own
          its.stays (subst (λ (n : ℕ). share.number < n) so_far.log_authors its.authors.0);
      reported_parts = omega (arith, its.reported.0, so_far.reported_parts, length-append shares (share ∷ []));
      handed_parts = omega (arith, its.handed.0, so_far.handed_parts, length-append shares (share ∷ []));
      reported = omega (arith, its.reported.1, so_far.reported, reported_more shares share);
      handed = omega (arith, its.handed.1, so_far.handed, handed_more shares share);
    }

pub returns-clause-authors : goal.returns-clause-authors
returns-clause-authors g c =
    let so_far = c.loop-share.invariant in let its = c.leave-2.ensures in let log = c.args.log.now in
    let gives = c.into_iter-share-iterator.ensures.into_iter_gives in
    let all = YieldsList-end (YieldsList-from_vec {s = c.into_iter-share-iterator.result} c.args.shares.items gives.0
    (gives.1 ∙ c.args.shares.ok.0)) c.loop-share.yielded c.loop-share.share-iterator c.loop-share.yielded_by c.next.result
    c.next.new.self c.in-None.is c.next.ensures.steps in
    let last : Member = c.no_parts-reported.new.share in
    let same : last ≡ c.args.last = c.no_parts-reported.ensures.same in
    subst (λ (share : Member). AreAuthors log.authors (accounts_of (c.args.shares.items ++ share ∷ [])) log.entries) same
    (subst (λ (shares : List Member). AreAuthors log.authors (accounts_of (shares ++ last ∷ [])) log.entries)
    (sym (map-id c.loop-share.yielded) ∙ all.0)
    (authors_more log.authors log.entries c.loop-share.log.entries c.loop-share.yielded last so_far.authors so_far.entries its.own
    its.stays (subst (λ (n : ℕ). last.number < n) so_far.log_authors its.authors.0)))

pub returns-clause-has : goal.returns-clause-has
returns-clause-has g c =
    let so_far = c.loop-share.invariant in let log = c.args.log.now in
    has_before log.authors log.entries (last_entries (accounts_of c.loop-share.yielded)) c.loop-share.log.entries so_far.entries
    (subst (λ (n : ℕ). HasAuthors n c.loop-share.log.entries) so_far.log_authors c.leave-2.ensures.authors.1)
