-- One thread more is started, with a share that counts nothing.
use Rattle.std.proofs.Common.{◌≡◌, ◌∷◌, ◌++◌, [], ℕ, ◌+◌, length, rules, ap, sym, subst, ◌∙◌}
use Rattle.std.specs.Prelude.{IfSome}
use Rattle.std.proofs.lemmas.Iterator.Consumers.{YieldsList-end}
use Rattle.std.proofs.lemmas.Iterator.Adapters.{YieldsList-from_vec}
use Rattle.std.proofs.lemmas.List.{length-append, map-id}
use Rattle.std.proofs.lemmas.List.Elements.{All-pop}
use Rattle.puffin.specs.Members.{IsNewMember}
use Rattle.puffin.specs.Joined.{AreStarted}
use Rattle.puffin.proofs.JoinedThreads.{started_more}
use Rattle.puffin.proofs.light.started.start_all.Goals as goal

pub start-requires-after_bounds : goal.start-requires-after_bounds
start-requires-after_bounds g c κs within =
    subst (λ o. IfSome o IsNewMember) c.in_ok-share.ensures.ok_part
    (All-pop IsNewMember _ _ c.pop.result c.pop.ensures.items c.loop-thread.invariant.new).1

pub loop-thread-init : goal.loop-thread-init
loop-thread-init g c = record {
  started = search rules;
  each = λ k t e. absurd cc;
  new = c.requires;
}

pub loop-thread-preserved : goal.loop-thread-preserved
loop-thread-preserved g c =
    let handle = c.in_ok-start.field-0 in
    let its_number : handle.promise.number ≡ length c.loop-thread.started.items = search rules in
    record {
      started =
          ap length c.in_ok-push.ensures.items ∙ length-append c.loop-thread.started.items (handle ∷ [])
          ∙ ap (λ (n : ℕ). n + 1) c.loop-thread.invariant.started
          ∙ sym (length-append c.loop-thread.yielded (c.in-Some.thread ∷ []));
      each =
          subst (λ hs. AreStarted hs (c.loop-thread.yielded ++ c.in-Some.thread ∷ []) c.args.program.now)
          (sym c.in_ok-push.ensures.items)
          (started_more c.loop-thread.started.items c.loop-thread.yielded c.args.program.now handle c.in-Some.thread
          c.loop-thread.invariant.each c.loop-thread.invariant.started c.in_ok-start.ensures.thread
          its_number c.in_ok-start.ensures.program);
      new = (All-pop IsNewMember _ _ c.pop.result c.pop.ensures.items c.loop-thread.invariant.new).0;
    }

pub returns-clause-each : goal.returns-clause-each
returns-clause-each g c =
    let gives = c.into_iter-thread-iterator.ensures.into_iter_gives in
    let all = YieldsList-end (YieldsList-from_vec {s = c.into_iter-thread-iterator.result} c.args.threads.items gives.0
    (gives.1 ∙ c.args.threads.ok.0)) c.loop-thread.yielded c.loop-thread.thread-iterator c.loop-thread.yielded_by c.next.result
    c.next.new.self c.in-None.is c.next.ensures.steps in
    subst (λ ts. AreStarted c.loop-thread.started.items ts c.args.program.now)
    (sym (map-id c.loop-thread.yielded) ∙ all.0) c.loop-thread.invariant.each
