-- A frame that waits is the next one. Otherwise the collector makes one, or there is none.
use Rattle.std.proofs.Common.{refl, inl, inr}
use Rattle.std.specs.Arc.{arc_value}
use Rattle.puffin_c.proofs.Frames.{waits, none_waits, tells_ids}
use Rattle.puffin_c.proofs.profiler.Profiler.collect.Goals as goal

pub returns-then-is_some-clause-ok : goal.returns-then-is_some-clause-ok
returns-then-is_some-clause-ok c =
    let (frame, waiting) = waits c.args.self.now.waiting _ c.is_some.ensures c.if-is_some.true in
    record { view = refl; unread = refl; outcome = inr (frame, inl (waiting, refl), waiting) }

pub invariant_of-waiting : goal.invariant_of-waiting
invariant_of-waiting c = record { ids = tells_ids (arc_value c.in-Some.frame) (rw c.in-Some.is at c.in_ok-frame.ensures.ids) }

pub returns-in-Some-clause-ok : goal.returns-in-Some-clause-ok
returns-in-Some-clause-ok c =
    let none = none_waits c.args.self.now.waiting _ c.is_some.ensures c.if-is_some.false in
    let (holds_all, some_scopes, is_after) = rw c.in-Some.is at c.in_ok-frame.ensures.ok in
    record {
      view = refl;
      unread = refl;
      outcome = inr (arc_value c.in-Some.frame, inr (none, holds_all, some_scopes, is_after), refl);
    }

pub returns-in_default-clause-ok : goal.returns-in_default-clause-ok
returns-in_default-clause-ok c =
    let none = none_waits c.args.self.now.waiting _ c.is_some.ensures c.if-is_some.false in
    let (no_scopes, index_alone) = rw c.in_default.is at c.in_ok-frame.ensures.ok in
    record {
      view = refl;
      unread = refl;
      outcome = inl (record {
        none_waited = none;
        none_waits = none;
        no_scopes = no_scopes;
        index_alone = index_alone;
      });
    }
