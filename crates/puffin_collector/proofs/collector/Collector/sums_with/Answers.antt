-- What the sums so far come to with one report more.
use Rattle.std.proofs.Common.{◌≡◌, ◌+◌, ◌^◌, ◌<◌, arith, refl, sym, subst, inl, inr}
use Rattle.std.specs.FinMap as map
use Rattle.puffin_data.specs.Honesty.{facts_of_ref}
use Rattle.puffin_frames.specs.Frame.Sums.{meta_of}
use Rattle.puffin_collector.specs.Collector.State.{Collected, PendingFits}
use Rattle.puffin_collector.proofs.Reporting.{Joins, sums_fit, range_is, adds_up, too_large, too_long, not_too_long, duration_fits}
use Rattle.puffin_collector.proofs.collector.Collector.sums_with.Goals as goal

-- how it adds up, where the range is too long
if_long : (c : goal.Then-is_too_long) → Joins c.args.self.now c.self.inside.meta c.in-Some.meta (facts_of_ref c.args.times.now)
if_long c = record {
  sums = subst (λ (seen : Collected). c.self.inside.meta ≡ meta_of seen.index (map.values seen.streams))
      c.self.view_is c.self.invariant.0.sums;
  frame_index = c.in-Some.ensures.frame_index;
  num_bytes = c.in-Some.ensures.num_bytes;
  num_scopes = c.in-Some.ensures.num_scopes;
  start = c.in-Some.ensures.start;
  stop = c.in-Some.ensures.stop;
  fit = c.in-Some.ensures.fit;
  reported = subst (λ (seen : Collected). seen.reported + c.args.times.now.num_scopes < 2 ^ 64) c.self.view_is (omega arith);
}

-- the same, where it isn't
if_not_long : (c : goal.Else-is_too_long) → Joins c.args.self.now c.self.inside.meta c.in-Some.meta (facts_of_ref c.args.times.now)
if_not_long c = record {
  sums = subst (λ (seen : Collected). c.self.inside.meta ≡ meta_of seen.index (map.values seen.streams))
      c.self.view_is c.self.invariant.0.sums;
  frame_index = c.in-Some.ensures.frame_index;
  num_bytes = c.in-Some.ensures.num_bytes;
  num_scopes = c.in-Some.ensures.num_scopes;
  start = c.in-Some.ensures.start;
  stop = c.in-Some.ensures.stop;
  fit = c.in-Some.ensures.fit;
  reported = subst (λ (seen : Collected). seen.reported + c.args.times.now.num_scopes < 2 ^ 64) c.self.view_is (omega arith);
}

pub returns-in_default-clause-refusal : goal.returns-in_default-clause-refusal
returns-in_default-clause-refusal c =
    let sums = subst (λ (seen : Collected). c.self.inside.meta ≡ meta_of seen.index (map.values seen.streams))
    c.self.view_is c.self.invariant.0.sums in
    inl (refl, too_large _ _ _ sums c.in_default.ensures.none)

pub returns-in_default-checked_add-clause-refusal : goal.returns-in_default-checked_add-clause-refusal
returns-in_default-checked_add-clause-refusal c =
    let scopes = c.args.times.now.num_scopes in
    inl (
      refl,
      λ (fits : PendingFits c.args.self.now (facts_of_ref c.args.times.now)). c.in_default-checked_add.ensures
          (subst (λ (seen : Collected). seen.reported + scopes < 2 ^ 64) (sym c.self.view_is) fits.reported),
    )

pub returns-then-is_too_long-clause-refusal : goal.returns-then-is_too_long-clause-refusal
returns-then-is_too_long-clause-refusal c =
    let joins = if_long c in
    let range = range_is _ _ _ _ joins in
    inr (inl (refl, sums_fit _ _ _ _ joins, too_long _ _ _ range c.is_too_long.ensures c.if-is_too_long.true))

pub returns-clause-sums : goal.returns-clause-sums
returns-clause-sums c = (
  adds_up _ _ _ _ (if_not_long c) (duration_fits _ _ c.is_too_long.ensures c.if-is_too_long.false),
  subst (λ (seen : Collected). c.in-Some-checked_add.reported ≡ seen.reported + c.args.times.now.num_scopes)
      c.self.view_is (omega arith),
)

pub returns-clause-fits : goal.returns-clause-fits
returns-clause-fits c =
    let joins = if_not_long c in
    let range = range_is _ _ _ _ joins in
    (sums_fit _ _ _ _ joins, not_too_long _ _ _ range c.is_too_long.ensures c.if-is_too_long.false)
