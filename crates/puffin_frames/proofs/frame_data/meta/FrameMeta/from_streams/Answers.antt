-- What is refused doesn't fit, and what isn't fits.
use Rattle.std.proofs.Common.{refl, map, ap}
use Rattle.puffin_data.specs.Honesty.{facts_of}
use Rattle.std.proofs.lemmas.Map.Iter.{rest_more, rest_all}
use Rattle.puffin_frames.proofs.Joining.{too_large, totals_fit, at_next}
use Rattle.puffin_frames.proofs.frame_data.meta.FrameMeta.from_streams.Goals as goal

pub returns-in_default-clause-err : goal.returns-in_default-clause-err
returns-in_default-clause-err c =
    let left = rest_more (λ (x : _). x.now) _ _ _ _ c.in-Some.is c.next.ensures.steps in (
      refl,
      too_large _ _ _ _ _ _ (at_next _ _ _ _ _ c.loop-info.invariant (ap (map facts_of) left))
          c.as_stream_into_ref.ensures c.in_default.ensures.none,
    )

pub returns-clause-totals : goal.returns-clause-totals
returns-clause-totals c =
    let left = rest_all (λ (x : _). x.now) _ _ _ c.in-None.is c.next.ensures.steps in
    totals_fit _ _ _ (at_next _ _ _ _ _ c.loop-info.invariant (ap (map facts_of) left))
