-- Both sorts permute. The first puts the slowest in front, of which `max` are taken; the second sorts these by index.
use Rattle.std.proofs.Common.{◌≡◌, List, map, take, length, ap, ◌∙◌, subst, refl, rules, arith, Ok}
use Rattle.puffin_view.specs.View.FrameOf.{frames_of}
use Rattle.std.specs.Prelude.{IsPermutation, filter_map, slice_get}
use Rattle.std.specs.Vec.Iter.{into_iter_items, into_iter_len}
use Rattle.std.proofs.lemmas.Result.{IfOk-weaker}
use Rattle.std.specs.Vec.Iter.{into_iter_steps}
use Rattle.std.specs.Iterator.Adapters.{take_source}
use Rattle.std.proofs.lemmas.Iterator.{YieldsList, YieldsList-from_take, items_from_collect}
use Rattle.std.proofs.lemmas.Iterator.Adapters.{YieldsList-from_vec}
use Rattle.std.proofs.lemmas.List.Sorted.{IsPermutation-map}
use Rattle.itertools.proofs.SortedLemmas.{IsPermutation-sorted}
use Rattle.puffin_view.specs.View.Selection.{Rank, slower_rank, older_rank}
use Rattle.puffin_view.specs.inner.Selections.{rank_by_duration}
use Rattle.puffin_view.specs.View.Selection.{rank_by_index}
use Rattle.puffin_view.proofs.Orders.{map-take}
use Rattle.puffin_view.proofs.Selecting.{map_sorted}
use Rattle.puffin_view.proofs.profile_view.select.select_slowest.Goals as goal

pub returns-clause-ok : goal.returns-clause-ok
returns-clause-ok c =
    let places = c.in_ok-places.places.items in
    let old = c.in_ok-old.old.items in
    let sorted = into_iter_items c.in_ok-sorted.field-0 in
    let sorted_old = into_iter_items c.in_ok-sorted-2.field-0 in
    let chosen = c.in_ok-chosen.chosen.items in
    let many : into_iter_len c.into_iter.result ≡ length places = omega (arith, c.into_iter.ensures.len) in
    let many_old : into_iter_len c.into_iter-2.result ≡ length old = omega (arith, c.into_iter-2.ensures.len) in
    let s = c.in_ok-sorted.ensures.sorted in
    let t = c.in_ok-sorted-2.ensures.sorted in
    let permuted : IsPermutation places sorted =
    IsPermutation-sorted (YieldsList-from_vec places c.into_iter.ensures.rest many) s.0 s.1 s.2 sorted s.3.0 in
    let permuted_old : IsPermutation old sorted_old = IsPermutation-sorted
    (YieldsList-from_vec old c.into_iter-2.ensures.rest many_old) t.0 t.1 t.2 sorted_old t.3.0 in
    let left : YieldsList into_iter_steps (λ x. x) (take_source c.take.result) sorted =
    YieldsList-from_vec sorted (ap into_iter_items c.take.ensures.source)
    (ap into_iter_len c.take.ensures.source ∙ c.in_ok-sorted.ensures.len) in
    let first : c.in_ok-ranked.ranked.items ≡ take c.args.max sorted =
    items_from_collect {E = Unit {0}} (Ok c.in_ok-ranked.ranked) c.in_ok-ranked.ensures.ran
    (YieldsList-from_take c.args.max left c.take.ensures.count) in
    let all : chosen ≡ sorted_old = search rules in
    let P : List Rank → Type 0 = λ l. IsPermutation l (map rank_by_duration sorted) in
    let Q : List Rank → Type 0 = λ l. IsPermutation l (map rank_by_index sorted_old) in
    let cut : map rank_by_index old ≡ take c.args.max (map rank_by_duration sorted) =
    c.in_ok-old.ensures.ok ∙ ap (map rank_by_duration) (c.deref.ensures.value ∙ first)
    ∙ map-take rank_by_duration c.args.max sorted in
    IfOk-weaker c.frames_at.result _ _ (λ v h. record {
      ranked = map rank_by_duration sorted;
      ranks = subst P c.in_ok-places.ensures.ok (IsPermutation-map rank_by_duration places sorted permuted);
      slowest_first = map_sorted rank_by_duration
          (λ (r : Rank). record { duration_ns = record { 0 = r.duration }; frame_index = r.index; place = r.place })
          (λ r. refl) slower_rank sorted s.3.1;
      chosen = map rank_by_index sorted_old;
      chooses = subst Q cut (IsPermutation-map rank_by_index old sorted_old permuted_old);
      oldest_first = map_sorted rank_by_index
          (λ (r : Rank). record { frame_index = r.index; place = r.place; duration_ns = r.duration }) (λ r. refl)
          older_rank sorted_old t.3.1;
      is = h ∙ ap (λ l. filter_map (λ r. slice_get (frames_of c.args.frames.now) r.place) (map rank_by_index l))
          (c.deref-2.ensures.value ∙ all);
    }) c.frames_at.ensures.ok
