-- The sums shrink by the removed frame, if there is one.
use Rattle.std.proofs.Common.{ap, ◌∙◌}
use Rattle.std.specs.FinMap as fin
use Rattle.std.specs.Map.{keys_of, lookup}
use Rattle.std.specs.Ordering.{nat_cmp}
use Rattle.std.specs.Cmp.{nat_cmp_total, eq_by_cmp_equiv}
use Rattle.std.proofs.lemmas.Map.{lookup-remove_entry}
use Rattle.std.proofs.lemmas.Map.Keys.{IsDistinct-from_sorted}
use Rattle.puffin_view.specs.inner.Held.{unpacked_number, ram_taken}
use Rattle.puffin_view.specs.inner.Rows.{rows_of}
use Rattle.puffin_view.proofs.Rows.{at}
use Rattle.puffin_view.proofs.HoldingViews.{sum_removed, held_of-removed}
use Rattle.puffin_view.proofs.profile_view.held_frames.HeldFrames.remove.Goals as goal

pub invariant_of-self : goal.invariant_of-self
invariant_of-self c = record {
  unpacked_frames = sum_removed unpacked_number (rows_of c.self.inside.frames) (rows_of c.remove-before.new.self)
      c.args.index c.remove-before.result
      c.self.inside.sums.unpacked_frames c.lower.new.self.unpacked_frames c.remove-before.ensures.entries
      c.remove-before.ensures.value c.self.invariant.unpacked_frames c.lower.ensures.unpacked_frames;
  bytes = sum_removed ram_taken (rows_of c.self.inside.frames) (rows_of c.remove-before.new.self) c.args.index
      c.remove-before.result
      c.self.inside.sums.bytes_of_ram_used c.lower.new.self.bytes_of_ram_used c.remove-before.ensures.entries
      c.remove-before.ensures.value c.self.invariant.bytes c.lower.ensures.bytes;
}

pub returns : goal.returns
returns c =
    let es = rows_of c.self.inside.frames in
    let o = eq_by_cmp_equiv nat_cmp_total in
    held_of-removed es (rows_of c.remove-before.new.self) c.args.index
    (λ q. ap (lookup (at q)) c.remove-before.ensures.entries ∙ lookup-remove_entry o (at c.args.index)
    (o.congr c.args.index) q es (IsDistinct-from_sorted nat_cmp (keys_of es) c.self.inside.frames.in_order))
    ∙ ap (λ m. fin.remove m c.args.index) c.self.view_is
