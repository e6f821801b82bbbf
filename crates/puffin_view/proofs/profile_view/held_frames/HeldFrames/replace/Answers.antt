-- The sums shrink by the old frame and grow by the new one.
use Rattle.std.proofs.Common.{◌≡◌, sym, ap, subst, ◌∙◌, ◌+◌}
use Rattle.std.specs.Prelude.{IsSome}
use Rattle.std.specs.FinMap as fin
use Rattle.std.specs.Map.{lookup}
use Rattle.puffin_view.specs.View.ViewedFrames.{index_of, ram_of}
use Rattle.puffin_view.specs.View.FrameOf.{frame_of, shared_frame}
use Rattle.puffin_view.specs.inner.Held.{unpacked_number, ram_taken, number_if, wrapped_sum}
use Rattle.puffin_view.specs.inner.Rows.{rows_of}
use Rattle.puffin_view.proofs.Rows.{at, lookup-insert}
use Rattle.puffin_view.proofs.HoldingViews.{sum_inserted, held_of-inserted, ram_says, seen_there}
use Rattle.puffin_view.proofs.profile_view.held_frames.HeldFrames.replace.Goals as goal

pub replace-before-requires : goal.replace-before-requires
replace-before-requires c =
    let k = index_of (shared_frame c.args.frame) in
    seen_there (rows_of c.self.inside.frames) k (subst (λ m. IsSome (fin.get m k)) (sym c.self.view_is) c.requires)

unpacked_is : (c : goal.After-raise) → c.has_unpacked-is_unpacked.result ≡ (shared_frame c.args.frame).is_unpacked
unpacked_is c = c.has_unpacked-is_unpacked.ensures ∙ ap (λ f. (frame_of f).is_unpacked) c.deref.ensures

pub invariant_of-self : goal.invariant_of-self
invariant_of-self c =
    let k = index_of (shared_frame c.args.frame) in
    let es = rows_of c.self.inside.frames in
    record {
      unpacked_frames =
          sum_inserted unpacked_number es (rows_of c.replace-before.new.self) k c.args.frame c.replace-before.result
          c.self.inside.sums.unpacked_frames c.lower.new.self.unpacked_frames c.raise.new.self.unpacked_frames
          c.replace-before.ensures.entries c.replace-before.ensures.old c.self.inside.frames.in_order
          c.self.invariant.unpacked_frames
          c.lower.ensures.unpacked_frames (ap (λ s. s.unpacked_frames) c.raise.ensures
          ∙ ap (λ b. wrapped_sum (c.lower.new.self.unpacked_frames + number_if b)) (unpacked_is c));
      bytes = sum_inserted ram_taken es (rows_of c.replace-before.new.self) k c.args.frame c.replace-before.result
          c.self.inside.sums.bytes_of_ram_used c.lower.new.self.bytes_of_ram_used c.raise.new.self.bytes_of_ram_used
          c.replace-before.ensures.entries c.replace-before.ensures.old c.self.inside.frames.in_order
          c.self.invariant.bytes
          c.lower.ensures.bytes
          (ap (λ s. s.bytes_of_ram_used) c.raise.ensures
          ∙ ap (λ n. wrapped_sum (c.lower.new.self.bytes_of_ram_used + n)) (c.bytes_of_ram_used-bytes.ensures
          ∙ ram_says c.deref-2.result.now ∙ ap (λ f. ram_of (frame_of f)) c.deref-2.ensures));
    }

pub returns : goal.returns
returns c =
    let k = index_of (shared_frame c.args.frame) in
    let es = rows_of c.self.inside.frames in
    held_of-inserted es (rows_of c.replace-before.new.self) k c.args.frame
    (λ q. ap (lookup (at q)) c.replace-before.ensures.entries ∙ lookup-insert k c.args.frame es q)
    ∙ ap (λ m. fin.insert m k (shared_frame c.args.frame)) c.self.view_is
