-- The sums grow by the new frame, whose index had no frame before.
use Rattle.std.proofs.Common.{◌≡◌, ℕ, ◌≤◌, sym, ap, ◌∙◌, ◌+◌, arith, None}
use Rattle.std.specs.FinMap as fin
use Rattle.std.specs.Map.{lookup}
use Rattle.std.specs.Ordering.{nat_cmp}
use Rattle.std.specs.BTreeMap.{insert_entry}
use Rattle.puffin_view.specs.View.ViewedFrames.{index_of, ram_of}
use Rattle.puffin_view.specs.View.FrameOf.{frame_of, shared_frame}
use Rattle.puffin_view.specs.inner.Held.{unpacked_number, ram_taken, number_if, wrapped_sum}
use Rattle.puffin_view.specs.inner.Rows.{rows_of}
use Rattle.puffin_view.proofs.Rows.{at, below_none, insert-last, lookup-insert}
use Rattle.puffin_view.proofs.HoldingViews.{sum_inserted, held_of-inserted, ram_says, not_seen, plus_none}
use Rattle.puffin_view.proofs.profile_view.held_frames.HeldFrames.push.Goals as goal

unpacked_is : (c : goal.After-raise) → c.has_unpacked-is_unpacked.result ≡ (shared_frame c.args.frame).is_unpacked
unpacked_is c = c.has_unpacked-is_unpacked.ensures ∙ ap (λ f. (frame_of f).is_unpacked) c.deref.ensures

none_from : (c : goal.After-raise) (q : ℕ) → index_of (shared_frame c.args.frame) ≤ q
    → lookup (at q) (rows_of c.self.inside.frames) ≡ None
none_from c q low = not_seen (rows_of c.self.inside.frames) q (ap (λ m. fin.get m q) c.self.view_is ∙ c.requires q low)

put : (c : goal.After-raise) → rows_of c.push.new.self
    ≡ insert_entry nat_cmp (rows_of c.self.inside.frames) (index_of (shared_frame c.args.frame)) c.args.frame
put c =
    let k = index_of (shared_frame c.args.frame) in
    c.in_ok-push.ensures.ok ∙ sym (insert-last k c.args.frame (rows_of c.self.inside.frames)
    (below_none k (rows_of c.self.inside.frames) (none_from c)))

pub push-requires : goal.push-requires
push-requires c =
    let k = index_of (shared_frame c.args.frame) in
    let es = rows_of c.self.inside.frames in
    below_none k es (λ q low. not_seen es q (ap (λ m. fin.get m q) c.self.view_is ∙ c.requires q low))

pub invariant_of-self-2 : goal.invariant_of-self-2
invariant_of-self-2 c =
    let k = index_of (shared_frame c.args.frame) in
    let es = rows_of c.self.inside.frames in
    let none : None ≡ lookup (at k) es = sym (none_from c k (omega arith)) in
    record {
      unpacked_frames = sum_inserted unpacked_number es (rows_of c.push.new.self) k c.args.frame None
          c.self.inside.sums.unpacked_frames c.self.inside.sums.unpacked_frames c.raise.new.self.unpacked_frames
          (put c) none c.self.inside.frames.in_order c.self.invariant.unpacked_frames
          (λ rest e. e ∙ ap wrapped_sum (plus_none rest)) (ap (λ s. s.unpacked_frames) c.raise.ensures
          ∙ ap (λ b. wrapped_sum (c.self.inside.sums.unpacked_frames + number_if b)) (unpacked_is c));
      bytes = sum_inserted ram_taken es (rows_of c.push.new.self) k c.args.frame None
          c.self.inside.sums.bytes_of_ram_used c.self.inside.sums.bytes_of_ram_used c.raise.new.self.bytes_of_ram_used
          (put c) none c.self.inside.frames.in_order c.self.invariant.bytes
          (λ rest e. e ∙ ap wrapped_sum (plus_none rest))
          (ap (λ s. s.bytes_of_ram_used) c.raise.ensures
          ∙ ap (λ n. wrapped_sum (c.self.inside.sums.bytes_of_ram_used + n)) (c.bytes_of_ram_used-bytes.ensures
          ∙ ram_says c.deref-2.result.now ∙ ap (λ f. ram_of (frame_of f)) c.deref-2.ensures));
    }

pub returns-clause-ok : goal.returns-clause-ok
returns-clause-ok c =
    let k = index_of (shared_frame c.args.frame) in
    let es = rows_of c.self.inside.frames in
    held_of-inserted es (rows_of c.push.new.self) k c.args.frame
    (λ q. ap (lookup (at q)) (put c) ∙ lookup-insert k c.args.frame es q)
    ∙ ap (λ m. fin.insert m k (shared_frame c.args.frame)) c.self.view_is
