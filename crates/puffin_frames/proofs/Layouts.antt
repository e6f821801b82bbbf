-- Each frame's streams have a layout, which is read as just them.
use Rattle.std.proofs.Common.{◌^◌, ◌<◌, List, length, sym, subst}
use Rattle.std.specs.Map.{keys_of}
use Rattle.std.specs.List.{AllByRecursion}
use Rattle.std.specs.List.Sorted.{IsStrictlySortedBy}
use Rattle.std.specs.FinMap.{entries}
use Rattle.std.specs.Arc.{arc_value}
use Rattle.std.specs.declared.sync.Arc.{Arc}
use Rattle.puffin_data.specs.declared.data.form.Form.{Form}
use Rattle.puffin_data.specs.declared.data.info.StreamInfo.{StreamInfo}
use Rattle.puffin_data.specs.Honesty.{StreamFacts}
use Rattle.puffin_threads.specs.declared.thread_profiler.thread_info.ThreadInfo.{ThreadInfo}
use Rattle.puffin_threads.specs.Thread.ThreadKey.{ThreadKey, thread_cmp}
use Rattle.puffin_frames.specs.declared.frame_data.frame.FrameData.{FrameData}
use Rattle.puffin_frames.specs.declared.frame_data.held.Held.{Held}
use Rattle.puffin_frames.specs.declared.frame_data.held.Held.TheVariants.{Own, Shared, Packed, Both}
use Rattle.puffin_frames.specs.Packet.Structs.{form_of_all, AreStreams}
use Rattle.puffin_frames.specs.Frame.Contents.{shared_streams, held_as, holding_of}
use Rattle.puffin_data.specs.Value.Layout.{AreItems}
use Rattle.puffin_frames.specs.Frame.Holding.{HaveLayout, IsHolding}
use Rattle.puffin_frames.specs.inner.Pairs.{pairs_of}
use Rattle.puffin_frames.proofs.Listed.{listed-sorted, entries-listed}
use Rattle.puffin_frames.proofs.FormsOfAll.{Fits, sorted_in, form_stored}

module _ {A : Type 0} (shared : List (ThreadInfo × Arc StreamInfo A)) where
  -- what has a layout in some packets has one in those that store it
  pub stored_plainly : (packed : Form) →
      AreStreams packed (pairs_of shared) →
      AreStreams (form_of_all (entries (shared_streams shared))) (entries (shared_streams shared))
  stored_plainly packed fit =
      let listed = entries-listed shared (sorted_in packed (pairs_of shared) fit.1) in
      subst (λ (xs : List (ThreadKey × StreamFacts)). AreStreams (form_of_all xs) xs) (sym listed)
      (subst (λ (f : Form). AreStreams f (pairs_of shared)) (form_stored packed (pairs_of shared) fit) fit)

  -- streams in order, whose threads and counts fit
  pub all_laid_out : IsStrictlySortedBy thread_cmp (keys_of shared) → length (pairs_of shared) < 2 ^ 64 →
      AllByRecursion Fits (pairs_of shared) →
      HaveLayout (shared_streams shared)
  all_laid_out sorted short fit =
      subst (λ (xs : List (ThreadKey × StreamFacts)).
      AreItems Fits xs)
      (sym (entries-listed shared (listed-sorted shared sorted))) (short, fit)

-- ---- frames

-- each way of holding streams keeps that they are read again
held_so : (held : Held) → IsHolding (held_as held)
held_so (Own frame) = frame.read_again
held_so (Shared frame) = (arc_value frame).read_again
held_so (Packed packing) = tt
held_so (Both both) = both.same

pub frame_so : (frame : FrameData) → IsHolding (holding_of frame)
frame_so frame = held_so frame.held
