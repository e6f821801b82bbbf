-- Each insertion puts its entry at the end.
use Rattle.std.proofs.Common.{◌<◌, ◌^◌, length, rules, arith}
use Rattle.std.specs.Map.{keys_of}
use Rattle.std.specs.List.Sorted.{IsStrictlySortedBy}
use Rattle.std.proofs.lemmas.List.{length-map}
use Rattle.std.proofs.lemmas.Map.Iter.{rest_more}
use Rattle.puffin_threads.specs.Thread.ThreadKey.{thread_cmp}
use Rattle.puffin_frames.specs.Frame.Contents.{shared_streams}
use Rattle.puffin_frames.specs.inner.Pairs.{pairs_of}
use Rattle.puffin_frames.proofs.Layouts.{all_laid_out}
use Rattle.puffin_frames.proofs.lemmas.PackedAgain.{read_again}
use Rattle.puffin_frames.proofs.Sharing.{one_more}
use Rattle.puffin_frames.proofs.frame_data.thread_streams.share_streams.Goals as goal

pub loop-thread-preserved-in_ok-_before : goal.loop-thread-preserved-in_ok-_before
loop-thread-preserved-in_ok-_before c =
    let left = rest_more (λ (x : _). x) _ _ _ _ c.in-Some.is c.next.ensures.steps in
    one_more _ _ _ _ _ _ _ _ c.loop-thread.invariant left c.in_ok-new.ensures.ok c.in_ok-_before.ensures.entries
    c.thread_fits.ensures c.counts_fit.ensures

pub loop-thread-preserved : goal.loop-thread-preserved
loop-thread-preserved c =
    let left = rest_more (λ (x : _). x) _ _ _ _ c.in-Some.is c.next.ensures.steps in
    one_more _ _ _ _ _ _ _ _ c.loop-thread.invariant left c.in_ok-new.ensures.ok c.in_ok-_before.ensures.entries
    c.thread_fits.ensures c.counts_fit.ensures

pub returns-clause-read_again : goal.returns-clause-read_again
returns-clause-read_again c =
    let es = c.loop-thread.shared.entries in
    let sorted : IsStrictlySortedBy thread_cmp (keys_of es) = search rules in
    let short : length (pairs_of es) < 2 ^ 64 =
    simp length-map (omega (arith, c.len-count.ensures.small, c.len-count.ensures.len)) in
    read_again (shared_streams es) (all_laid_out es sorted short c.loop-thread.invariant.fit)
