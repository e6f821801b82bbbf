-- After the last scope has ended none is open, so what the thread holds may be handed over.
use Rattle.std.proofs.Common.{◌∷◌, [], ap, arith, to_z, of_z, w64}
use Rattle.std.proofs.lemmas.Option.{slice_get_within}
use Rattle.puffin_data.specs.Forest.Tour.{Close}
use Rattle.puffin_data.specs.Forest.Words.{open_after}
use Rattle.puffin_data.proofs.lemmas.WordMeasures.{open_after-append}
use Rattle.puffin_threads.specs.Thread.Calls.{Thread, offsets_of, time_of}
use Rattle.puffin_threads.proofs.RecordedScopes.{length-open_offsets}
use Rattle.puffin_threads.proofs.thread_profiler.profiler.ThreadProfiler.end_scope.Goals as goal

pub close-requires : goal.close-requires
close-requires g c =
    let thread = c.args.self.now.state in
    let same = ap (λ (t : Thread). open_after 0 t.word) c.time_of_end.ensures.thread in
    omega (
      arith,
      same,
      length-open_offsets thread.form thread.word,
      slice_get_within (offsets_of thread) 0 c.args.offset c.in_ok-now_ns.ensures.innermost.innermost,
    )

pub hand_over-requires-clause-none_open : goal.hand_over-requires-clause-none_open
hand_over-requires-clause-none_open g c =
    let old = c.time_of_end.new.self.state in
    let at = to_z w64 (of_z w64 c.in_ok-now_ns.now_ns) in
    let closed = ap (λ (t : Thread). open_after 0 t.word) c.close.ensures.closed in
    omega (arith, closed, open_after-append 0 old.word (Close (time_of old at) ∷ []), c.in-Some.ensures.last)
