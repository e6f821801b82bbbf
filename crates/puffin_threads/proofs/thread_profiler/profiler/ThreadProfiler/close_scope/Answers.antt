-- The offset is that of the innermost open scope, so there is one to end.
use Rattle.std.proofs.Common.{ap, arith}
use Rattle.std.proofs.lemmas.Option.{slice_get_within}
use Rattle.puffin_data.specs.Forest.Words.{open_after}
use Rattle.puffin_threads.specs.Thread.Calls.{Thread, offsets_of}
use Rattle.puffin_threads.proofs.RecordedScopes.{length-open_offsets}
use Rattle.puffin_threads.proofs.thread_profiler.profiler.ThreadProfiler.close_scope.Goals as goal

pub finish-requires : goal.finish-requires
finish-requires g c =
    let thread = c.args.self.now.state in
    let same = ap (λ (t : Thread). open_after 0 t.word) c.time_of_end.ensures.thread in
    omega (
      arith,
      same,
      length-open_offsets thread.form thread.word,
      slice_get_within (offsets_of thread) 0 c.args.offset c.in_ok-now_ns.ensures.innermost.innermost,
    )
