-- The frames that the reader gave are summed up; if it fails, or there are too many frames, that is the fault.
use Rattle.std.proofs.Common.{List, [], ◌∷◌, ◌++◌, ◌∙◌, inl, arith, length, length-append}
use Rattle.std.proofs.lemmas.Result.{err_from_is_err_and}
use Rattle.puffin_threads.specs.Thread.ThreadKey.{key_of}
use Rattle.puffin_frames.specs.Packet.Stored.{Stored}
use Rattle.puffin_frames.specs.Packet.Next.{stored_of}
use Rattle.puffin_view.proofs.lemmas.FilesRead.{spent, most_frames}
use Rattle.puffin_view.proofs.lemmas.FrameStreams.{fresh_frame}
use Rattle.puffin_report.proofs.Stepping.{room_left, none_left, ends_so, if_ok_so, if_err_so}
use Rattle.puffin_report.proofs.summary.summarize.Goals as goal

pub returns-in_err-frame-clause-err : goal.returns-in_err-frame-clause-err
returns-in_err-frame-clause-err g c =
    let p = err_from_is_err_and c.from_residual-in_err-frame.result c.from_residual-in_err-frame.ensures.1 in
    let (stored, given, summed, counted, failures) = c.frames.invariant in
    let few = room_left stored c.frames.counter counted c.frames-test.true in
    rw (p.1, p.2) (inl (c.in_err-frame.ensures.fault _ stored given few))

pub returns-in_default-clause-summary : goal.returns-in_default-clause-summary
returns-in_default-clause-summary g c =
    let (stored, given, summed, counted, failures) = c.frames.invariant in
    let few = room_left stored c.frames.counter counted c.frames-test.true in
    let took = (rw c.in_default.is at c.in_ok-frame.ensures.end) _ stored given few in
    if_ok_so c.finish.result (λ summary sums. (stored, took, sums (key_of c.args.thread.now) stored summed few)) c.finish.ensures.ok

pub returns-in_default-clause-err : goal.returns-in_default-clause-err
returns-in_default-clause-err g c =
    let (stored, given, summed, counted, failures) = c.frames.invariant in
    let few = room_left stored c.frames.counter counted c.frames-test.true in
    let took = (rw c.in_default.is at c.in_ok-frame.ensures.end) _ stored given few in
    if_err_so c.finish.result
    (λ fault ends. ends_so (key_of c.args.thread.now) _ _ stored fault took
    (ends (key_of c.args.thread.now) stored summed few)) c.finish.ensures.err

pub frames-preserved : goal.frames-preserved
frames-preserved g c =
    let (stored, given, summed, counted, failures) = c.frames.invariant in
    let frame = c.in-Some.frame in
    let one : List Stored = stored_of frame ∷ [] in (
      stored ++ one,
      (rw c.in-Some.is at c.in_ok-frame.ensures.given) _ stored given,
      c.in_ok-sum.ensures.ok (key_of c.args.thread.now) stored (stored_of frame)
          (fresh_frame frame (rw c.in-Some.is at c.in_ok-frame.ensures.fresh)) summed,
      omega (arith, length-append stored one, counted),
      c.in_ok-frame.ensures.failures ∙ failures,
    )

pub returns-clause-err : goal.returns-clause-err
returns-clause-err g c =
    let (stored, given, summed, counted, failures) = c.frames.invariant in
    let none = none_left stored c.frames.counter counted c.frames-test.false c.frames.auto.counter-end in
    inl (spent _ _ stored (most_frames (length stored) none) given)
