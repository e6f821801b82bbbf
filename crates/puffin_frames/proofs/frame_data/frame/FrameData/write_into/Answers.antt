-- However the streams are held, the packet is that of the frame's fields.
-- Only the beginning that a failed write leaves (begun) has to be told of the frame's parts. The last answer is for Both.
use Rattle.std.proofs.Common.{rules}
use Rattle.puffin_frames.proofs.frame_data.frame.FrameData.write_into.Goals as goal

pub returns-in-Own-clause-written : goal.returns-in-Own-clause-written
returns-in-Own-clause-written g c =
    let begun = rw (c.deref.ensures.value, c.in_ok-details.ensures.ok) at c.write_unpacked.ensures.written.begun in
    record {
      ok = search rules;
      begun = rw c.in-Own.is begun;
      untouched = search rules;
      io = search rules;
      too_long = search rules;
      cause = search rules;
      none_failed = search rules;
    }

pub returns-in-Shared-clause-written : goal.returns-in-Shared-clause-written
returns-in-Shared-clause-written g c =
    let begun =
    rw (c.deref-in-Shared-2.ensures.value, c.in_ok-details.ensures.ok) at
    c.write_unpacked-in-Shared.ensures.written.begun in
    let begun_so = rw c.deref-in-Shared.ensures at begun in
    record {
      ok = search rules;
      begun = rw c.in-Shared.is begun_so;
      untouched = search rules;
      io = search rules;
      too_long = search rules;
      cause = search rules;
      none_failed = search rules;
    }

pub returns-in-Packed-clause-written : goal.returns-in-Packed-clause-written
returns-in-Packed-clause-written g c =
    let begun = rw (c.deref-in-Packed.ensures.value, c.in_ok-details.ensures.ok) at c.write_packed.ensures.written.begun in
    record {
      ok = search rules;
      begun = rw c.in-Packed.is begun;
      untouched = search rules;
      io = search rules;
      too_long = search rules;
      cause = search rules;
      none_failed = search rules;
    }

pub returns-clause-written : goal.returns-clause-written
returns-clause-written g c =
    let begun =
    rw (c.deref-in-Both.ensures.value, c.in_ok-details.ensures.ok) at c.write_packed-in-Both.ensures.written.begun
    in
    record {
      ok = search rules;
      begun = rw c.in-Both.is begun;
      untouched = search rules;
      io = search rules;
      too_long = search rules;
      cause = search rules;
      none_failed = search rules;
    }
