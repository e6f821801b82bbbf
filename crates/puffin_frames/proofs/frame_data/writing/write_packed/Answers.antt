-- The packet is written as its front and its streams, and then the length of the details and the details.
use Rattle.std.proofs.Common.{◌≡◌, length, rules}
use Rattle.std.proofs.lemmas.Result.{err_from_is_err_and, on_ok_weaker}
use Rattle.std.proofs.KnownBytes.{Appends-trans}
use Rattle.puffin_frames.proofs.Writing.{beginning_more, beginning_after, begun_if}
use Rattle.puffin_frames.proofs.frame_data.writing.write_packed.Goals as goal

pub returns-in_err-write_both-clause-written : goal.returns-in_err-write_both-clause-written
returns-in_err-write_both-clause-written g c =
    let failed = err_from_is_err_and c.from_residual-in_err-write_both.result c.from_residual-in_err-write_both.ensures.1 in
    let len : c.len-len.result ≡ length c.args.streams.now.bytes.items = search rules in
    let begins =
    rw (c.deref.ensures.value, c.deref-2.ensures.value, c.in_ok-head.ensures.ok, len) at
    c.in_err-write_both.ensures.err in
    record {
      ok = search rules;
      begun = rw failed.1 (λ _. beginning_more _ _ _ _ begins);
      untouched = search rules;
      io = search rules;
      too_long = search rules;
      cause = search rules;
      none_failed = search rules;
    }

pub returns-clause-written : goal.returns-clause-written
returns-clause-written g c =
    let len : c.len-len.result ≡ length c.args.streams.now.bytes.items = search rules in
    let first =
    rw (c.deref.ensures.value, c.deref-2.ensures.value, c.in_ok-head.ensures.ok, len) at
    c.in_ok-write_both.ensures.ok in
    let second = rw c.to_le_bytes.ensures at c.write_both-2.ensures.err in
    let after = rw c.to_le_bytes.ensures at c.write_both-2.ensures.ok in
    record {
      ok = on_ok_weaker c.write_both-2.result (λ begins. Appends-trans _ _ _ _ _ first begins) after;
      begun = begun_if c.write_both-2.result (λ begins. beginning_after _ _ _ _ _ first begins) second;
      untouched = search rules;
      io = search rules;
      too_long = search rules;
      cause = search rules;
      none_failed = search rules;
    }
