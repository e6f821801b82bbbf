-- The frames so far were listed; where listing stops, and why.
--
-- Each clause holds for all bytes `unread` that the reader had before the file's letters were read (`begun`). The loop's invariant,
-- `before`, says for these what `IsListing` does. `fresh`: the frame that was read is opened as it is stored.
use Rattle.std.proofs.Common.{List, [], ◌∷◌, ◌++◌, inr, refl, subst, ◌∙◌, arith, length-append}
use Rattle.std.proofs.lemmas.Result.{err_from_is_err_and}
use Rattle.puffin_frames.specs.Packet.Stored.{Stored}
use Rattle.puffin_frames.specs.Packet.Next.{stored_of}
use Rattle.puffin_look.specs.inner.Listings.{AddsFrame, FailsToAdd}
use Rattle.puffin_look.proofs.Listed.{opened_fresh, listing_begun, goes_on, frame_cut, head_cut, not_read, not_added, too_many}
use Rattle.puffin_look.proofs.listing.list_behind.Goals as goal

pub returns-in_err-write_all-clause-err : goal.returns-in_err-write_all-clause-err
returns-in_err-write_all-clause-err g c =
    let (is_io, why) = c.in_err-write_all.ensures.io in
    let (cause, is_err, same_cause) = err_from_is_err_and c.from_residual.result c.from_residual.ensures.1 in
    rw (is_err, same_cause) (λ unread begun. head_cut g.L.Listing.text g.L.Listing.takes c.args.indices g.L.Listing.refuses
    c.args.listing.now _ _ _ _ _ _ (g.met.L.Listing.takes_none c.args.listing.now) c.pending.ensures
    is_io c.in_err-write_all.ensures.err)

pub frames-init : goal.frames-init
frames-init g c = record {
  stored = [];
  more = [];
  listing = λ unread begun. listing_begun g.L.Listing.text g.L.Listing.takes c.args.indices g.met.L.Listing.takes_more c.args.listing.now
      c.clear.new.self _ _ _ _ _ begun c.pending.ensures c.in_ok-write_all.ensures.ok c.clear.ensures.text c.clear.ensures.same;
  count = refl;
  reads = refl;
  writes = c.in_ok-write_all.ensures.failures;
}

pub returns-in_err-frame-clause-err : goal.returns-in_err-frame-clause-err
returns-in_err-frame-clause-err g c =
    let (cause, is_err, same_cause) = err_from_is_err_and c.from_residual-in_err-frame.result c.from_residual-in_err-frame.ensures.1 in
    let before = c.frames.invariant in
    rw (is_err, same_cause) (λ unread begun. not_read g.L.Listing.text g.L.Listing.takes c.args.indices g.L.Listing.refuses
    c.args.listing.now c.frames.listing _ _ _ _ _ before.stored before.more _ (before.listing unread begun) c.in_err-frame.ensures.next)

pub returns-in_default-clause-ok : goal.returns-in_default-clause-ok
returns-in_default-clause-ok g c = λ unread begun.
    let before = c.frames.invariant in
    let h = before.listing unread begun in
    record {
      stored = before.stored;
      took = (rw c.in_default.is at c.in_ok-frame.ensures.end) _ before.stored h.given (omega (arith, before.count, c.frames-test.true));
      begins = inr (_, h.given);
      more = before.more;
      listed = h.listed;
      none_left = h.none_left;
      written = h.written;
    }

pub returns-in_err-add_frame-clause-err : goal.returns-in_err-add_frame-clause-err
returns-in_err-add_frame-clause-err g c =
    let (cause, is_err, same_cause) = err_from_is_err_and c.from_residual-in_err-add_frame.result
    c.from_residual-in_err-add_frame.ensures.1 in
    let before = c.frames.invariant in
    let frame = c.in-Some.frame in
    let fresh = opened_fresh frame (rw c.in-Some.is at c.in_ok-frame.ensures.fresh) in
    let fails = subst (λ r. FailsToAdd g.L.Listing.refuses c.args.indices c.frames.listing c.add_frame.new.listing r
    c.in_err-add_frame.field-0.0) fresh c.in_err-add_frame.ensures.err in
    rw (is_err, same_cause) (λ unread begun.
    let h = before.listing unread begun in
    let given = (rw c.in-Some.is at c.in_ok-frame.ensures.given) _ before.stored h.given in
    not_added g.L.Listing.text g.L.Listing.takes c.args.indices g.L.Listing.refuses c.args.listing.now c.frames.listing
    c.add_frame.new.listing _ _ _ _ _ before.stored (stored_of frame) before.more c.in_err-add_frame.field-0.0 h given fails)

pub returns-in_err-write_all-2-clause-err : goal.returns-in_err-write_all-2-clause-err
returns-in_err-write_all-2-clause-err g c =
    let (is_io, why) = c.in_err-write_all-2.ensures.io in
    let (cause, is_err, same_cause) = err_from_is_err_and c.from_residual-in_err-write_all-2.result
    c.from_residual-in_err-write_all-2.ensures.1 in
    let before = c.frames.invariant in
    let frame = c.in-Some.frame in
    let fresh = opened_fresh frame (rw c.in-Some.is at c.in_ok-frame.ensures.fresh) in
    let added = subst
    (λ r. AddsFrame g.L.Listing.text g.L.Listing.takes c.args.indices c.frames.listing c.add_frame.new.listing r) fresh
    c.in_ok-add_frame.ensures.ok in
    rw (is_err, same_cause) (λ unread begun.
    let h = before.listing unread begun in
    let given = (rw c.in-Some.is at c.in_ok-frame.ensures.given) _ before.stored h.given in
    frame_cut g.L.Listing.text g.L.Listing.takes c.args.indices g.met.L.Listing.takes_more g.L.Listing.refuses c.args.listing.now
    c.frames.listing c.add_frame.new.listing _ _ _ _ _ _ before.stored (stored_of frame) before.more _ _ h given added
    c.pending-in-frames.ensures is_io c.in_err-write_all-2.ensures.err)

pub frames-preserved : goal.frames-preserved
frames-preserved g c =
    let before = c.frames.invariant in
    let frame = c.in-Some.frame in
    let one : List Stored = stored_of frame ∷ [] in
    let fresh = opened_fresh frame (rw c.in-Some.is at c.in_ok-frame.ensures.fresh) in
    let added = subst
    (λ r. AddsFrame g.L.Listing.text g.L.Listing.takes c.args.indices c.frames.listing c.add_frame.new.listing r) fresh
    c.in_ok-add_frame.ensures.ok in record {
      stored = before.stored ++ one;
      more = before.more ++ added.more;
      listing = λ unread begun.
          let h = before.listing unread begun in
          let given = (rw c.in-Some.is at c.in_ok-frame.ensures.given) _ before.stored h.given in
          goes_on g.L.Listing.text g.L.Listing.takes c.args.indices g.met.L.Listing.takes_more c.args.listing.now c.frames.listing
          c.add_frame.new.listing c.clear-in-frames.new.self _ _ _ _ _ _ before.stored (stored_of frame) before.more _ h given added
          c.pending-in-frames.ensures c.in_ok-write_all-2.ensures.ok c.clear-in-frames.ensures.text
          c.clear-in-frames.ensures.same;
      count = omega (arith, length-append before.stored one, before.count);
      reads = c.in_ok-frame.ensures.failures ∙ before.reads;
      writes = c.in_ok-write_all-2.ensures.failures ∙ before.writes;
    }

pub returns-clause-err : goal.returns-clause-err
returns-clause-err g c =
    let before = c.frames.invariant in
    λ unread begun. too_many g.L.Listing.text g.L.Listing.takes c.args.indices g.L.Listing.refuses c.args.listing.now
    c.frames.listing _ _ _ _ before.stored before.more (before.listing unread begun) (omega (arith, before.count, c.frames-test.false))
