-- If the letters were read, listing ends as it does behind them; else there are no frames.
use Rattle.std.proofs.Common.{inl}
use Rattle.std.proofs.lemmas.Result.{err_from_is_err_and, on_ok_weaker}
use Rattle.puffin_look.proofs.Listed.{if_err_so, not_a_file}
use Rattle.puffin_look.proofs.listing.list_frames.Goals as goal

pub returns-in_err-read_magic-clause-err : goal.returns-in_err-read_magic-clause-err
returns-in_err-read_magic-clause-err g c =
    let (cause, is_err, same_cause) = err_from_is_err_and c.from_residual.result c.from_residual.ensures.1 in
    rw (is_err, same_cause) (not_a_file g.L.Listing.text g.L.Listing.takes c.args.indices g.L.Listing.refuses c.args.listing.now
    _ _ _ _ (g.met.L.Listing.takes_none c.args.listing.now) c.in_err-read_magic.ensures.err)

pub returns-clause-ok : goal.returns-clause-ok
returns-clause-ok g c = on_ok_weaker c.list_behind.result (λ h. h _ c.in_ok-read_magic.ensures.begun) c.list_behind.ensures.ok

pub returns-clause-err : goal.returns-clause-err
returns-clause-err g c = if_err_so c.list_behind.result (λ e h. inl (h _ c.in_ok-read_magic.ensures.begun)) c.list_behind.ensures.err
