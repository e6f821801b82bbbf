-- What was printed is the lines of the threads in the frames that were read.
--
-- The lemmas of `ThreadsPrinted` want the same each time: that no totals were there before, and what `list_behind` says of a file whose
-- letters were read (`begun`).
use Rattle.std.proofs.Common.{List, ℕ, inl, inr, refl, ap, subst, sym, ◌∙◌}
use Rattle.std.proofs.lemmas.Result.{err_from_is_err_and, on_ok_weaker}
use Rattle.std.specs.Io.KnownBytes.{Appends}
use Rattle.puffin_data.specs.Device.{WritesBeginning}
use Rattle.puffin_threads.specs.Thread.ThreadKey.{by_key}
use Rattle.puffin_look.specs.Printed.{RefusesNone}
use Rattle.puffin_look.specs.ThreadLines.{IsThreadList}
use Rattle.puffin_look.proofs.Closings.{end_failed, no_letters}
use Rattle.puffin_look.proofs.Listed.{if_err_so}
use Rattle.puffin_look.proofs.ThreadsPrinted.{ends, silent, told_outside, told_nothing, all_printed, all_told, cut_told}
use Rattle.puffin_look.proofs.threads.print_threads.Goals as goal

pub returns-then-fails_outside-clause-err : goal.returns-then-fails_outside-clause-err
returns-then-fails_outside-clause-err g c =
    told_outside _ _ _ _ _ _ (ap by_key c.new-threads.ensures) c.args.form c.list_behind-answer.result
    (sym c.fails_outside.ensures
    ∙ c.if-fails_outside.true) (ends _ _ _ _ _ _ (ap by_key c.new-threads.ensures) c.list_behind-answer.result
    (on_ok_weaker c.list_behind-answer.result (λ h. h _ c.in_ok-read_magic.ensures.begun) c.list_behind-answer.ensures.ok)
    (if_err_so c.list_behind-answer.result
    (λ e h. inl (h _ c.in_ok-read_magic.ensures.begun)) c.list_behind-answer.ensures.err))

pub returns-in_err-text-clause-err : goal.returns-in_err-text-clause-err
returns-in_err-text-clause-err g c =
    let (cause, is_err, memory) = err_from_is_err_and c.from_residual-in_err-text.result c.from_residual-in_err-text.ensures.1 in
    rw is_err (told_nothing c.list_behind-answer.new.listing c.list_behind-answer.new.listing _ _ _ _ c.args.form cause (inr memory)
    (silent _ _ _ _ _ _ (ap by_key c.new-threads.ensures) c.list_behind-answer.result
    (ends _ _ _ _ _ _ (ap by_key c.new-threads.ensures) c.list_behind-answer.result
    (on_ok_weaker c.list_behind-answer.result (λ h. h _ c.in_ok-read_magic.ensures.begun) c.list_behind-answer.ensures.ok)
    (if_err_so c.list_behind-answer.result
    (λ e h. inl (h _ c.in_ok-read_magic.ensures.begun)) c.list_behind-answer.ensures.err))))

pub returns-in_err-write_all-clause-err : goal.returns-in_err-write_all-clause-err
returns-in_err-write_all-clause-err g c =
    let (is_io, why) = c.in_err-write_all.ensures.io in
    let (cause, is_err, same_cause) = err_from_is_err_and c.from_residual-in_err-write_all.result
    c.from_residual-in_err-write_all.ensures.1 in
    rw (is_err, same_cause) (cut_told _ _ _ _ _ _ (ap by_key c.new-threads.ensures) c.args.form
    _ _ c.in_ok-text.ensures c.list_behind-answer.result c.in_err-write_all.field-0.0
    (sym c.fails_outside.ensures ∙ c.if-fails_outside.false)
    (ends _ _ _ _ _ _ (ap by_key c.new-threads.ensures) c.list_behind-answer.result
    (on_ok_weaker c.list_behind-answer.result (λ h. h _ c.in_ok-read_magic.ensures.begun) c.list_behind-answer.ensures.ok)
    (if_err_so c.list_behind-answer.result
    (λ e h. inl (h _ c.in_ok-read_magic.ensures.begun)) c.list_behind-answer.ensures.err)) is_io
    (subst (λ (bs : List ℕ). WritesBeginning (g.D.Drain.contents c.list_behind-answer.new.drain)
    (g.D.Drain.contents c.write_all.new.drain) bs) c.deref.ensures.value c.in_err-write_all.ensures.err))

pub returns-clause-err : goal.returns-clause-err
returns-clause-err g c =
    all_told _ _ _ _ _ _ (ap by_key c.new-threads.ensures) c.args.form _ _ c.in_ok-text.ensures c.list_behind-answer.result
    (sym c.fails_outside.ensures ∙ c.if-fails_outside.false)
    (if_err_so c.list_behind-answer.result (λ e h. h _ c.in_ok-read_magic.ensures.begun) c.list_behind-answer.ensures.err)
    (subst (λ (bs : List ℕ). Appends (g.D.Drain.contents c.list_behind-answer.new.drain)
    (g.D.Drain.contents c.write_all.new.drain) bs) c.deref.ensures.value c.in_ok-write_all.ensures.ok)

pub returns-in_err-read_magic-clause-err : goal.returns-in_err-read_magic-clause-err
returns-in_err-read_magic-clause-err g c =
    let (cause, is_err, same_cause) = err_from_is_err_and c.from_residual.result c.from_residual.ensures.1 in
    rw (is_err, same_cause) (no_letters (IsThreadList c.args.form) RefusesNone _ refl _ _ _ _ c.in_err-read_magic.ensures.err)

pub returns-clause-ok : goal.returns-clause-ok
returns-clause-ok g c =
    all_printed _ _ _ _ _ _ (ap by_key c.new-threads.ensures) c.args.form _ _ c.in_ok-text.ensures c.list_behind-answer.result
    (ends _ _ _ _ _ _ (ap by_key c.new-threads.ensures) c.list_behind-answer.result
    (on_ok_weaker c.list_behind-answer.result (λ h. h _ c.in_ok-read_magic.ensures.begun) c.list_behind-answer.ensures.ok)
    (if_err_so c.list_behind-answer.result
    (λ e h. inl (h _ c.in_ok-read_magic.ensures.begun)) c.list_behind-answer.ensures.err))
    (subst (λ (bs : List ℕ). Appends (g.D.Drain.contents c.list_behind-answer.new.drain)
    (g.D.Drain.contents c.write_all.new.drain) bs) c.deref.ensures.value c.in_ok-write_all.ensures.ok)

pub returns-in_err-write_all-clause-io : goal.returns-in_err-write_all-clause-io
returns-in_err-write_all-clause-io g c =
    let (is_io, failed) = c.in_err-write_all.ensures.io in
    λ is. end_failed c.list_behind-answer.result _ _ _
    (sym c.fails_outside.ensures ∙ c.if-fails_outside.false) c.list_behind-answer.ensures.drained failed
