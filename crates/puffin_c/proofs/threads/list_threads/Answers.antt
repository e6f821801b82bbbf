-- The totals are listed, and the program gets as many rows and bytes as fit.
use Rattle.std.proofs.Common.{ℕ, length, refl, sym, ap, ◌∙◌, subst}
use Rattle.std.proofs.lemmas.Result.{err_from_is_err_and}
use Rattle.puffin_threads.specs.Thread.ThreadKey.{by_key}
use Rattle.puffin_c.specs.Reporting.{laid_over}
use Rattle.puffin_c.specs.Threads.{LacksTotals}
use Rattle.puffin_c.proofs.threads.list_threads.Goals as goal

pub returns-in_err-totals : goal.returns-in_err-totals
returns-in_err-totals c =
    let (_, is_err, same_cause) = err_from_is_err_and c.from_residual.result c.from_residual.ensures.1 in
    rw is_err (refl, subst (LacksTotals c.args.file.now) (sym same_cause) c.in_err-totals.ensures.err)

pub returns : goal.returns
returns c = (
  by_key c.in_ok-totals.totals.totals.entries,
  c.in_ok-totals.ensures.ok,
  record {
    given_rows = c.give.ensures.rows ∙ ap (laid_over c.args.list.now.rows.now) (c.deref.ensures.value ∙ c.in_ok-made.ensures.rows);
    given_bytes = c.give.ensures.bytes ∙ ap (laid_over c.args.list.now.bytes.now) (c.deref-2.ensures.value ∙ c.in_ok-made.ensures.names);
    same_rows = refl;
    same_bytes = refl;
    number = ap (λ (p : ℕ × ℕ). p.0) c.give.ensures.numbers ∙ ap length (c.deref.ensures.value ∙ c.in_ok-made.ensures.rows);
    size = ap (λ (p : ℕ × ℕ). p.1) c.give.ensures.numbers ∙ ap length (c.deref-2.ensures.value ∙ c.in_ok-made.ensures.names);
  },
)
