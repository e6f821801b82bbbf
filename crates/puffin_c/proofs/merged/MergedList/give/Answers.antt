-- The program gets as many rows and bytes of texts as fit.
use Rattle.std.proofs.Common.{ℕ, refl, ap, ◌∙◌, length}
use Rattle.puffin_c.specs.Reporting.{laid_over}
use Rattle.puffin_c.proofs.merged.MergedList.give.Goals as goal

pub returns : goal.returns
returns c = λ f is. record {
  given_rows = c.give.ensures.rows ∙ ap (laid_over c.args.list.now.rows.now) (c.deref.ensures.value ∙ is.rows);
  given_bytes = c.give.ensures.bytes ∙ ap (laid_over c.args.list.now.bytes.now) (c.deref-2.ensures.value ∙ is.texts);
  same_rows = refl;
  same_bytes = refl;
  number = ap (λ (p : ℕ × ℕ). p.0) c.give.ensures.numbers ∙ ap length (c.deref.ensures.value ∙ is.rows);
  size = ap (λ (p : ℕ × ℕ). p.1) c.give.ensures.numbers ∙ ap length (c.deref-2.ensures.value ∙ is.texts);
}
