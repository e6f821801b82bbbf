-- The steps of the heaviest path, one after the other.
--
-- `step_lines` goes down by at most `n` steps, so as many as there are paths. The code goes by levels: its invariant says that the lines
-- so far and those of the steps that are left give the lines of all steps (`so_far`).
use Rattle.std.proofs.Common.{◌≡◌, ℕ, zero, suc, Bool, true, false, List, [], ◌∷◌, ◌++◌, length, codes, Option, Some, None, refl, sym, ap, subst, ◌∙◌}
use Rattle.std.specs.Prelude.{fold, if◌then◌else◌}
use Rattle.puffin_look.specs.Heavy.{Row, Step, heavier, heaviest, is_followed, step_line, lines_with, step_lines}
use Rattle.puffin_look.specs.declared.lines.Form.{Form}
use Rattle.puffin_look.specs.declared.lines.Lines.{Lines}
use Rattle.puffin_look.specs.inner.Lining.{Adds}
use Rattle.puffin_look.specs.inner.Stacks.{Held, row_of, rows_in}
use Rattle.puffin_look.proofs.Lined.{Lists, lists_more, lists_done}

module _ (form : Form) (rows : List Row) (level : ℕ) (front : List ℕ) (outer : ℕ) where
  -- the lines of a step, and of at most `n` below it
  abbrev follow : ℕ → Step → List (List ℕ)
  follow n step = step_line form level (length front) step outer ∷ step_lines form n rows (suc level) (step.0 ++ codes ";") step.1

  -- there is nothing below
  pub steps_none : (n : ℕ) → heaviest front rows ≡ None → step_lines form n rows level front outer ≡ []
  steps_none zero none = refl
  steps_none (suc n) none = ap (lines_with (follow n) level outer) none

  -- nothing below takes half of it
  pub steps_end : (n : ℕ) (step : Step) → heaviest front rows ≡ Some step → is_followed level step.1 outer ≡ false
      → step_lines form n rows level front outer ≡ []
  steps_end zero step is less = refl
  steps_end (suc n) step is less = ap (lines_with (follow n) level outer) is ∙ ap (λ (b : Bool). if b then follow n step else []) less

  -- the next step takes half of it, or is the first
  steps_more : (n : ℕ) (step : Step) → heaviest front rows ≡ Some step → is_followed level step.1 outer ≡ true
      → step_lines form (suc n) rows level front outer ≡ follow n step
  steps_more n step is half = ap (lines_with (follow n) level outer) is ∙ ap (λ (b : Bool). if b then follow n step else []) half

-- ---- the best of the paths so far

-- one path more
pub best_more : (front : List ℕ) (best new : Option Step) (e : Held) (rest it : List Held) (total : Option Step) → it ≡ e ∷ rest
    → new ≡ heavier front best (row_of e) → fold (heavier front) best (rows_in it) ≡ total
    → fold (heavier front) new (rows_in rest) ≡ total
best_more front best new e rest it total left is so_far =
    ap (λ (b : Option Step). fold (heavier front) b (rows_in rest)) is
    ∙ ap (λ (es : List Held). fold (heavier front) best (rows_in es)) (sym left) ∙ so_far

-- no path is left
pub best_done : (front : List ℕ) (best : Option Step) (it : List Held) (total : Option Step) → it ≡ []
    → fold (heavier front) best (rows_in it) ≡ total → best ≡ total
best_done front best it total none so_far = ap (λ (es : List Held). fold (heavier front) best (rows_in es)) (sym none) ∙ so_far

-- ---- the steps so far

module _ (form : Form) (rows : List Row) (level : ℕ) (front : List ℕ) (outer n : ℕ) (before : Lines) (total : List ℕ)
    (so_far : Lists before (step_lines form n rows level front outer) total) where
  -- the next step was added
  pub step_taken : (m inner : ℕ) (step : Step) (after : Lines) (new : List ℕ) → n ≡ suc m → inner ≡ suc level
      → heaviest front rows ≡ Some step → is_followed level step.1 outer ≡ true
      → Adds before after (step_line form level (length front) step outer) → new ≡ step.0 ++ codes ";"
      → Lists after (step_lines form m rows inner new step.1) total
  step_taken m inner step after new count one is half added name =
      let all : step_lines form n rows level front outer ≡ step_line form level (length front) step outer ∷ step_lines form m rows
      (suc level) (step.0 ++ codes ";") step.1 =
      ap (λ (k : ℕ). step_lines form k rows level front outer) count ∙ steps_more form rows level front outer m step is half in
      subst (λ (ls : List (List ℕ)). Lists after ls total) (sym (λ i. step_lines form m rows (one i) (name i) step.1))
      (lists_more before after (step_line form level (length front) step outer) _ total added
      (subst (λ (ls : List (List ℕ)). Lists before ls total) all so_far))

  -- no step follows
  pub steps_done : step_lines form n rows level front outer ≡ [] → before.text.items ≡ total
  steps_done none = lists_done before _ total none so_far
