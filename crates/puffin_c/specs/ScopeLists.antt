-- How the scopes of a stream are listed, one after the other: steps of the proof.
use Rattle.std.specs.Prelude.{◌≡◌, ◌+◌, ◌≤◌, ℕ, List, [], ◌∷◌, ◌++◌, length}
use Rattle.std.proofs.lemmas.Grind.{flat_map-append}
use Rattle.std.proofs.Common.{sym, ap, ◌∙◌, append_assoc, append-nil, arith, length-append}
use Rattle.puffin_data.specs.declared.error.Error.{Error}
use Rattle.puffin_data.specs.Forest.{Span}
use Rattle.puffin_data.specs.Walk.PlacedScopes.{ScopeInContext}
use Rattle.puffin_c.specs.declared.scopes.PuffinScope.{PuffinScope}
use Rattle.puffin_c.specs.declared.scopes.ScopeList.{ScopeList}
use Rattle.puffin_c.specs.Lists.{scope_row, scope_rows, scope_texts}

-- the rows and texts of these scopes are appended
pub record TakesScopes (old : ScopeList) (scopes : List ScopeInContext) (new : ScopeList) : Type 0 where
  pub rows : new.rows.items ≡ old.rows.items ++ scope_rows (length old.texts.items) scopes
  pub texts : new.texts.items ≡ old.texts.items ++ scope_texts scopes

-- no scope is refused
abbrev pub RefusesScope : ScopeList → ScopeInContext → Error → Type 0
RefusesScope list scope cause = ⊥

-- the number of scopes around, all of which are listed
abbrev pub StandsFor : ScopeList → ℕ → List Span → Type 0
StandsFor list depth around = (depth ≡ length around) × (depth ≤ length list.rows.items)

-- ---- laws

pub rows-append : (at : ℕ) (xs ys : List ScopeInContext) →
    scope_rows at (xs ++ ys) ≡ scope_rows at xs ++ scope_rows (at + length (scope_texts xs)) ys
rows-append at [] ys =
    let same : at ≡ at + 0 = omega arith in ap (λ (n : ℕ). scope_rows n ys) same
rows-append at (x ∷ xs) ys =
    let size = length-append x.span.text (scope_texts xs) in
    let same : (at + length x.span.text) + length (scope_texts xs)
    ≡ at + length (x.span.text ++ scope_texts xs) = omega (arith, size) in
    ap (λ (l : List PuffinScope). scope_row at x ∷ l) (
    rows-append (at + length x.span.text) xs ys
    ∙ ap
    (λ (n : ℕ). scope_rows (at + length x.span.text) xs ++ scope_rows n ys)
    same)

pub takes_none : (v : ScopeList) → TakesScopes v [] v
takes_none v = record {
  rows = sym (append-nil v.rows.items);
  texts = sym (append-nil v.texts.items);
}

pub takes_more : (u v w : ScopeList) (xs ys : List ScopeInContext) → TakesScopes u xs v →
    TakesScopes v ys w → TakesScopes u (xs ++ ys) w
takes_more u v w xs ys a b =
    let size = ap length a.texts ∙ length-append u.texts.items (scope_texts xs) in record {
      rows = b.rows
          ∙ ap (λ (l : List PuffinScope). l ++ scope_rows (length v.texts.items) ys) a.rows
          ∙ append_assoc u.rows.items (scope_rows (length u.texts.items) xs)
          (scope_rows (length v.texts.items) ys)
          ∙ ap
          (λ (n : ℕ). u.rows.items ++ (scope_rows (length u.texts.items) xs ++ scope_rows n ys))
          size
          ∙ ap (λ (l : List PuffinScope). u.rows.items ++ l)
          (sym (rows-append (length u.texts.items) xs ys));
      texts = b.texts
          ∙ ap (λ (l : List ℕ). l ++ scope_texts ys) a.texts
          ∙ append_assoc u.texts.items (scope_texts xs) (scope_texts ys)
          ∙ ap (λ (l : List ℕ). u.texts.items ++ l) (sym (flat_map-append (λ s. s.span.text) xs ys));
    }

pub still_stands : (u v : ScopeList) (xs : List ScopeInContext) (depth : ℕ) (around : List Span) →
    TakesScopes u xs v → StandsFor u depth around → StandsFor v depth around
still_stands u v xs depth around t s =
    let longer = ap length t.rows
    ∙ length-append u.rows.items (scope_rows (length u.texts.items) xs) in
    let low = s.1 in (s.0, omega (arith, longer, low))
