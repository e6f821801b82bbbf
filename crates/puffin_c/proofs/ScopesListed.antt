-- The scopes of a stream are listed one after the other.
use Rattle.std.proofs.Common.{◌≡◌, inl, inr, ℕ, ◌+◌, List, [], ◌∷◌, ◌++◌, length, ap, sym, ◌∙◌, append-nil, length-append, arith}
use Rattle.puffin_data.specs.declared.data.form.Form.{Form}
use Rattle.puffin_data.specs.declared.error.Error.{Error}
use Rattle.puffin_data.specs.Forest.{Span, Forest}
use Rattle.puffin_data.specs.Forest.Spelling.{Spells}
use Rattle.puffin_data.specs.Walk.{IsFault}
use Rattle.puffin_data.specs.Walk.PlacedScopes.{nested_in}
use Rattle.puffin_data.specs.Walk.Visitor.{TakesAll, StopsEarly}
use Rattle.puffin_c.specs.declared.scopes.PuffinScope.{PuffinScope}
use Rattle.puffin_c.specs.declared.scopes.ScopeList.{ScopeList}
use Rattle.puffin_c.specs.Lists.{scope_row, scope_rows, scope_texts}
use Rattle.puffin_c.specs.ScopeLists.{TakesScopes, RefusesScope, StandsFor}

-- one scope more
pub one_taken : (u v : ScopeList) (around : List Span) (span : Span) (row : PuffinScope) →
    v.rows.items ≡ u.rows.items ++ row ∷ [] → v.texts.items ≡ u.texts.items ++ span.text
    → row ≡ scope_row (length u.texts.items) (record { around = around; span = span }) →
    TakesScopes u (record { around = around; span = span } ∷ []) v
one_taken u v around span row rows texts is = record {
  rows = rows ∙ ap (λ (r : PuffinScope). u.rows.items ++ r ∷ []) is;
  texts = texts ∙ ap (λ (t : List ℕ). u.texts.items ++ t) (sym (append-nil span.text));
}

-- the depth of its children
pub one_deeper : (u v : ScopeList) (around : List Span) (span : Span) (row : PuffinScope) (depth inner : ℕ) →
    v.rows.items ≡ u.rows.items ++ row ∷ [] → inner ≡ depth + 1 → StandsFor u depth around →
    StandsFor v inner (around ++ span ∷ [])
one_deeper u v around span row depth inner rows is stands =
    let longer = ap length rows ∙ length-append u.rows.items (row ∷ []) in
    let deeper = length-append around (span ∷ []) in
    let (same, low) = stands in (omega (arith, is, deeper, same), omega (arith, longer, is, low))

module _ (form : Form) (from to : ScopeList) (bytes : List ℕ) (tried : ℕ) where
  -- a list refuses no scope, so the walk stops at the first fault
  pub stopped : (e : Error) → StopsEarly form TakesScopes RefusesScope from to bytes tried e → IsFault form bytes e
  stopped e (inl faulty) = (faulty.place, faulty.first)
  stopped e (inr refusal) = absurd refusal.refused

  -- a walk to the end lists all scopes of the forest
  pub all_listed : from.rows.items ≡ [] → from.texts.items ≡ [] → TakesAll form TakesScopes from to bytes tried
      → (f : Forest) × Spells form bytes f × (to.rows.items ≡ scope_rows 0 (nested_in [] f))
      × (to.texts.items ≡ scope_texts (nested_in [] f))
  all_listed no_rows no_texts walked =
      let scopes = nested_in [] walked.forest in (
        walked.forest,
        walked.spells,
        walked.taken.rows ∙ ap (λ (l : List PuffinScope). l ++ scope_rows (length from.texts.items) scopes) no_rows
            ∙ ap (λ (t : List ℕ). scope_rows (length t) scopes) no_texts,
        walked.taken.texts ∙ ap (λ (t : List ℕ). t ++ scope_texts scopes) no_texts,
      )
