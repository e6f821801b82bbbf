-- That bytes hold the scopes of a thread has one proof at most.
use Rattle.std.proofs.Common.{ℕ, ℤ, List, [], ◌∷◌}
use Rattle.std.proofs.Math.Logic.{∥∥₁_elim}
use Rattle.std.proofs.Props.{props}
use Rattle.puffin_data.specs.declared.data.form.Form.{Form}
use Rattle.puffin_data.specs.Forest.{Forest, IsForest, IsSpan, Span, empty, node}
use Rattle.puffin_data.specs.Forest.Open.{Opened, IsOpened}
use Rattle.puffin_threads.specs.inner.StoredThread.{scopes_of, AreOpenBy, HoldsScopes}

module _ (form : Form) where
  IsSpan-prop : (span : Span) → IsProp (IsSpan form span)
  IsSpan-prop span = Prim.hlevel props

  IsForest-prop : (forest : Forest) → IsProp (IsForest form forest)
  IsForest-prop empty = Prim.hlevel props
  IsForest-prop (node span children others) =
      Prim.hlevel (props, IsSpan-prop span, IsForest-prop children, IsForest-prop others)

  IsOpened-prop : (scope : Opened) → IsProp (IsOpened form scope)
  IsOpened-prop scope = Prim.hlevel (props, IsForest-prop scope.before)

  AreOpenBy-prop : (latest : ℤ) (opened : List Opened) → IsProp (AreOpenBy form latest opened)
  AreOpenBy-prop latest [] = Prim.hlevel props
  AreOpenBy-prop latest (scope ∷ outer) = Prim.hlevel (props, IsOpened-prop scope, AreOpenBy-prop latest outer)

  pub Holds-prop : (bytes : List ℕ) (latest : ℤ) → IsProp (HoldsScopes form bytes latest)
  Holds-prop bytes latest =
      let opened = (scopes_of form bytes).opened in
      let closed = (scopes_of form bytes).closed in
      Prim.hlevel (props, AreOpenBy-prop latest opened, IsForest-prop closed)

  -- so what merely holds is a fact
  pub held : (bytes : List ℕ) (latest : ℤ) → ∥ HoldsScopes form bytes latest ∥₁ → HoldsScopes form bytes latest
  held bytes latest merely = ∥∥₁_elim merely (Holds-prop bytes latest) (λ holding. holding)
