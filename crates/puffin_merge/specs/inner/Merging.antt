-- What the table takes from a stream, scope by scope.
use Rattle.std.specs.Prelude.{◌≡◌, ◌≤◌, ℤ, List, [], ◌∷◌, ◌++◌, length, vec_len}
use Rattle.std.proofs.Common.{refl, sym, ap, subst, ◌∙◌, append_assoc, arith}
use Rattle.std.proofs.lemmas.List.{map-append}
use Rattle.puffin_data.specs.declared.error.Error.{Error}
use Rattle.puffin_data.specs.Forest.{Span}
use Rattle.puffin_data.specs.Walk.PlacedScopes.{ScopeInContext}
use Rattle.puffin_merge.specs.declared.merge.stream.Merging.{Merging}
use Rattle.puffin_merge.specs.declared.merge.stream.OpenScope.{OpenScope}
use Rattle.puffin_merge.specs.Merge.Occurrences.{Occurrence, path_of, origin_in, occurrence_of, occurrences_in}
use Rattle.puffin_merge.specs.inner.Origins.{IsOrigin}
use Rattle.puffin_merge.specs.Merge.Refusals.{IsRefusedFor, AreAccepted, greatest_depth}
use Rattle.puffin_merge.specs.inner.Tables.{path_at, IsTableOf, Extends}

-- From one state of the visitor to the next, the scopes' occurrences are accepted, and are added to the table. This holds for
-- any occurrences that the table already had.
pub record TakesScopes (before : Merging) (scopes : List ScopeInContext) (after : Merging) :
    Type 0 where
  pub origin : after.origin ≡ before.origin
  pub extends : Extends before.table after.table
  pub accepted : (all : List Occurrence) → IsTableOf all before.table →
      AreAccepted all (occurrences_in before.origin scopes)
  pub table : (all : List Occurrence) → IsTableOf all before.table →
      IsTableOf (all ++ occurrences_in before.origin scopes) after.table

-- after the table's occurrences, the scope's occurrence is refused with this error
abbrev pub RefusesScope : Merging → ScopeInContext → Error → Type 0
RefusesScope visitor scope cause =
    (all : List Occurrence) → IsTableOf all visitor.table →
    IsRefusedFor all (occurrence_of visitor.origin scope) cause

-- The open scope is the innermost of these scopes, or stands for the top level if there are none: its node has their path.
pub record StandsFor (visitor : Merging) (open_scope : OpenScope) (around : List Span) :
    Type 0 where
  -- some occurrences are the table's
  pub table : (all : List Occurrence) × IsTableOf all visitor.table
  pub node : open_scope.node.number ≤ vec_len visitor.table.nodes
  pub path : path_at visitor.table.nodes.items open_scope.node.number ≡ path_of around
  pub depth : open_scope.depth ≡ length around
  pub shallow : open_scope.depth ≤ greatest_depth
  pub origin : open_scope.origin ≡ origin_in visitor.origin around
  pub is_origin : IsOrigin open_scope.origin

-- ---- laws

pub append-nil : {A : Type 0} (xs : List A) → xs ++ [] ≡ xs
append-nil [] = refl
append-nil (x ∷ xs) = ap (λ rest. x ∷ rest) (append-nil xs)

-- occurrences that are accepted one list after the other are accepted as one list
pub accepted-append : (all first second : List Occurrence) → AreAccepted all first →
    AreAccepted (all ++ first) second → AreAccepted all (first ++ second)
accepted-append all [] second are_accepted then_accepted =
    subst (λ (done : List Occurrence). AreAccepted done second) (append-nil all) then_accepted
accepted-append all (x ∷ first) second (shallow, fits, more) then_accepted = (
  shallow,
  fits,
  accepted-append (all ++ (x ∷ [])) first second more (
      subst (λ (done : List Occurrence). AreAccepted done second)
      (sym (append_assoc all (x ∷ []) first)) then_accepted),
)

-- no scopes change nothing
pub takes_none : (visitor : Merging) → TakesScopes visitor [] visitor
takes_none visitor = record {
  origin = refl;
  extends = record { longer = omega arith; kept = λ number within. refl };
  accepted = λ all is_table. tt;
  table = λ all is_table.
      subst (λ (xs : List Occurrence). IsTableOf xs visitor.table) (sym (append-nil all)) is_table;
}

-- taking scopes twice takes all of them
pub takes_more : (u v w : Merging) (first second : List ScopeInContext) → TakesScopes u first v →
    TakesScopes v second w → TakesScopes u (first ++ second) w
takes_more u v w first second taken then_taken =
    let split : occurrences_in u.origin (first ++ second)
    ≡ occurrences_in u.origin first ++ occurrences_in v.origin second =
    map-append (occurrence_of u.origin) first second ∙ ap
    (λ (origin : ℤ). occurrences_in u.origin first ++ occurrences_in origin second)
    (sym taken.origin) in
    let low = taken.extends.longer in
    let high = then_taken.extends.longer in
    record {
      origin = then_taken.origin ∙ taken.origin;
      extends = record {
        longer = omega (arith, low, high);
        kept = λ number within.
            then_taken.extends.kept number (omega (arith, within, low))
            ∙ taken.extends.kept number within;
      };
      accepted = λ all is_table.
          subst (λ (xs : List Occurrence). AreAccepted all xs) (sym split) (
          accepted-append all (occurrences_in u.origin first) (occurrences_in v.origin second)
          (taken.accepted all is_table)
          (then_taken.accepted (all ++ occurrences_in u.origin first) (taken.table all is_table)));
      table = λ all is_table. subst (λ (xs : List Occurrence). IsTableOf xs w.table) (
          append_assoc all (occurrences_in u.origin first) (occurrences_in v.origin second)
          ∙ ap (λ (xs : List Occurrence). all ++ xs) (sym split)) (
          then_taken.table (all ++ occurrences_in u.origin first) (taken.table all is_table));
    }

-- what stands for the open scope still does after more scopes
pub still_stands : (u v : Merging) (scopes : List ScopeInContext) (open_scope : OpenScope)
    (around : List Span) → TakesScopes u scopes v → StandsFor u open_scope around →
    StandsFor v open_scope around
still_stands u v scopes open_scope around taken stood =
    let longer = taken.extends.longer in
    let node = stood.node in
    let (all, is_table) = stood.table in
    record {
      table = (all ++ occurrences_in u.origin scopes, taken.table all is_table);
      node = omega (arith, longer, node);
      path = taken.extends.kept open_scope.node.number stood.node ∙ stood.path;
      depth = stood.depth;
      shallow = stood.shallow;
      origin = stood.origin ∙ ap (λ (origin : ℤ). origin_in origin around) (sym taken.origin);
      is_origin = stood.is_origin;
    }
