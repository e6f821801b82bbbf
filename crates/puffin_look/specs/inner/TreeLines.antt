-- What the lines of a frame take from a stream, scope by scope.
use Rattle.std.specs.Prelude.{◌≡◌, ℕ, List, [], ◌++◌, length}
use Rattle.std.specs.List.{flat_map}
use Rattle.std.proofs.Common.{refl, sym, ap, ◌∙◌, append_assoc, append-nil}
use Rattle.std.proofs.lemmas.List.Concat.{flat_map-append}
use Rattle.puffin_data.specs.Forest.{Span}
use Rattle.puffin_data.specs.Walk.PlacedScopes.{ScopeInContext}
use Rattle.puffin_look.specs.FrameTree.{scope_line, outer_time}
use Rattle.puffin_look.specs.Cells.{length_of}
use Rattle.puffin_look.specs.declared.tree.Lines.{Lines}
use Rattle.puffin_look.specs.declared.tree.Outer.{Outer}

-- this text was appended, and the rest stayed
pub record HasMoreLines (old new : Lines) (more : List ℕ) : Type 0 where
  pub text : new.text.items ≡ old.text.items ++ more
  pub known : new.known ≡ old.known
  pub range : new.range_ns ≡ old.range_ns

abbrev pub scope_lines : Lines → List ScopeInContext → List ℕ
scope_lines lines scopes = flat_map (scope_line lines.known.now lines.range_ns) scopes

abbrev pub TakesScopes : Lines → List ScopeInContext → Lines → Type 0
TakesScopes old scopes new = HasMoreLines old new (scope_lines old scopes)

-- what is kept belongs to the innermost of these scopes, or to the frame
pub record StandsFor (lines : Lines) (outer : Outer) (around : List Span) : Type 0 where
  pub level : outer.level ≡ length around
  pub time : outer.time ≡ outer_time (length_of lines.range_ns) around

pub scopes_none : (v : Lines) → TakesScopes v [] v
scopes_none v = record { text = sym (append-nil v.text.items); known = refl; range = refl }

pub scopes_more : (u v w : Lines) (xs ys : List ScopeInContext) → TakesScopes u xs v →
    TakesScopes v ys w → TakesScopes u (xs ++ ys) w
scopes_more u v w xs ys a b =
    let same : scope_lines v ys ≡ scope_lines u ys =
    λ i. flat_map (scope_line (a.known i).now (a.range i)) ys in
    record {
      text = b.text ∙ (λ i. a.text i ++ same i)
          ∙ append_assoc u.text.items (scope_lines u xs) (scope_lines u ys)
          ∙ ap (λ (t : List ℕ). u.text.items ++ t)
          (sym (flat_map-append (scope_line u.known.now u.range_ns) xs ys));
      known = b.known ∙ a.known;
      range = b.range ∙ a.range;
    }

pub still_stands : (u v : Lines) (xs : List ScopeInContext) (w : Outer) (around : List Span) →
    TakesScopes u xs v → StandsFor u w around → StandsFor v w around
still_stands u v xs w around t s = record {
  level = s.level;
  time = s.time ∙ sym (λ i. outer_time (length_of (t.range i)) around);
}
