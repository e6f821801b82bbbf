-- What the data of a page take from frames, one after the other.
use Rattle.std.specs.Prelude.{◌≡◌, ℕ, List, [], ◌++◌, length}
use Rattle.std.specs.List.{flat_map}
use Rattle.std.proofs.Common.{refl, sym, ap, subst, ◌∙◌, append_assoc, append-nil}
use Rattle.std.proofs.lemmas.List.Concat.{flat_map-append}
use denote.Ref.{Bor}
use Rattle.puffin_data.specs.declared.error.Error.{Error}
use Rattle.puffin_data.specs.Forest.{Span}
use Rattle.puffin_data.specs.Walk.PlacedScopes.{ScopeInContext}
use Rattle.puffin_view.specs.View.Stats.{cut}
use Rattle.puffin_look.specs.OpenFrame.{OpenFrame}
use Rattle.puffin_look.specs.Trees.{TreeFrame, AreRead, AreUnread}
use Rattle.puffin_look.specs.Page.{scope_json, frame_element, chosen_streams}
use Rattle.puffin_look.specs.inner.Reads.{AreRead-append}
use Rattle.puffin_look.specs.declared.page.Page.{Page}
use Rattle.puffin_look.specs.declared.page.PageFrames.{PageFrames}
use Rattle.puffin_look.specs.declared.page_rows.PageRows.{PageRows}

-- ---- scopes

-- this text was appended, and the frame's start stayed
pub record HasMoreRows (old new : PageRows) (more : List ℕ) : Type 0 where
  pub text : new.text.items ≡ old.text.items ++ more
  pub begin : new.begin ≡ old.begin

abbrev pub scopes_json : PageRows → List ScopeInContext → List ℕ
scopes_json rows scopes = flat_map (scope_json rows.begin) scopes

abbrev pub TakesScopes : PageRows → List ScopeInContext → PageRows → Type 0
TakesScopes old scopes new = HasMoreRows old new (scopes_json old scopes)

-- how many scopes are open
abbrev pub StandsFor : PageRows → ℕ → List Span → Type 0
StandsFor rows level around = level ≡ cut (length around)

pub scopes_none : (v : PageRows) → TakesScopes v [] v
scopes_none v = record { text = sym (append-nil v.text.items); begin = refl }

pub scopes_more : (u v w : PageRows) (xs ys : List ScopeInContext) → TakesScopes u xs v →
    TakesScopes v ys w → TakesScopes u (xs ++ ys) w
scopes_more u v w xs ys a b =
    let same : scopes_json v ys ≡ scopes_json u ys = λ i. flat_map (scope_json (a.begin i)) ys in
    record {
      text = b.text ∙ (λ i. a.text i ++ same i)
          ∙ append_assoc u.text.items (scopes_json u xs) (scopes_json u ys)
          ∙ ap (λ (t : List ℕ). u.text.items ++ t)
          (sym (flat_map-append (scope_json u.begin) xs ys));
      begin = b.begin ∙ a.begin;
    }

pub still_stands : (u v : PageRows) (xs : List ScopeInContext) (level : ℕ) (around : List Span) →
    TakesScopes u xs v → StandsFor u level around → StandsFor v level around
still_stands u v xs level around t s = s

-- ---- frames

-- these frames were read, and their elements are this text
pub record TakesPage (old : Page) (frames : List OpenFrame) (text : List ℕ)
    (new : Page) : Type 0 where
  pub trees : List TreeFrame
  pub read : AreRead (chosen_streams old.frames.now) frames trees
  pub is : text ≡ flat_map (frame_element old.frames.now) trees
  pub chosen : new.frames ≡ old.frames

abbrev pub RefusesFrame : Page → OpenFrame → Error → Type 0
RefusesFrame old frame cause = AreUnread (chosen_streams old.frames.now frame) cause

pub page_none : (v : Page) → TakesPage v [] [] v
page_none v = record { trees = []; read = tt; is = refl; chosen = refl }

pub page_more : (u v w : Page) (xs ys : List OpenFrame) (s t : List ℕ) → TakesPage u xs s v →
    TakesPage v ys t w → TakesPage u (xs ++ ys) (s ++ t) w
page_more u v w xs ys s t a b =
    let chosen = u.frames.now in
    record {
      trees = a.trees ++ b.trees;
      read = AreRead-append (chosen_streams chosen) xs ys a.trees b.trees a.read (
          subst (λ (p : Bor PageFrames). AreRead (chosen_streams p.now) ys b.trees) a.chosen b.read);
      is = (λ i. a.is i ++ b.is i)
          ∙ (λ i. flat_map (frame_element chosen) a.trees
          ++ flat_map (frame_element (a.chosen i).now) b.trees)
          ∙ sym (flat_map-append (frame_element chosen) a.trees b.trees);
      chosen = b.chosen ∙ a.chosen;
    }
