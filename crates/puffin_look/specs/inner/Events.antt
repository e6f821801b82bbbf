-- What a trace takes from a stream, scope by scope.
use Rattle.std.specs.Prelude.{◌≡◌, ℕ, Bool, not, nat_le, ◌&&◌, ◌==◌, List, [], ◌++◌, Option, option_map}
use Rattle.std.specs.Option.{option_copied}
use Rattle.std.specs.Arc.{arc_value}
use Rattle.std.specs.List.{flat_map}
use Rattle.std.specs.declared.sync.Arc.{Arc}
use Rattle.std.specs.declared.alloc.Global.{Global}
use Rattle.std.proofs.Common.{refl, sym, ap, ◌∙◌, append_assoc, append-nil}
use Rattle.std.proofs.lemmas.List.Concat.{flat_map-append}
use denote.Ref.{Bor}
use Rattle.puffin_data.specs.Walk.PlacedScopes.{ScopeInContext}
use Rattle.puffin_threads.specs.declared.scope_details.details.ScopeDetails.{ScopeDetails}
use Rattle.puffin_threads.specs.Details.{Details, details_of}
use Rattle.puffin_look.specs.Trace.{scope_event}
use Rattle.puffin_look.specs.declared.events.Events.{Events}

-- a byte that JSON has in a string as it is
abbrev pub is_plain : ℕ → Bool
is_plain byte = nat_le 32 byte && (not (byte == 34) && not (byte == 92))

-- details that are borrowed
abbrev pub details_in : Option (Bor (Arc ScopeDetails Global)) → Option Details
details_in held = option_map (λ d. details_of (arc_value d)) (option_copied held)

-- this text was appended, and the rest stayed
pub record IsWithText (old new : Events) (more : List ℕ) : Type 0 where
  pub text : new.text.items ≡ old.text.items ++ more
  pub overview : new.overview ≡ old.overview
  pub tid : new.tid ≡ old.tid

abbrev pub scope_events : Events → List ScopeInContext → List ℕ
scope_events events scopes =
    flat_map (λ s. scope_event events.overview.now events.tid s.span) scopes

abbrev pub TakesScopes : Events → List ScopeInContext → Events → Type 0
TakesScopes old scopes new = IsWithText old new (scope_events old scopes)

pub scopes_none : (v : Events) → TakesScopes v [] v
scopes_none v =
    record { text = sym (append-nil v.text.items); overview = refl; tid = refl }

pub scopes_more : (u v w : Events) (xs ys : List ScopeInContext) → TakesScopes u xs v →
    TakesScopes v ys w → TakesScopes u (xs ++ ys) w
scopes_more u v w xs ys a b =
    let same : scope_events v ys ≡ scope_events u ys =
    λ i. flat_map (λ s. scope_event (a.overview i).now (a.tid i) s.span) ys in
    record {
      text = b.text ∙ (λ i. a.text i ++ same i)
          ∙ append_assoc u.text.items (scope_events u xs) (scope_events u ys)
          ∙ ap (λ (t : List ℕ). u.text.items ++ t)
          (sym (flat_map-append (λ s. scope_event u.overview.now u.tid s.span) xs ys));
      overview = b.overview ∙ a.overview;
      tid = b.tid ∙ a.tid;
    }
