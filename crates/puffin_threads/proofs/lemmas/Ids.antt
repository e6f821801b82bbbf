-- Details that lack their id, or have one.
use Rattle.std.proofs.Common.{◌≡◌, ◌↔◌, ℕ, Bool, true, false, ◌||◌, List, [], ◌∷◌, Option, None, Some, Result, Ok, Err, refl}
use Rattle.std.specs.Prelude.{IsSome, IfErr}
use Rattle.std.specs.Option.{is_none}
use Rattle.std.specs.List.{list_any}
use Rattle.std.proofs.lemmas.List.Elements.{All-cons, All-nil, All-head, All-tail}
use Rattle.puffin_data.specs.declared.error.Error.{Error}
use Rattle.puffin_data.specs.declared.error.Error.TheVariants.{MissingId, Memory}
use Rattle.puffin_threads.specs.Details.{Details, lacks_id, AllHaveIds}

-- where none lacks its id, all have one
pub none_lacks : (details : List Details) → list_any lacks_id details ≡ false → AllHaveIds details
none_lacks [] none = All-nil (λ d. IsSome d.id)
none_lacks (one ∷ others) none = by_id one.id refl none (none_lacks others) where
  by_id : (o : Option ℕ) →
      one.id ≡ o → (is_none o || list_any lacks_id others) ≡ false →
      (list_any lacks_id others ≡ false → AllHaveIds others) →
      AllHaveIds (one ∷ others)
  by_id None e k later = absurd (cc)
  by_id (Some i) e k later = All-cons (λ one. IsSome one.id) one others (rw e refl) (later k)

-- where all have one, none lacks it
pub all_have : (details : List Details) → AllHaveIds details → list_any lacks_id details ≡ false
all_have [] all = refl
all_have (one ∷ others) all =
    by_id one.id (All-head (λ one. IsSome one.id) one others all)
    (all_have others (All-tail (λ one. IsSome one.id) one others all)) where
      by_id : (o : Option ℕ) → IsSome o → list_any lacks_id others ≡ false → (is_none o || list_any lacks_id others) ≡ false
      by_id None some later = absurd (cc)
      by_id (Some i) some later = later

-- a call that is refused for memory alone doesn't miss an id
pub never_missing : {T : Type 0} (r : Result T Error) (b : Bool) →
    IfErr r (λ e. e ≡ Memory) → b ≡ false →
    (r ≡ Err MissingId) ↔ (b ≡ true)
never_missing (Ok x) b memory all = (λ e. absurd (cc), λ e. absurd (cc))
never_missing (Err cause) b memory all = (λ cause. absurd (cc), λ cause. absurd (cc))
