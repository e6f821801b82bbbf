-- Places that are registered one after the other, and what the first frame lists: the details of all that its profiler was told.
use Rattle.std.proofs.Common.{◌≡◌, ℕ, suc, ◌+◌, Bool, true, false, cond, List, [], ◌∷◌, ◌++◌, length, map, Some}
use Rattle.std.proofs.Common.{sym, ap, ◌∙◌, arith}
use Rattle.std.specs.List.{Contains}
use Rattle.std.specs.Ordering.{nat_cmp, eq_by_cmp}
use Rattle.std.specs.FinMap.{get, entries, find, get-entries}
use Rattle.puffin_threads.specs.Details.{Details, with_id}
use Rattle.puffin_threads.specs.Details.Collection.{with_all_details, no_details, first_with_id}
use Rattle.puffin.specs.Places.{Registers}
use Rattle.puffin_accounts.specs.Running.{ListsPlaces}

found_in : (es : List (ℕ × Details)) (id : ℕ) (d : Details) → find nat_cmp id es ≡ Some d
    → Contains (map (λ (e : ℕ × Details). e.1) es) d
found_in [] id d is = absurd cc
found_in (e ∷ es) id d is = at_test (eq_by_cmp nat_cmp id e.0) is (found_in es id d)
  where
    at_test : (same : Bool) → cond same (Some e.1) (find nat_cmp id es) ≡ Some d
        → (find nat_cmp id es ≡ Some d → Contains (map (λ (f : ℕ × Details). f.1) es) d)
        → Contains (map (λ (f : ℕ × Details). f.1) (e ∷ es)) d
    at_test true found further = (0, omega arith, cc)
    at_test false found further = let later = further found in (suc later.0, omega (arith, later.1), later.2)

pub listed : ((ds : List Details) (id : ℕ) → get (with_all_details no_details ds).by_id id ≡ first_with_id id ds) → (C : Type 0)
    → ListsPlaces C
listed law C name clock details id d is =
    let all = (with_all_details no_details details).by_id in
    found_in (entries all) id d (sym (get-entries all id) ∙ law details id ∙ is)

-- one more place was registered after those that are known
pub registered : (old known new : List Details) (details : Details) (id : ℕ) → old ≡ known → Registers old details id new
    → new ≡ known ++ (with_id details (length known + 1) ∷ [])
registered old known new details id same r =
    r.added ∙ ap (λ n. old ++ (with_id details n ∷ [])) r.number ∙ ap (λ ds. ds ++ (with_id details (length ds + 1) ∷ [])) same
