-- The entries of a map whose keys are read by f and whose values are read by g.
use Rattle.std.proofs.Common.{◌≡◌, length, arith, Bool, true, false, true≢false, cond, Option, List, [], ◌∷◌, map, Some, refl, sym, ap, ◌∙◌}
use Rattle.std.specs.declared.cmp.Ordering.{Ordering}
use Rattle.std.specs.declared.cmp.Ordering.TheVariants.{Less, Equal, Greater}
use Rattle.std.specs.Ordering.{eq_by_cmp, is_eq, match_ordering}
use Rattle.std.specs.Cmp.{IsTotalOrder, Equal-is}
use Rattle.std.proofs.lemmas.Cmp.{tied_itself}
use Rattle.std.proofs.lemmas.Option.{none-some}
use Rattle.std.specs.Option.{option_map}
use Rattle.std.specs.Map.{keys_of, lookup, set_value}
use Rattle.std.specs.List.{AllByRecursion, AllZip}
use Rattle.std.specs.List.Sorted.{IsStrictlySortedBy}
use Rattle.std.specs.BTreeMap.{insert_entry, is_at}
use Rattle.std.specs.FinMap.{IsAntisymmetric, empty, len-entries, len-empty, insert, get, entries, from_entries, entries-insert, get-insert, get-from_entries, same_map, find, put}
use Rattle.std.specs.FinMap.Entries.{find-put, by_order}
use Rattle.std.proofs.lemmas.Map.Keys.{sorted_head, sorted_tail}

no_length : {A : Type 0} (es : List A) → length es ≡ 0 → es ≡ []
no_length [] e = refl
no_length (x ∷ es) e = absurd (omega arith)

pub entries-empty : {L Y : Type 0} (R : L → L → Ordering) → entries (empty {X = Y} {R = R}) ≡ []
entries-empty {Y = Y} R = no_length _ (sym (len-entries (empty {X = Y} {R = R})) ∙ len-empty R Y)

module _ {K L X Y : Type 0} (f : K → L) (g : X → Y) where
  -- the entries, with their keys and values read
  abbrev pub seen : List (K × X) → List (L × Y)
  seen es = map (λ e. (f e.0, g e.1)) es

  -- clones are seen alike
  pub seen_from_clone :
      (C : K → K → Type 0) (D : X → X → Type 0) → ((a b : K) → C a b → f b ≡ f a) → ((v w : X) → D v w → g w ≡ g v) →
      (entries fs : List (K × X)) →
      AllZip (λ p q. C p.0 q.0 × D p.1 q.1) entries fs →
      seen fs ≡ seen entries
  seen_from_clone C D keys values [] [] a = refl
  seen_from_clone C D keys values [] (y ∷ ys) a = absurd a
  seen_from_clone C D keys values (x ∷ xs) [] a = absurd a
  seen_from_clone C D keys values (x ∷ xs) (y ∷ ys) a =
      λ i. (keys x.0 y.0 a.0.0 i, values x.1 y.1 a.0.1 i) ∷ seen_from_clone C D keys values xs ys a.1 i

  module _ (R : L → L → Ordering) where
    -- an insertion among the entries is one among those that are seen, whatever the order of the first key
    at_order : (order : Ordering) (key : K) (value : X) (entry : K × X) (entries : List (K × X)) →
        seen (insert_entry (λ a b. R (f a) (f b)) entries key value) ≡ put R (f key) (g value) (seen entries) →
        seen (match_ordering order ((key, value) ∷ (entry ∷ entries)) ((entry.0, value) ∷ entries)
        (entry ∷ insert_entry (λ a b. R (f a) (f b)) entries key value))
        ≡ by_order order ((f key, g value) ∷ ((f entry.0, g entry.1) ∷ seen entries))
        ((f entry.0, g value) ∷ seen entries) ((f entry.0, g entry.1) ∷ put R (f key) (g value) (seen entries))
    at_order Less key value entry entries later = refl
    at_order Equal key value entry entries later = refl
    at_order Greater key value entry entries later = ap (λ seen_later. (f entry.0, g entry.1) ∷ seen_later) later

    seen-insert : (entries : List (K × X)) (key : K) (value : X) →
        seen (insert_entry (λ a b. R (f a) (f b)) entries key value) ≡ put R (f key) (g value) (seen entries)
    seen-insert [] key value = refl
    seen-insert (entry ∷ es) key value = at_order (R (f key) (f entry.0)) key value entry es (seen-insert es key value)

    -- a look-up among the entries is one among those that are seen
    find-seen : (entries : List (K × X)) (q : L) →
        find R q (seen entries) ≡ option_map g (lookup (is_at (λ k. R q (f k))) entries)
    find-seen [] q = refl
    find-seen (e ∷ es) q = at_test (is_eq (R q (f e.0))) e es q (find-seen es q)
      where
        at_test : (b : Bool) (e : K × X) (entries : List (K × X)) (q : L) →
            find R q (seen entries) ≡ option_map g (lookup (is_at (λ k. R q (f k))) entries) →
            cond b (Some (g e.1)) (find R q (seen entries))
            ≡ option_map g (cond b (Some e.1) (lookup (is_at (λ k. R q (f k))) entries))
        at_test true e entries q later = refl
        at_test false e entries q later = later

    -- a key below all others comes first
    put_first : (k : K) (value : X) (entries : List (K × X)) →
        AllByRecursion (λ y. R (f k) (f y) ≡ Less) (keys_of entries) →
        put R (f k) (g value) (seen entries) ≡ (f k, g value) ∷ seen entries
    put_first k value [] below = refl
    put_first k value (entry ∷ es) below =
        ap (λ r. by_order r ((f k, g value) ∷ ((f entry.0, g entry.1) ∷ seen es)) ((f entry.0, g value) ∷ seen es)
        ((f entry.0, g entry.1) ∷ put R (f k) (g value) (seen es))) below.0

    module _ (total : IsTotalOrder R) where
      pub get-seen : (entries : List (K × X)) (q : L) →
          get (from_entries {R = R} (seen entries)) q ≡ option_map g (lookup (is_at (λ k. R q (f k))) entries)
      get-seen entries q = get-from_entries total (seen entries) q ∙ find-seen entries q

      -- an insertion among the entries is one into the map that they are seen as
      pub insert-seen : IsAntisymmetric R →
          (entries : List (K × X)) (k : K) (value : X) →
          from_entries {R = R} (seen (insert_entry (λ a b. R (f a) (f b)) entries k value))
          ≡ insert (from_entries (seen entries)) (f k) (g value)
      insert-seen one entries k value =
          same_map total one (from_entries (seen (insert_entry (λ a b. R (f a) (f b)) entries k value)))
          (insert (from_entries (seen entries)) (f k) (g value))
          (λ other. get-from_entries total (seen (insert_entry (λ a b. R (f a) (f b)) entries k value)) other
          ∙ ap (find R other) (seen-insert entries k value)
          ∙ find-put R total other (f k) (g value) (seen entries)
          ∙ sym (get-insert total (from_entries (seen entries)) (f k) (g value) other
          ∙ ap (cond (eq_by_cmp R other (f k)) (Some (g value))) (get-from_entries total (seen entries) other)))

      -- what is in order stays so
      pub entries-seen : (es : List (K × X)) →
          IsStrictlySortedBy (λ a b. R (f a) (f b)) (keys_of es) →
          entries (from_entries {R = R} (seen es)) ≡ seen es
      entries-seen [] sorted = entries-empty R
      entries-seen (e ∷ es) sorted =
          entries-insert total (from_entries (seen es)) (f e.0) (g e.1)
          ∙ ap (put R (f e.0) (g e.1)) (entries-seen es (sorted_tail (λ a b. R (f a) (f b)) e.0 _ sorted))
          ∙ put_first e.0 e.1 es (sorted_head (λ a b. R (f a) (f b)) e.0 _ sorted)

      -- a write over a value that is there is an insertion into the map that is seen
      twice : (b : Bool) (x y : Y) (o : Option Y) → cond b (Some x) o ≡ cond b (Some x) (cond b (Some y) o)
      twice true x y o = refl
      twice false x y o = refl

      apart : (b c : Bool) (x y : Y) (o : Option Y) →
          (b ≡ true → c ≡ true → ⊥) →
          cond c (Some y) (cond b (Some x) o) ≡ cond b (Some x) (cond c (Some y) o)
      apart true true x y o never = absurd (never refl refl)
      apart true false x y o never = refl
      apart false c x y o never = refl

      tied_to : IsAntisymmetric R → (a b : L) → is_eq (R a b) ≡ true → a ≡ b
      tied_to one a b e = one a b ((Equal-is (R a b)).0 e)

      both_tied : IsAntisymmetric R →
          (other key k : L) →
          is_eq (R key k) ≡ false → is_eq (R other key) ≡ true → is_eq (R other k) ≡ true →
          ⊥
      both_tied one other key k differ to_n to_k =
          true≢false (sym (ap is_eq (tied_itself total key))
          ∙ ap (λ x. is_eq (R key x)) (sym (tied_to one other key to_n) ∙ tied_to one other k to_k) ∙ differ)

      -- so what is found after the write is what is found after the insertion
      find-write : IsAntisymmetric R →
          (entries : List (K × X)) (key : L) (old new : X) →
          lookup (is_at (λ k. R key (f k))) entries ≡ Some old →
          (other : L) →
          find R other (seen (set_value (is_at (λ k. R key (f k))) entries new))
          ≡ cond (is_eq (R other key)) (Some (g new)) (find R other (seen entries))
      find-write one [] key old new found other = absurd (none-some old found)
      find-write one (entry ∷ es) key old new found other =
          at_test (is_eq (R key (f entry.0))) refl found (λ there. find-write one es key old new there other)
        where
          at_test : (b : Bool) →
              is_eq (R key (f entry.0)) ≡ b → cond b (Some entry.1) (lookup (is_at (λ k. R key (f k))) es) ≡ Some old →
              (lookup (is_at (λ k. R key (f k))) es ≡ Some old →
              find R other (seen (set_value (is_at (λ k. R key (f k))) es new))
              ≡ cond (is_eq (R other key)) (Some (g new)) (find R other (seen es))) →
              find R other (seen (cond b ((entry.0, new) ∷ es) (entry ∷ set_value (is_at (λ k. R key (f k))) es new)))
              ≡ cond (is_eq (R other key)) (Some (g new)) (find R other (seen (entry ∷ es)))
          at_test true is there later =
              let same = tied_to one key (f entry.0) is in
              ap (λ x. cond (is_eq (R other x)) (Some (g new)) (find R other (seen es))) (sym same)
              ∙ twice (is_eq (R other key)) (g new) (g entry.1) (find R other (seen es))
              ∙ ap (λ x. cond (is_eq (R other key)) (Some (g new))
              (cond (is_eq (R other x)) (Some (g entry.1)) (find R other (seen es)))) same
          at_test false is there later =
              ap (cond (is_eq (R other (f entry.0))) (Some (g entry.1))) (later there)
              ∙ apart (is_eq (R other key)) (is_eq (R other (f entry.0))) (g new) (g entry.1) (find R other (seen es))
              (both_tied one other key (f entry.0) is)

      pub write-seen : IsAntisymmetric R →
          (entries : List (K × X)) (key : L) (old new : X) →
          lookup (is_at (λ k. R key (f k))) entries ≡ Some old →
          from_entries {R = R} (seen (set_value (is_at (λ k. R key (f k))) entries new))
          ≡ insert (from_entries (seen entries)) key (g new)
      write-seen one entries key old new found =
          same_map total one (from_entries (seen (set_value (is_at (λ k. R key (f k))) entries new)))
          (insert (from_entries (seen entries)) key (g new))
          (λ other. get-from_entries total (seen (set_value (is_at (λ k. R key (f k))) entries new)) other
          ∙ find-write one entries key old new found other
          ∙ sym (get-insert total (from_entries (seen entries)) key (g new) other
          ∙ ap (cond (eq_by_cmp R other key) (Some (g new))) (get-from_entries total (seen entries) other)))
