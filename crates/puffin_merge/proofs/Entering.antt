-- A scope of a stream is taken into the table, or refused.
use Rattle.std.proofs.Common.{◌≡◌, ℕ, ◌+◌, ◌<◌, ◌≤◌, ℤ, ◌-ℤ◌, nat_abs, FitsSigned, Bool, true, false, List, [], ◌∷◌, ◌++◌, length, Result, Ok, Err, ◌⊎◌, inl, inr, refl, sym, ap, subst, ◌∙◌, arith, w64, cond}
use Rattle.std.proofs.lemmas.Int.{ints, to_z-of_z}
use mir.Syntax.{w128}
use mir.Val.{to_z, of_z}
use Rattle.std.proofs.lemmas.List.{map-append, length_push, length-map}
use Rattle.puffin_data.specs.declared.error.Error.{Error}
use Rattle.puffin_data.specs.declared.error.Error.TheVariants.{Memory, TooLarge}
use Rattle.puffin_data.specs.Forest.{Span}
use Rattle.puffin_data.specs.Walk.Visitor.{Entering, Refusing}
use Rattle.puffin_merge.specs.declared.merge.table.Table.{Table}
use Rattle.puffin_merge.specs.declared.merge.table.KeyRef.{KeyRef}
use Rattle.puffin_merge.specs.declared.merge.table.NodeNumber.{NodeNumber}
use Rattle.puffin_merge.specs.declared.merge.stream.Merging.{Merging}
use Rattle.puffin_merge.specs.declared.merge.stream.OpenScope.{OpenScope}
use Rattle.puffin_merge.specs.Merge.Occurrences.{Occurrence, Path, label_of, path_of, origin_in, occurrence_of}
use Rattle.puffin_merge.specs.inner.Origins.{IsOrigin, fits_i64}
use Rattle.puffin_merge.specs.Merge.{below}
use Rattle.puffin_merge.specs.Merge.Refusals.{SumsFit, Fits}
use Rattle.puffin_merge.specs.inner.Found.{ref_label}
use Rattle.puffin_merge.specs.inner.Tables.{path_at, IsTableOf, occurrence_of_key, AddsAt}
use Rattle.puffin_merge.specs.inner.Merging.{TakesScopes, RefusesScope, StandsFor}

fits_test : (t : ℤ) → FitsSigned w64 t → fits_i64 t ≡ true
fits_test t h = grind (arith, ints)

test_fits : (t : ℤ) → fits_i64 t ≡ true → FitsSigned w64 t
test_fits t h = grind (arith, ints)

path_size : (around : List Span) (s : Span) → length (path_of around ++ (label_of s ∷ [])) ≡ length around + 1
path_size around s = length_push (path_of around) (label_of s) ∙ ap (λ (n : ℕ). n + 1) (length-map around label_of)

shallow : (v : Merging) (w : OpenScope) (around : List Span) (s : Span) → w.depth < 1024 → StandsFor v w around
    → length (path_of around ++ (label_of s ∷ [])) ≤ 1024
shallow v w around s low stands = let depth = stands.depth in omega (arith, path_size around s)

-- the answer of a start that is counted from an origin
abbrev pub counted_start : ℤ → Result ℤ Error
counted_start t = cond (fits_i64 t) (Ok t) (Err TooLarge)

-- a start that is returned is the counted one, and fits
pub ok_start : (t own : ℤ) → ◌≡◌ {A = Result ℤ Error} (Ok own) (counted_start t) → (own ≡ t) × FitsSigned w64 t
ok_start t own e = by_test (fits_i64 t) refl e where
  by_test : (b : Bool) → fits_i64 t ≡ b → ◌≡◌ {A = Result ℤ Error} (Ok own) (cond b (Ok t) (Err TooLarge))
      → (own ≡ t) × FitsSigned w64 t
  by_test true at e = (cc, test_fits t at)
  by_test false at e = absurd (cc)

err_start : (t : ℤ) (fault : Error) → ◌≡◌ {A = Result ℤ Error} (Err fault) (counted_start t)
    → (FitsSigned w64 t → ⊥) × (fault ≡ TooLarge)
err_start t fault e = by_test (fits_i64 t) refl e where
  clash : fits_i64 t ≡ false → fits_i64 t ≡ true → ⊥
  clash a b = cc

  by_test : (b : Bool) → fits_i64 t ≡ b → ◌≡◌ {A = Result ℤ Error} (Err fault) (cond b (Ok t) (Err TooLarge))
      → (FitsSigned w64 t → ⊥) × (fault ≡ TooLarge)
  by_test true at e = absurd (cc)
  by_test false at e = (λ fits. clash at (fits_test t fits), cc)

-- a start that doesn't fit
pub origin_fits : (t : ℤ) → IsOrigin t → FitsSigned w128 t
origin_fits t h = let low = h.low in let high = h.high in omega (arith, ints)

-- a time fits `i128`
pub time_fits : (t : ℤ) → FitsSigned w64 t → FitsSigned w128 t
time_fits t h = omega (arith, ints)

-- numbers that are passed on as bits
pub passed_64 : (t : ℤ) → FitsSigned w64 t → to_z w64 (of_z w64 t) ≡ t
passed_64 t h = to_z-of_z w64 t h

-- a number that fits stays the same when it is passed on as bits
pub passed_128 : (t : ℤ) → FitsSigned w128 t → to_z w128 (of_z w128 t) ≡ t
passed_128 t h = to_z-of_z w128 t h

-- a scope whose own start doesn't fit is refused
pub start_refused : (v : Merging) (w : OpenScope) (s : Span) (t : ℤ) (fault : Error)
    → w.depth < 1024 → t ≡ s.start -ℤ w.origin → ◌≡◌ {A = Result ℤ Error} (Err fault) (counted_start t)
    → Refusing RefusesScope StandsFor v w s fault
start_refused v w s t fault low is e =
    let no = err_start t fault e in
    λ around stands. λ all table.
    inr (
      shallow v w around s low stands,
      λ fits. no.0
          (subst (FitsSigned w64) (sym (is ∙ ap (λ (o : ℤ). s.start -ℤ o) stands.origin)) fits.own_start),
      no.1,
    )

-- what the table is given for a scope below an open scope: the parent's number, the scope's label, its own start and its
-- duration
pub record IsGiven (w : OpenScope) (s : Span) (key : KeyRef) (own : ℤ) (duration : ℕ) : Type 0 where
  pub low : w.depth < 1024
  pub parent : key.parent.number ≡ w.node.number
  pub label : ref_label key ≡ label_of s
  pub start : own ≡ s.start -ℤ w.origin
  pub lasts : duration ≡ nat_abs (s.stop -ℤ s.start)

-- this is the scope's occurrence
given : (v : Merging) (w : OpenScope) (around : List Span) (s : Span) (key : KeyRef) (own : ℤ) (duration : ℕ)
    → StandsFor v w around → IsGiven w s key own duration
    → occurrence_of_key v.table key own duration ≡ occurrence_of v.origin (record { around = around; span = s })
given v w around s key own duration stands is =
    let path : below (path_at v.table.nodes.items key.parent.number) (ref_label key)
    ≡ path_of around ++ (label_of s ∷ []) =
    ap (λ (n : ℕ). below (path_at v.table.nodes.items n) (ref_label key)) is.parent
    ∙ ap (λ (p : Path). below p (ref_label key)) stands.path ∙ ap (below (path_of around)) is.label in
    let own-is : own ≡ s.start -ℤ origin_in v.origin around = is.start ∙ ap (λ (o : ℤ). s.start -ℤ o) stands.origin in
    λ i. record { path = path i; own_start = own-is i; duration = is.lasts i }

-- a scope whose path's sums don't fit is refused, or memory ran out
pub sums_refused : (v : Merging) (w : OpenScope) (s : Span) (key : KeyRef) (own : ℤ) (duration : ℕ) (fault : Error)
    → IsGiven w s key own duration
    → (fault ≡ Memory) ⊎ ((fault ≡ TooLarge) × ((all : List Occurrence)
    → IsTableOf all v.table → SumsFit all (occurrence_of_key v.table key own duration) → ⊥))
    → (fault ≡ Memory) ⊎ Refusing RefusesScope StandsFor v w s fault
sums_refused v w s key own duration fault is (inl memory) = inl memory
sums_refused v w s key own duration fault is (inr (too_large, no_fit)) =
    inr (λ around stands. λ all table. inr (
      shallow v w around s is.low stands,
      λ fits. no_fit all table
          (subst (λ (o : Occurrence). SumsFit all o) (sym (given v w around s key own duration stands is)) fits.sums),
      too_large,
    ))

origin_last : (origin : ℤ) (around : List Span) (s : Span) → origin_in origin (around ++ (s ∷ [])) ≡ s.start
origin_last origin [] s = refl
origin_last origin (x ∷ around) s = origin_last x.start around s

time_is_origin : (t : ℤ) → FitsSigned w64 t → IsOrigin t
time_is_origin t h = record { low = omega (arith, ints); high = omega (arith, ints) }

-- the table takes the scope's occurrence, and what the walk then keeps stands for the scope
pub scope_taken : (v : Merging) (w : OpenScope) (s : Span) (u : Table) (key : KeyRef) (own : ℤ) (duration : ℕ)
    (at : NodeNumber) (origin : ℤ) → IsGiven w s key own duration → FitsSigned w64 own → origin ≡ s.start
    → FitsSigned w64 s.start
    → AddsAt v.table (occurrence_of_key v.table key own duration) at.number u
    → Entering TakesScopes StandsFor v w s (record { node = at; depth = w.depth + 1; origin = origin })
    (record { table = u; origin = v.origin })
scope_taken v w s u key own duration at origin is own_fits origin_is fits adds around stands =
    let o = given v w around s key own duration stands is in
    let low = is.low in
    let depth = stands.depth in
    let (all_so_far, is_table) = stands.table in
    let path = adds.path in (
      record {
        origin = refl;
        extends = adds.extends;
        accepted = λ all table. (
          shallow v w around s low stands,
          subst (λ (x : Occurrence). Fits all x) o (record { own_start = own_fits; sums = adds.fits all table }),
          tt,
        );
        table = λ all table. subst (λ (x : Occurrence). IsTableOf (all ++ (x ∷ [])) u) o (adds.table all table);
      },
      record {
        table = (all_so_far ++ (occurrence_of_key v.table key own duration ∷ []), adds.table all_so_far is_table);
        node = adds.number;
        path = path ∙ ap (λ (x : Occurrence). x.path) o ∙ sym (map-append label_of around (s ∷ []));
        depth = ap (λ (n : ℕ). n + 1) depth ∙ sym (length_push around s);
        shallow = omega arith;
        origin = origin_is ∙ sym (origin_last v.origin around s);
        is_origin = subst IsOrigin (sym origin_is) (time_is_origin s.start fits);
      },
    )
