-- The order of infos is total, and only equal infos tie.
use Rattle.std.proofs.Common.{◌≡◌, ◌<ℤ◌, arith, refl, ap, Option, Some, None, ℤ, true, ◌&&◌, ◌∙◌, nat_eq}
use Rattle.std.specs.declared.cmp.Ordering.{Ordering}
use Rattle.std.specs.declared.cmp.Ordering.TheVariants.{Less, Equal, Greater}
use Rattle.std.proofs.lemmas.Cmp.{tied_itself, int_ranked}
use Rattle.std.proofs.lemmas.Int.{ints}
use lib.Pointwise.{pointwise}
use Rattle.std.specs.Ordering.{is_eq, int_eq, MatchOrdering, nat_cmp, int_cmp, ordering_then}
use Rattle.std.specs.Option.{option_cmp, option_eq}
use Rattle.std.specs.Cmp.{IsTotalOrder, then_total, on_total, int_cmp_total, Equal-is, eq_by_cmp_equiv}
use Rattle.std.specs.Cmp.Lexicographic.{slice_cmp, options_total, nat_list_cmp_total, texts_ties}
use Rattle.std.specs.FinMap.{IsAntisymmetric, nat_cmp-IsAntisymmetric, int_cmp-IsAntisymmetric, slice_cmp-IsAntisymmetric}
use Rattle.puffin_threads.specs.Thread.ThreadKey.{ThreadKey, key_of, key_cmp, thread_cmp, has_same_key}

-- starts and names are ordered totally, and so are keys
pub key_cmp_total : IsTotalOrder key_cmp
key_cmp_total =
    then_total (on_total (λ (i : ThreadKey). i.start) (options_total int_cmp_total))
    (on_total (λ (i : ThreadKey). i.name) nat_list_cmp_total)

-- two orders one after the other tie only if both do
pub ties : (r s : Ordering) → ordering_then r s ≡ Equal → (r ≡ Equal) × (s ≡ Equal)
ties Less s e = cc
ties Equal s e = (refl, e)
ties Greater s e = cc

-- starts tie only if they are equal, and then they do
same_starts : (a b : Option ℤ) → option_cmp int_cmp a b ≡ Equal → a ≡ b
same_starts None None e = refl
same_starts None (Some y) e = cc
same_starts (Some x) None e = cc
same_starts (Some x) (Some y) e = ap Some (int_cmp-IsAntisymmetric x y e)

same_start : (s : Option ℤ) → option_cmp int_cmp s s ≡ Equal
same_start s = tied_itself (options_total int_cmp_total) s

-- a lesser start comes first
int_cmp-less : (t u : ℤ) → t <ℤ u → int_cmp t u ≡ Less
int_cmp-less t u less =
    let r = int_ranked t u (int_cmp t u) refl in
    elim (int_cmp t u) as (λ o. MatchOrdering o (t <ℤ u) (t ≡ u) (u <ℤ t) → o ≡ Less) [
      | Less ↦ λ _. refl
      | Equal ↦ λ same. absurd (omega (arith, ints, less, same))
      | Greater ↦ λ above. absurd (omega (arith, ints, less, above))
    ] r

-- only equal keys tie
pub key_cmp-one : IsAntisymmetric key_cmp
key_cmp-one x y tied =
    let both = ties (option_cmp int_cmp x.start y.start) (slice_cmp nat_cmp x.name y.name) tied in
    let starts = same_starts x.start y.start both.0 in
    let names = slice_cmp-IsAntisymmetric nat_cmp-IsAntisymmetric x.name y.name both.1 in
    λ i. record { start = starts i; name = names i }

pub has_same_key-one : (x y : ThreadKey) → has_same_key x y ≡ true → x ≡ y
has_same_key-one x y tied = key_cmp-one x y ((Equal-is (key_cmp x y)).0 tied)

pub has_same_key-itself : (x : ThreadKey) → has_same_key x x ≡ true
has_same_key-itself x = (eq_by_cmp_equiv key_cmp_total).refl x

pub thread_cmp_total : IsTotalOrder thread_cmp
thread_cmp_total = on_total key_of key_cmp_total

-- ---- the order in words
pub none_first : (a b : ThreadKey) → a.start ≡ None → (t : ℤ) → b.start ≡ Some t → key_cmp a b ≡ Less
none_first a b a_start t b_start = rw (a_start, b_start) refl

pub earlier_first : (a b : ThreadKey) (t u : ℤ) → a.start ≡ Some t → b.start ≡ Some u → t <ℤ u → key_cmp a b ≡ Less
earlier_first a b t u a_start b_start earlier = rw (a_start, b_start, int_cmp-less t u earlier) refl

pub then_by_name : (a b : ThreadKey) → a.start ≡ b.start → key_cmp a b ≡ slice_cmp nat_cmp a.name b.name
then_by_name a b same_start_of = rw (same_start_of, same_start b.start) refl

-- ---- equality is a tie
pub both : (r s : Ordering) → (is_eq r && is_eq s) ≡ is_eq (ordering_then r s)
both Less s = refl
both Equal s = refl
both Greater s = refl

-- equal starts are starts that tie
starts : (s t : Option ℤ) → option_eq int_eq s t ≡ is_eq (option_cmp int_cmp s t)
starts None None = refl
starts None (Some y) = refl
starts (Some x) None = refl
starts (Some x) (Some y) = refl

pub same_parts : (a b : ThreadKey) → (option_eq int_eq a.start b.start && pointwise nat_eq a.name b.name) ≡ has_same_key a b
same_parts a b =
    ap (λ t. t && pointwise nat_eq a.name b.name) (starts a.start b.start)
    ∙ ap (λ t. is_eq (option_cmp int_cmp a.start b.start) && t) (texts_ties a.name b.name)
    ∙ both (option_cmp int_cmp a.start b.start) (slice_cmp nat_cmp a.name b.name)
