-- Pieces of a packet written one after the other.
use Rattle.std.proofs.Common.{◌≡◌, ℕ, ◌≤◌, ◌<◌, ◌^◌, Bool, true, false, cond, List, [], ◌∷◌, ◌++◌, length, Option, Result, Ok, Err, OnErr, IfErr, refl, sym, ap, ◌∙◌, append_assoc, arith, length-append}
use Rattle.std.specs.Prelude.{nat_lt}
use Rattle.byteorder.specs.Endian.{little_bytes}
use Rattle.std.specs.Io.KnownBytes.{Appends}
use Rattle.std.proofs.KnownBytes.{Appends-trans}
use Rattle.puffin_data.specs.declared.file_error.FileError.{FileError}
use Rattle.puffin_data.specs.declared.file_error.FileError.TheVariants as file
use Rattle.puffin_data.specs.Device.{WritesBeginning}
use Rattle.puffin_data.specs.Value.Layout.{number, signed, zigzag}
use Rattle.puffin_frames.specs.declared.frame_data.meta.FrameMeta.{FrameMeta}
use Rattle.puffin_frames.specs.Packet.Structs.{meta_layout}
use Rattle.std.specs.Prelude.{map}
use Rattle.std.specs.declared.cmp.Ordering.TheVariants.{Less}
use Rattle.std.specs.declared.sync.Arc.{Arc}
use Rattle.std.specs.Arc.{arc_value}
use Rattle.std.specs.Ordering.{nat_cmp, is_lt}
use Rattle.std.specs.Cmp.{nat_cmp_total}
use Rattle.std.specs.Map.{keys_of, values_of}
use Rattle.std.specs.List.{AllByRecursion}
use Rattle.std.specs.List.Sorted.{IsStrictlySortedBy}
use Rattle.std.specs.FinMap.{is_sorted, values}
use Rattle.std.specs.FinMap.Entries.{below_all}
use Rattle.std.proofs.lemmas.Map.Keys.{sorted_head, sorted_tail}
use Rattle.puffin_threads.specs.declared.scope_details.details.ScopeDetails.{ScopeDetails}
use Rattle.puffin_threads.specs.Details.{Details, details_of, shared_details}
use Rattle.puffin_threads.specs.Details.Collection.{ids_seen, by_ids}
use Rattle.puffin_frames.proofs.Listed.{and-both, entries-sorted_list, no_entries}

-- a prefix of a piece is one of it and another piece
pub beginning_more : (old new : Option (List ℕ)) (a b : List ℕ) → WritesBeginning old new a → WritesBeginning old new (a ++ b)
beginning_more old new a b (front, left, split, written) =
    (front, left ++ b, ap (λ (t : List ℕ). t ++ b) split ∙ append_assoc front left b, written)

-- a piece and a prefix of the next are a prefix of both
pub beginning_after : (old mid new : Option (List ℕ)) (a b : List ℕ) →
    Appends old mid a → WritesBeginning mid new b →
    WritesBeginning old new (a ++ b)
beginning_after old mid new a b first (front, left, split, written) = (
  a ++ front,
  left,
  ap (λ (t : List ℕ). a ++ t) split ∙ sym (append_assoc a front left),
  Appends-trans old mid new a front first written,
)

pub begun_if : {X P Q : Type 0} (r : Result X FileError) → (P → Q) → OnErr r P → IfErr r (λ e. e ≡ file.Io → Q)
begun_if (Ok x) so failed = tt
begun_if (Err cause) so failed = λ _. so failed

-- ---- a meta part is short

short_if : (b : Bool) (x y : List ℕ) → length x ≤ 9 → length y ≤ 9 → length (cond b x y) ≤ 9
short_if true x y p q = p
short_if false x y p q = q

-- a number takes at most 9 bytes
pub number_short : (n : ℕ) → length (number n) ≤ 9
unfolding number
number_short n =
    let eight : List ℕ = 253 ∷ little_bytes 8 n in
    let four : List ℕ = 252 ∷ little_bytes 4 n in
    let two : List ℕ = 251 ∷ little_bytes 2 n in
    short_if (nat_lt n 251) (n ∷ []) (cond (nat_lt n (2 ^ 16)) two (cond (nat_lt n (2 ^ 32)) four eight)) (omega arith)
    (short_if (nat_lt n (2 ^ 16)) two (cond (nat_lt n (2 ^ 32)) four eight) (omega arith)
    (short_if (nat_lt n (2 ^ 32)) four eight (omega arith) (omega arith)))

-- and at least one
pub number_long : (n : ℕ) → 0 < length (number n)
unfolding number
number_long n =
    let eight : List ℕ = 253 ∷ little_bytes 8 n in
    let four : List ℕ = 252 ∷ little_bytes 4 n in
    let two : List ℕ = 251 ∷ little_bytes 2 n in
    long_if (nat_lt n 251) (n ∷ []) (cond (nat_lt n (2 ^ 16)) two (cond (nat_lt n (2 ^ 32)) four eight)) (omega arith)
    (long_if (nat_lt n (2 ^ 16)) two (cond (nat_lt n (2 ^ 32)) four eight) (omega arith)
    (long_if (nat_lt n (2 ^ 32)) four eight (omega arith) (omega arith)))
  where
    long_if : (b : Bool) (x y : List ℕ) → 0 < length x → 0 < length y → 0 < length (cond b x y)
    long_if true x y p q = p
    long_if false x y p q = q

-- five numbers are short
sum_short : (a b c d e : List ℕ) →
    length a ≤ 9 → length b ≤ 9 → length c ≤ 9 → length d ≤ 9 → length e ≤ 9 →
    length (a ++ (b ++ (c ++ (d ++ e)))) < 2 ^ 32
sum_short a b c d e f g h i j =
    omega (
      arith,
      length-append a (b ++ (c ++ (d ++ e))),
      length-append b (c ++ (d ++ e)),
      length-append c (d ++ e),
      length-append d e,
    )

pub meta_short : (meta : FrameMeta) → length (meta_layout meta) < 2 ^ 32
meta_short meta =
    sum_short (number meta.frame_index) (signed meta.range_ns.0) (signed meta.range_ns.1) (number meta.num_bytes)
    (number meta.num_scopes)
    (number_short meta.frame_index) (number_short (zigzag meta.range_ns.0)) (number_short (zigzag meta.range_ns.1))
    (number_short meta.num_bytes) (number_short meta.num_scopes)

-- ---- a collection's details

ids_sorted : {A : Type 0} (es : List (ℕ × Arc ScopeDetails A)) →
    IsStrictlySortedBy nat_cmp (keys_of es) →
    is_sorted nat_cmp (ids_seen es) ≡ true
ids_sorted [] sorted = refl
ids_sorted (entry ∷ es) sorted =
    and-both (below_all nat_cmp entry.0 (ids_seen es)) (is_sorted nat_cmp (ids_seen es))
    (ids_below entry.0 es (sorted_head nat_cmp entry.0 _ sorted)) (ids_sorted es (sorted_tail nat_cmp entry.0 _ sorted))
  where
    ids_below : {A : Type 0} (id : ℕ) (es : List (ℕ × Arc ScopeDetails A)) →
        AllByRecursion (λ y. nat_cmp id y ≡ Less) (keys_of es) →
        below_all nat_cmp id (ids_seen es) ≡ true
    ids_below id [] all_so = refl
    ids_below id (entry ∷ es) all_so =
        and-both (is_lt (nat_cmp id entry.0)) (below_all nat_cmp id (ids_seen es)) (ap is_lt all_so.0)
        (ids_below id es all_so.1)

values_seen : {A : Type 0} (es : List (ℕ × Arc ScopeDetails A)) →
    map (λ entry. entry.1) (ids_seen es) ≡ shared_details (values_of es)
values_seen [] = refl
values_seen (entry ∷ es) = ap (λ (l : List Details). details_of (arc_value entry.1) ∷ l) (values_seen es)

-- the details of a collection are those of its map, by rising id
pub values-by_ids : {A : Type 0} (es : List (ℕ × Arc ScopeDetails A)) →
    IsStrictlySortedBy nat_cmp (keys_of es) →
    values (by_ids es) ≡ shared_details (values_of es)
values-by_ids es sorted =
    ap (map (λ e. e.1)) (entries-sorted_list nat_cmp_total (no_entries nat_cmp) (ids_seen es) (ids_sorted es sorted))
    ∙ values_seen es
