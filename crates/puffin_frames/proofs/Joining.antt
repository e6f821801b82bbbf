-- Going over infos one after the other.
use Rattle.std.proofs.Common.{◌≡◌, ℕ, ◌+◌, ◌≤◌, ◌<◌, ◌^◌, List, [], ◌∷◌, length, ap, ◌∙◌, subst, arith, ◌⊎◌, inl, inr, ℤ}
use Rattle.std.specs.List.{fold}
use Rattle.std.specs.Int.{int_min, int_max}
use Rattle.puffin_data.specs.Honesty.{StreamFacts}
use Rattle.puffin_frames.specs.declared.frame_data.meta.FrameMeta.{FrameMeta}
use Rattle.puffin_frames.specs.Frame.Sums.{total_bytes, total_scopes, joined_start, joined_stop, meta_of, TotalsFit}

-- the bytes, scopes, starts and stops of infos, joined to what is there already
abbrev pub bytes_from : ℕ → List StreamFacts → ℕ
bytes_from n infos = fold (λ a info. a + length info.bytes) n infos

abbrev pub scopes_from : ℕ → List StreamFacts → ℕ
scopes_from n infos = fold (λ a info. a + info.num_scopes) n infos

abbrev pub start_from : ℤ → List StreamFacts → ℤ
start_from z infos = fold (λ least info. int_min least info.range_ns.0) z infos

abbrev pub stop_from : ℤ → List StreamFacts → ℤ
stop_from z infos = fold (λ greatest info. int_max greatest info.range_ns.1) z infos

-- with the infos that are left, the numbers so far come to those of all
pub record ComesTo (meta : FrameMeta) (rest : List StreamFacts) (index : ℕ) (all : List StreamFacts) : Type 0 where
  pub frame_index : meta.frame_index ≡ index
  pub num_bytes : bytes_from meta.num_bytes rest ≡ total_bytes all
  pub num_scopes : scopes_from meta.num_scopes rest ≡ total_scopes all
  pub start : start_from meta.range_ns.0 rest ≡ joined_start all
  pub stop : stop_from meta.range_ns.1 rest ≡ joined_stop all
  pub fit : (meta.num_bytes < 2 ^ 64) × (meta.num_scopes < 2 ^ 64)

-- sums don't fall
pub bytes_above : (n : ℕ) (infos : List StreamFacts) → n ≤ bytes_from n infos
bytes_above n [] = omega arith
bytes_above n (x ∷ xs) = omega (arith, bytes_above (n + length x.bytes) xs)

pub scopes_above : (n : ℕ) (infos : List StreamFacts) → n ≤ scopes_from n infos
scopes_above n [] = omega arith
scopes_above n (x ∷ xs) = omega (arith, scopes_above (n + x.num_scopes) xs)

-- one more info is joined
pub one_more : (meta more : FrameMeta) (info : StreamFacts) (rest all : List StreamFacts) (index : ℕ) →
    ComesTo meta (info ∷ rest) index all → more.frame_index ≡ meta.frame_index →
    more.num_bytes ≡ meta.num_bytes + length info.bytes → more.num_scopes ≡ meta.num_scopes + info.num_scopes →
    more.range_ns.0 ≡ int_min meta.range_ns.0 info.range_ns.0 →
    more.range_ns.1 ≡ int_max meta.range_ns.1 info.range_ns.1 → (more.num_bytes < 2 ^ 64) × (more.num_scopes < 2 ^ 64) →
    ComesTo more rest index all
one_more meta more info rest all index comes same_index more_bytes more_scopes start_is stop_is fits = record {
  frame_index = same_index ∙ comes.frame_index;
  num_bytes = ap (λ n. bytes_from n rest) more_bytes ∙ comes.num_bytes;
  num_scopes = ap (λ n. scopes_from n rest) more_scopes ∙ comes.num_scopes;
  start = ap (λ z. start_from z rest) start_is ∙ comes.start;
  stop = ap (λ z. stop_from z rest) stop_is ∙ comes.stop;
  fit = fits;
}

-- a sum that doesn't fit on the way doesn't fit at the end
pub too_large : (meta : FrameMeta) (x same : StreamFacts) (rest all : List StreamFacts) (index : ℕ) →
    ComesTo meta (x ∷ rest) index all → same ≡ x →
    (2 ^ 64 ≤ meta.num_bytes + length same.bytes) ⊎ (2 ^ 64 ≤ meta.num_scopes + same.num_scopes) → TotalsFit all →
    ⊥
too_large meta x same rest all index comes is over fits =
    let bytes = bytes_above (meta.num_bytes + length x.bytes) rest in
    let scopes = scopes_above (meta.num_scopes + x.num_scopes) rest in
    let same_bytes = ap (λ r. length r.bytes) is in
    let same_scopes = ap (λ r. r.num_scopes) is in
    elim over [
      | inl more ↦ omega (arith, bytes, same_bytes, comes.num_bytes, fits.bytes)
      | inr more ↦ omega (arith, scopes, same_scopes, comes.num_scopes, fits.scopes)
    ]

-- after the last info the numbers are those of all
pub come : (meta : FrameMeta) (all : List StreamFacts) (index : ℕ) → ComesTo meta [] index all → meta ≡ meta_of index all
come meta all index comes = λ i. record {
  frame_index = comes.frame_index i;
  range_ns = (comes.start i, comes.stop i);
  num_bytes = comes.num_bytes i;
  num_scopes = comes.num_scopes i;
}

-- and they fit
pub totals_fit : (meta : FrameMeta) (all : List StreamFacts) (index : ℕ) → ComesTo meta [] index all → TotalsFit all
totals_fit meta all index comes = record {
  bytes = omega (arith, comes.num_bytes, comes.fit.0);
  scopes = omega (arith, comes.num_scopes, comes.fit.1);
}

-- what a loop over the rest leaves to be joined
pub at_next : (meta : FrameMeta) (rest next : List StreamFacts) (all : List StreamFacts) (index : ℕ) →
    ComesTo meta rest index all → rest ≡ next →
    ComesTo meta next index all
at_next meta rest next all index comes e = subst (λ (infos : List StreamFacts). ComesTo meta infos index all) e comes
