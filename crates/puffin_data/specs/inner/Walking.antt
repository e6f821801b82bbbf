-- A walk step by step, for the proof of its loop.
use Rattle.std.specs.Prelude.{◌≡◌, ℕ, suc, ◌+◌, ◌-◌, ◌^◌, ◌==◌, if◌then◌else◌, max, List, length, slice_index, pos, negsuc, Option, Some, None, Result, Ok, Err, ◌⊎◌}
use Rattle.std.specs.Int.{int_min, int_max}
use Rattle.puffin_data.specs.declared.data.form.Form.{Form}
use Rattle.puffin_data.specs.declared.error.Error.{Error}
use Rattle.puffin_data.specs.declared.error.Error.TheVariants.{Memory}
use Rattle.puffin_data.specs.declared.data.walk.Walk.{Walk}
use Rattle.puffin_data.specs.declared.data.scope.RawScope.{RawScope}
use Rattle.puffin_data.specs.Forest.{Span}
use Rattle.puffin_data.specs.Forest.Spelling.{begin_mark}
use Rattle.puffin_data.specs.Walk.FoundScopes.{found_of}
use Rattle.puffin_data.specs.Walk.Reading.{FoundScope}
use Rattle.puffin_data.specs.Walk.{region, IsSoundAt, IsFaultAt}

-- one try if a `(` is at the front of a region, else none
abbrev pub tries_in : List ℕ → ℕ
tries_in part = if slice_index part 0 == begin_mark then 1 else 0

-- the code's reading of a scope, as contracts see it
abbrev pub reading_of : Result (Option RawScope) Error → Result (Option FoundScope) Error
reading_of (Ok None) = Ok None
reading_of (Ok (Some scope)) = Ok (Some (found_of scope))
reading_of (Err fault) = Err fault

-- the counts of a walk without scopes
abbrev pub no_scope_counted : Walk
no_scope_counted =
    record { num_scopes = 0; depth = 0; range_ns = (pos (2 ^ 63 - 1), negsuc (2 ^ 63 - 1)) }

-- the counts of a walk after one more scope, at this depth
abbrev pub with_scope : Walk → (depth : ℕ) → Span → Walk
with_scope walk depth span = record {
  num_scopes = walk.num_scopes + 1;
  depth = max walk.depth depth;
  range_ns = (int_min walk.range_ns.0 span.start, int_max walk.range_ns.1 span.stop);
}

-- where and why a walk stopped, and its number of tries
pub record Stop : Type 0 where
  pub place : ℕ
  pub fault : Error
  pub tries : ℕ

-- A walk with the counts `walk` so far, at a place in a region that ends at `end` and is nested in `level` open scopes, comes to this
-- result: the counts at the region's end, or where it stopped.
pub data WalksTo (form : Form) (bytes : List ℕ) :
    (level : ℕ) → (walk : Walk) → (place : ℕ) → (end : ℕ) → (result : Result Walk Stop) →
    Type 0 where
  -- the walk is at the region's end
  ends : {level : ℕ} {walk : Walk} {place : ℕ} → WalksTo form bytes level walk place place (Ok walk)
  -- a fault is at the place
  stops : {level : ℕ} {walk : Walk} {place end : ℕ} {fault : Error} →
      IsFaultAt form bytes place end fault →
      WalksTo form bytes level walk place end (
      Err (
      record {
        place = place;
        fault = fault;
        tries = walk.num_scopes + tries_in (region bytes place end);
      }))
  -- a sound scope is at the place, and the walk stops among its children
  stops_within : {level : ℕ} {walk : Walk} {place end : ℕ} {found : FoundScope} {stop : Stop} →
      IsSoundAt form bytes place end found →
      WalksTo form bytes (suc level) (with_scope walk (suc level) found.span)
      (place + found.child_begin) (place + found.child_end) (Err stop) →
      WalksTo form bytes level walk place end (Err stop)
  -- a sound scope is at the place; the walk goes over its children, and on from its next sibling
  goes_on : {level : ℕ} {walk inner : Walk} {place end : ℕ} {found : FoundScope}
      {result : Result Walk Stop} → IsSoundAt form bytes place end found →
      WalksTo form bytes (suc level) (with_scope walk (suc level) found.span)
      (place + found.child_begin) (place + found.child_end) (Ok inner) →
      WalksTo form bytes level inner (place + found.next_sibling) end result →
      WalksTo form bytes level walk place end result

-- a walk of all bytes came to their end with these counts
abbrev pub WalksAll : (form : Form) → (bytes : List ℕ) → (tries : ℕ) → Walk → Type 0
WalksAll form bytes tries walk =
    WalksTo form bytes 0 no_scope_counted 0 (length bytes) (Ok walk) × (tries ≡ walk.num_scopes)

-- a walk of all bytes stopped at a fault, or because memory ran out
abbrev pub StopsShort : (form : Form) → (bytes : List ℕ) → (tries : ℕ) → Error → Type 0
StopsShort form bytes tries fault =
    (fault ≡ Memory)
    ⊎ ((place : ℕ)
    × WalksTo form bytes 0 no_scope_counted 0 (length bytes) (
    Err (record { place = place; fault = fault; tries = tries })))
