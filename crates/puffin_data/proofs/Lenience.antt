-- What reading a scope at a place says of it, and what comes after it.
use Rattle.std.proofs.Common.{◌≡◌, ℕ, ◌+◌, ◌<◌, ◌≤◌, ◌-ℤ◌, FitsSigned, w64, List, [], length, take, Option, Some, None, Result, Ok, Err, refl, sym, ap, ◌∙◌, subst, arith, inl, inr}
use Rattle.std.proofs.lemmas.List.{take_all}
use Rattle.std.proofs.lemmas.Bool.{cases_lt}
use Rattle.std.specs.Str.{IsUtf8}
use Rattle.std.proofs.lemmas.Str.{utf8_valid_len-IsUtf8}
use Rattle.puffin_data.specs.declared.data.form.Form.{Form}
use Rattle.puffin_data.specs.declared.error.Error.{Error}
use Rattle.puffin_data.specs.Text.{text_in}
use Rattle.puffin_data.specs.Walk.Reading.{FoundScope, reading, found_in}
use Rattle.puffin_data.specs.Walk.{region, IsSoundAt}
use Rattle.puffin_data.specs.declared.data.scope.RawScope.{RawScope}
use Rattle.puffin_data.specs.Walk.FoundScopes.{found_of}
use Rattle.puffin_data.specs.inner.Walking.{reading_of}
use Rattle.puffin_data.specs.Reader.{ReadScope, read_scope, read_from, scope_read}
use Rattle.puffin_data.proofs.FoundScope.{passes}
use Rattle.puffin_data.proofs.Regions.{empty_region, nothing_is_no_fault}
use Rattle.puffin_data.proofs.Resuming.{found_places}

pub text_in-whole : (stored : List ℕ) → IsUtf8 stored → stored ≡ text_in stored
text_in-whole stored utf8 =
    sym (ap (λ (any : ℕ). take any stored) (utf8_valid_len-IsUtf8 stored utf8) ∙ take_all (length stored) stored (omega arith))

-- a scope has an id, and its duration fits i64
record HasSoundFields (found : FoundScope) : Type 0 where
  id : 0 < found.span.id
  fits : FitsSigned w64 (found.span.stop -ℤ found.span.start)

sound_fields : (form : Form) (region : List ℕ) (found : FoundScope) → reading form region ≡ Ok (Some found) → HasSoundFields found
unfolding found_in
sound_fields form region found read =
    let passed = passes form region found read in
    subst HasSoundFields passed.is (record { id = passed.id; fits = passed.fits })

-- what `to_scope` requires of a scope that was found
pub record IsConvertible (place size : ℕ) (found : FoundScope) : Type 0 where
  pub id : 0 < found.span.id
  pub fits : FitsSigned w64 (found.span.stop -ℤ found.span.start)
  pub begins : found.child_begin ≤ found.child_end
  pub ends : found.child_end ≤ found.next_sibling
  pub within : place + found.next_sibling ≤ size

pub is_convertible : (form : Form) (bytes : List ℕ) (place end : ℕ) (found : FoundScope) → place ≤ end → end ≤ length bytes
    → IsSoundAt form bytes place end found → IsConvertible place end found
is_convertible form bytes place end found low high sound =
    let both = sound_fields form (region bytes place end) found sound in
    let places = found_places form bytes place end found sound low high in
    record {
      id = both.id;
      fits = both.fits;
      begins = places.inside;
      ends = omega (arith, places.next);
      within = omega
          (arith, places.fits);
    }

-- it is so for what the code found
pub found_is_convertible : (form : Form) (bytes : List ℕ) (place end : ℕ) (seen_there : Option RawScope) (found : RawScope) → place ≤ end
    → end ≤ length bytes → reading_of (Ok seen_there) ≡ reading form (region bytes place end) → seen_there ≡ Some found
    → IsConvertible place end (found_of found)
found_is_convertible form bytes place end seen_there found low high read is =
    is_convertible form bytes place end (found_of found) low high (sym read ∙ ap (λ (any : Option RawScope). reading_of (Ok any)) is)

-- a scope that was read is a sound one
pub sound_from : (place : ℕ) (read : Result (Option FoundScope) Error) (scope : ReadScope) → read_from place read ≡ Ok (Some scope)
    → (found : FoundScope) × (read ≡ Ok (Some found)) × (scope ≡ read_scope place found)
sound_from place (Ok None) scope is = absurd cc
sound_from place (Ok (Some found)) scope is = (found, refl, cc)
sound_from place (Err fault) scope is = absurd cc

pub fault_from : (place : ℕ) (read : Result (Option FoundScope) Error) (fault : Error) → read_from place read ≡ Err fault → read ≡ Err fault
fault_from place (Ok None) fault is = absurd cc
fault_from place (Ok (Some found)) fault is = absurd cc
fault_from place (Err other) fault is = cc

-- the next sibling stands behind the scope, and no further than the end
pub next_within : (form : Form) (bytes : List ℕ) (place end : ℕ) (scope : ReadScope) → place ≤ end → end ≤ length bytes
    → scope_read form bytes place end ≡ Ok (Some scope) → (place < scope.next_sibling) × (scope.next_sibling ≤ end)
next_within form bytes place end scope low high read =
    let sound = sound_from place (reading form (region bytes place end)) scope read in
    let places = found_places form bytes place end sound.0 sound.1 low high in
    let next : scope.next_sibling ≡ place + sound.0.next_sibling = ap (λ (any : ReadScope). any.next_sibling) sound.2 in
    (omega (arith, places.head, places.inside, places.next, next), omega (arith, places.fits, next))

-- a fault stands before the end
pub fault_within : (form : Form) (bytes : List ℕ) (place end : ℕ) (fault : Error) → place ≤ end
    → scope_read form bytes place end ≡ Err fault → place < end
fault_within form bytes place end fault low read =
    elim (cases_lt place end) [
      | inl lt ↦ lt
      | inr le ↦
          let same : place ≡ end = omega arith in
          absurd (nothing_is_no_fault form (region bytes place end) fault
          (subst (λ (any : ℕ). region bytes place any ≡ []) same (empty_region bytes place))
          (inl (fault_from place (reading form (region bytes place end)) fault read)))
    ]
