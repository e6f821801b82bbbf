-- Readings from a device, one after the other.
use Rattle.std.proofs.Common.{◌≡◌, ℕ, List, [], ◌++◌, Option, Some, None, Result, Ok, Err, refl, ap, inl, inr, ◌∙◌, append_assoc}
use Rattle.std.specs.Io.KnownBytes.{Consumes, IsAtEnd}
use Rattle.std.proofs.KnownBytes.{Consumes-nil, Consumes-trans}
use Rattle.std.proofs.lemmas.List.{append-nil}
use Rattle.puffin_data.specs.declared.file_error.FileError.{FileError}
use Rattle.puffin_data.specs.declared.file_error.FileError.TheVariants as file
use Rattle.puffin_data.specs.Device.{FromDevice, FailsAt, IsOutside}
use Rattle.puffin_data.specs.Part.{◌>>=◌}
use Rattle.puffin_data.proofs.lemmas.Numbers.{IsBytes-nil, IsBytes-append}

-- the second of two readings, after the first
after_again : {A B : Type 0} (value : A) (taken more : List ℕ) (read : List ℕ → Result (A × List ℕ) FileError)
    (next : A → List ℕ → Result (B × List ℕ) FileError)
    → ((rest : List ℕ) → read (taken ++ rest) ≡ Ok (value, rest)) → (rest : List ℕ)
    → (read ((taken ++ more) ++ rest) >>= λ one. next one.0 one.1) ≡ next value (more ++ rest)
after_again value taken more read next first rest =
    ap (λ (any : List ℕ). read any >>= λ one. next one.0 one.1) (append_assoc taken more rest) ∙ rw (first (more ++ rest)) refl

-- a chain fails where its second reading does
fails_after : {A B : Type 0} (fault : FileError) (value : A) (old mid new : Option (List ℕ))
    (read : List ℕ → Result (A × List ℕ) FileError) (next : A → List ℕ → Result (B × List ℕ) FileError)
    (taken : List ℕ) → Consumes old mid taken → ((rest : List ℕ) → read (taken ++ rest) ≡ Ok (value, rest))
    → FailsAt fault mid new (next value) → FailsAt fault old new (λ bytes. read bytes >>= λ one. next one.0 one.1)
fails_after file.Io value old mid new read next taken took reads failed = tt
fails_after file.Memory value old mid new read next taken took reads failed = tt
fails_after file.Truncated value old mid new read next taken took reads failed =
    (taken ++ failed.0, Consumes-trans old mid new taken failed.0 took failed.1, failed.2, rw (reads failed.0) failed.3)
fails_after _ value old mid new read next taken took reads failed = (
  taken ++ failed.0,
  Consumes-trans old mid new taken failed.0 took failed.1,
  λ rest. after_again value taken failed.0 read next reads rest ∙ failed.2 rest,
)

-- a first reading that succeeded, and then another
pub goes_on : {Y A B : Type 0} (view : Y → B) (value : A) (old mid new : Option (List ℕ))
    (read : List ℕ → Result (A × List ℕ) FileError) (next : A → List ℕ → Result (B × List ℕ) FileError) (result : Result Y FileError)
    → FromDevice (λ (one : A). one) old mid (Ok value) read → FromDevice view mid new result (next value)
    → FromDevice view old new result (λ bytes. read bytes >>= λ one. next one.0 one.1)
goes_on view value old mid new read next (Ok seen) first second = (
  first.0 ++ second.0,
  Consumes-trans old mid new first.0 second.0 first.1 second.1,
  λ rest. after_again value first.0 second.0 read next first.2 rest
      ∙ second.2 rest,
  IsBytes-append first.0 second.0 first.3 second.3,
)
goes_on view value old mid new read next (Err fault) first second =
    fails_after fault value old mid new read next first.0 first.1 first.2 second

-- a first reading that failed
pub stops : {A B : Type 0} (fault : FileError) (old new : Option (List ℕ)) (read : List ℕ → Result (A × List ℕ) FileError)
    (next : A → List ℕ → Result (B × List ℕ) FileError)
    → FailsAt fault old new read → FailsAt fault old new (λ bytes. read bytes >>= λ one. next one.0 one.1)
stops file.Io old new read next failed = tt
stops file.Memory old new read next failed = tt
stops file.Truncated old new read next failed = (failed.0, failed.1, failed.2, rw failed.3 refl)
stops _ old new read next failed = (failed.0, failed.1, λ rest. rw (failed.2 rest) refl)

-- a reading that takes nothing and always gives this value
pub given : {A : Type 0} (value : A) (old : Option (List ℕ)) → FromDevice (λ (one : A). one) old old (Ok value) (λ bytes. Ok (value, bytes))
given value old = ([], Consumes-nil old, λ rest. refl, IsBytes-nil)

-- the same two for what a whole chain gives, without a view: for a chain that failed later, and for one that succeeded
pub fails_on : {A B : Type 0} (fault : FileError) (value : A) (old mid new : Option (List ℕ))
    (read : List ℕ → Result (A × List ℕ) FileError) (next : A → List ℕ → Result (B × List ℕ) FileError)
    → FromDevice (λ (one : A). one) old mid (Ok value) read → FailsAt fault mid new (next value)
    → FailsAt fault old new (λ bytes. read bytes >>= λ one. next one.0 one.1)
fails_on fault value old mid new read next first second = fails_after fault value old mid new read next first.0 first.1 first.2 second

pub gives_on : {A B : Type 0} (value : A) (last : B) (old mid new : Option (List ℕ)) (read : List ℕ → Result (A × List ℕ) FileError)
    (next : A → List ℕ → Result (B × List ℕ) FileError)
    → FromDevice (λ (one : A). one) old mid (Ok value) read → FromDevice (λ (one : B). one) mid new (Ok last) (next value)
    → FromDevice (λ (one : B). one) old new (Ok last) (λ bytes. read bytes >>= λ one. next one.0 one.1)
gives_on {B = B} value last old mid new read next first second =
    goes_on (λ (one : B). one) value old mid new read next (Ok last) first second

-- a fault of one reading is that of another that always gives the same
same_fault : {A : Type 0} (fault : FileError) (old new : Option (List ℕ)) (read other : List ℕ → Result (A × List ℕ) FileError)
    → ((bytes : List ℕ) → other bytes ≡ read bytes) → FailsAt fault old new read → FailsAt fault old new other
same_fault file.Io old new read other same holds = tt
same_fault file.Memory old new read other same holds = tt
same_fault file.Truncated old new read other same holds = (holds.0, holds.1, holds.2, same holds.0 ∙ holds.3)
same_fault _ old new read other same holds = (holds.0, holds.1, λ rest. same (holds.0 ++ rest) ∙ holds.2 rest)

pub same_reading : {X A : Type 0} (view : X → A) (result : Result X FileError) (old new : Option (List ℕ))
    (read other : List ℕ → Result (A × List ℕ) FileError) → ((bytes : List ℕ) → other bytes ≡ read bytes)
    → FromDevice view old new result read → FromDevice view old new result other
same_reading view (Ok seen) old new read other same holds = (holds.0, holds.1, λ rest. same (holds.0 ++ rest) ∙ holds.2 rest, holds.3)
same_reading view (Err fault) old new read other same holds = same_fault fault old new read other same holds

-- ---- devices whose bytes are known

known_taken : (old : List ℕ) (new : Option (List ℕ)) (taken : List ℕ) → Consumes (Some old) new taken
    → (rest : List ℕ) × (new ≡ Some rest) × (old ≡ taken ++ rest)
known_taken old None taken took = absurd took
known_taken old (Some rest) taken took = (rest, refl, took)

at_end : (taken : List ℕ) (old : List ℕ) (new : Option (List ℕ)) → Consumes (Some old) new taken → IsAtEnd new → old ≡ taken
at_end taken old None took end = absurd took
at_end taken old (Some rest) took end = took ∙ (ap (λ (any : List ℕ). taken ++ any) end ∙ append-nil taken)

-- and a fault that isn't the device's is that of all its bytes
pub known_fault : {A : Type 0} (fault : FileError) (old : List ℕ) (new : Option (List ℕ))
    (read : List ℕ → Result (A × List ℕ) FileError) → (IsOutside fault → ⊥) → FailsAt fault (Some old) new read → read old ≡ Err fault
known_fault file.Io old new read not_it failed = absurd (not_it (inl refl))
known_fault file.Memory old new read not_it failed = absurd (not_it (inr refl))
known_fault file.Truncated old new read not_it failed = ap read (at_end failed.0 old new failed.1 failed.2) ∙ failed.3
known_fault _ old new read not_it failed = let rest = known_taken old new failed.0 failed.1 in ap read rest.2 ∙ failed.2 rest.0
