-- What a whole write leaves, whether it succeeded or not.
use Rattle.std.proofs.Common.{◌≡◌, List, ℕ, [], Option, Some, None, Result, Ok, Err, sym, subst}
use Rattle.std.specs.Prelude.{OnOk, OnErr, IfErr}
use Rattle.std.specs.Io.KnownBytes.{Appends}
use Rattle.std.proofs.lemmas.List.{append-nil}
use Rattle.puffin_data.specs.declared.file_error.FileError.{FileError}
use Rattle.puffin_data.specs.declared.file_error.FileError.TheVariants as file
use Rattle.puffin_data.specs.Device.{WritesBeginning}

pub beginning_written : {T : Type 0} (r : Result T FileError) (old new : Option (List ℕ)) (bytes text : List ℕ)
    → bytes ≡ text → OnOk r (Appends old new bytes) → OnErr r (WritesBeginning old new bytes)
    → WritesBeginning old new text
beginning_written (Ok x) old new bytes text same whole part = (text, [], sym (append-nil text), subst (Appends old new) same whole)
beginning_written (Err e) old new bytes text same whole part = subst (WritesBeginning old new) same part

-- a fact that holds anyway holds at an error
pub at_an_error : {T E : Type 0} {P : Type 0} (r : Result T E) → P → OnErr r P
at_an_error (Ok x) p = tt
at_an_error (Err e) p = p

-- what nothing is written to stays
pub nothing_written : (known : Option (List ℕ)) → Appends known known []
nothing_written None = tt
nothing_written (Some xs) = sym (append-nil xs)

pub told-cut : {T W : Type 0} (X : Type 0) (Q : FileError → Type 0) (r : Result T FileError)
    → ((e : FileError) → e ≡ file.Io → W → Q e) → OnErr r W → IfErr r (λ e. (e ≡ file.Io) × X) → IfErr r Q
told-cut X Q (Ok x) step part io = tt
told-cut X Q (Err e) step part io = step e io.0 part
