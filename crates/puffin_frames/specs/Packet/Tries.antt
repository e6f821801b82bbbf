-- The result of a call that reads values and may run out of memory.
use Rattle.std.specs.Prelude.{◌≡◌, Result, Ok, Err}
use Rattle.puffin_data.specs.declared.file_error.FileError.{FileError}
use Rattle.puffin_data.specs.declared.file_error.FileError.TheVariants as file

-- a call has the result `answer`, its value seen by `view`, unless memory ran out
abbrev pub DecidedInMemory : {X A : Type 0} → (X → A) → Result X FileError → Result A FileError →
    Type 0
DecidedInMemory view (Ok value) answer = answer ≡ Ok (view value)
DecidedInMemory view (Err file.Memory) answer = Unit {0}
DecidedInMemory view (Err cause) answer = answer ≡ Err cause
