-- The numbers that calls return, and the names that the header gives them. A fault that no call returns has no name.
use Rattle.std.specs.Prelude.{◌≡◌, ◌≢◌, ◌⊎◌, ℕ, ◌+◌, ◌*◌, ◌&&◌, if◌then◌else◌, nat_lt, List, [], Result, Ok, Err, codes}
use Rattle.puffin_data.specs.Cause.{error_number, file_error_number}
use Rattle.puffin_data.specs.declared.error.Error.TheVariants.{PrematureEnd, InvalidStream, ScopeNeverEnded, InvalidOffset, TooLarge, RangeTooLong, MismatchedEnd, ScopesOpen, MissingId, IdsExhausted, IndexExhausted, TooDeep, Memory, UnlikeForms}
use Rattle.puffin_data.specs.declared.file_error.FileError.{FileError}
use Rattle.puffin_data.specs.declared.file_error.FileError.TheVariants as file
use Rattle.puffin_data.specs.declared.file_error.FileError.TheVariants.{NoMagic, Truncated, Legacy, Newer, UnknownKind, Compressed, BadMeta, BadStreams, BadScopes, BadRange, PartTooLong}
use Rattle.puffin_c.specs.declared.fault.Fault.{Fault}
use Rattle.puffin_c.specs.declared.fault.Fault.TheVariants.{Refused, File, NotText, NoId, NotOpen, IsOpen}

-- A file's fault. Files are in memory here, so writing one fails with `Io` only if memory runs out.
abbrev pub file_fault : FileError → Fault
file_fault file.Io = Refused Memory
file_fault file.Memory = Refused Memory
file_fault other = File other

-- the number of a file's fault, plus 256 times the number that it holds, if any
abbrev pub file_code : FileError → ℕ
file_code (UnknownKind kind) = 6 + 256 * kind
file_code (Compressed kind) = 7 + 256 * kind
file_code (file.Refused cause) = 13 + 256 * error_number cause
file_code other = file_error_number other

abbrev pub code_of : Fault → ℕ
code_of (Refused cause) = error_number cause
code_of (File f) = 64 + file_code f
code_of NotText = 32
code_of NoId = 33
code_of NotOpen = 34
code_of IsOpen = 35

abbrev pub answer_code : Result (Unit {0}) Fault → ℕ
answer_code (Ok _) = 0
answer_code (Err f) = code_of f

-- A file that is refused for another fault, because details lack an id or a merge fails, has the names of both, in the form in which
-- C adds their numbers. The numbers of compressions are 1 and 2; any other byte but 0 stands for none that is known.
abbrev pub fault_name : Fault → List ℕ
fault_name (Refused PrematureEnd) = codes "PUFFIN_PREMATURE_END"
fault_name (Refused InvalidStream) = codes "PUFFIN_INVALID_STREAM"
fault_name (Refused ScopeNeverEnded) = codes "PUFFIN_SCOPE_NEVER_ENDED"
fault_name (Refused InvalidOffset) = codes "PUFFIN_INVALID_OFFSET"
fault_name (Refused TooLarge) = codes "PUFFIN_TOO_LARGE"
fault_name (Refused RangeTooLong) = codes "PUFFIN_RANGE_TOO_LONG"
fault_name (Refused MismatchedEnd) = codes "PUFFIN_MISMATCHED_END"
fault_name (Refused ScopesOpen) = codes "PUFFIN_SCOPES_OPEN"
fault_name (Refused MissingId) = codes "PUFFIN_MISSING_ID"
fault_name (Refused IdsExhausted) = codes "PUFFIN_IDS_EXHAUSTED"
fault_name (Refused IndexExhausted) = codes "PUFFIN_INDEX_EXHAUSTED"
fault_name (Refused TooDeep) = codes "PUFFIN_TOO_DEEP"
fault_name (Refused Memory) = codes "PUFFIN_MEMORY"
fault_name (Refused UnlikeForms) = codes "PUFFIN_UNLIKE_FORMS"
fault_name NotText = codes "PUFFIN_NOT_TEXT"
fault_name NoId = codes "PUFFIN_NO_ID"
fault_name NotOpen = codes "PUFFIN_NOT_OPEN"
fault_name IsOpen = codes "PUFFIN_IS_OPEN"
fault_name (File NoMagic) = codes "PUFFIN_FILE_NO_MAGIC"
fault_name (File Truncated) = codes "PUFFIN_FILE_TRUNCATED"
fault_name (File Legacy) = codes "PUFFIN_FILE_LEGACY"
fault_name (File Newer) = codes "PUFFIN_FILE_NEWER"
fault_name (File (UnknownKind kind)) =
    if nat_lt 2 kind && nat_lt kind 256 then codes "PUFFIN_FILE_UNKNOWN_KIND" else []
fault_name (File (Compressed kind)) =
    if nat_lt 0 kind && nat_lt kind 3 then codes "PUFFIN_FILE_COMPRESSED" else []
fault_name (File BadMeta) = codes "PUFFIN_FILE_BAD_META"
fault_name (File BadStreams) = codes "PUFFIN_FILE_BAD_STREAMS"
fault_name (File BadScopes) = codes "PUFFIN_FILE_BAD_SCOPES"
fault_name (File BadRange) = codes "PUFFIN_FILE_BAD_RANGE"
fault_name (File PartTooLong) = codes "PUFFIN_FILE_PART_TOO_LONG"
fault_name (File (file.Refused PrematureEnd)) =
    codes "PUFFIN_FILE_REFUSED + 256 * PUFFIN_PREMATURE_END"
fault_name (File (file.Refused InvalidStream)) =
    codes "PUFFIN_FILE_REFUSED + 256 * PUFFIN_INVALID_STREAM"
fault_name (File (file.Refused ScopeNeverEnded)) =
    codes "PUFFIN_FILE_REFUSED + 256 * PUFFIN_SCOPE_NEVER_ENDED"
fault_name (File (file.Refused TooLarge)) = codes "PUFFIN_FILE_REFUSED + 256 * PUFFIN_TOO_LARGE"
fault_name (File (file.Refused MissingId)) = codes "PUFFIN_FILE_REFUSED + 256 * PUFFIN_MISSING_ID"
fault_name (File (file.Refused TooDeep)) = codes "PUFFIN_FILE_REFUSED + 256 * PUFFIN_TOO_DEEP"
fault_name other = []

abbrev pub answer_name : Result (Unit {0}) Fault → List ℕ
answer_name (Ok _) = codes "PUFFIN_OK"
answer_name (Err f) = fault_name f

-- the name of the answer with this number, or no bytes if no answer has it
abbrev pub IsNameOf : ℕ → List ℕ → Type 0
IsNameOf code name =
    ((answer : Result (Unit {0}) Fault) × (answer_code answer ≡ code) × (name ≡ answer_name answer))
    ⊎ (((answer : Result (Unit {0}) Fault) → answer_code answer ≡ code → answer_name answer ≡ [])
    × (name ≡ []))

-- a call returns the number of an answer for which this holds, and the number has a name
abbrev pub Returns : ℕ → (Result (Unit {0}) Fault → Type 0) → Type 0
Returns code promise =
    (answer : Result (Unit {0}) Fault)
    × (code ≡ answer_code answer)
    × (answer_name answer ≢ [])
    × promise answer
