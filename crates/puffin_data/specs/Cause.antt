-- The numbers and texts of `Error` and `FileError`.
use Rattle.std.specs.Prelude.{ℕ, List, [], ◌∷◌, ◌++◌, codes}
use Rattle.std.specs.Fmt.{decimal}
use Rattle.std.specs.declared.io.ErrorKind.{ErrorKind}
use Rattle.std.specs.declared.io.ErrorKind.TheVariants as kind
use Rattle.puffin_data.specs.declared.error.Error.{Error}
use Rattle.puffin_data.specs.declared.error.Error.TheVariants as error
use Rattle.puffin_data.specs.declared.file_error.FileError.{FileError}
use Rattle.puffin_data.specs.declared.file_error.FileError.TheVariants as file

-- the number of an error: 1 for the first variant, and so on
abbrev pub error_number : Error → ℕ
error_number error.PrematureEnd = 1
error_number error.InvalidStream = 2
error_number error.ScopeNeverEnded = 3
error_number error.InvalidOffset = 4
error_number error.Empty = 5
error_number error.TooLarge = 6
error_number error.RangeTooLong = 7
error_number error.MismatchedEnd = 8
error_number error.ScopesOpen = 9
error_number error.MissingId = 10
error_number error.IdsExhausted = 11
error_number error.IndexExhausted = 12
error_number error.SinkIdsExhausted = 13
error_number error.TooDeep = 14
error_number error.NoThread = 15
error_number error.Memory = 16
error_number error.UnlikeForms = 17

-- the name of an error, as characters
abbrev pub error_name : Error → List ℕ
error_name error.PrematureEnd = codes "PrematureEnd"
error_name error.InvalidStream = codes "InvalidStream"
error_name error.ScopeNeverEnded = codes "ScopeNeverEnded"
error_name error.InvalidOffset = codes "InvalidOffset"
error_name error.Empty = codes "Empty"
error_name error.TooLarge = codes "TooLarge"
error_name error.RangeTooLong = codes "RangeTooLong"
error_name error.MismatchedEnd = codes "MismatchedEnd"
error_name error.ScopesOpen = codes "ScopesOpen"
error_name error.MissingId = codes "MissingId"
error_name error.IdsExhausted = codes "IdsExhausted"
error_name error.IndexExhausted = codes "IndexExhausted"
error_name error.SinkIdsExhausted = codes "SinkIdsExhausted"
error_name error.TooDeep = codes "TooDeep"
error_name error.NoThread = codes "NoThread"
error_name error.Memory = codes "Memory"
error_name error.UnlikeForms = codes "UnlikeForms"

-- what a call that reads or writes returns where a call of its own fails
abbrev pub file_error_of : Error → FileError
file_error_of error.Memory = file.Memory
file_error_of cause = file.Refused cause

-- the kind of an error of the system that stands for a cause
abbrev pub io_kind_of : Error → ErrorKind
io_kind_of error.Memory = kind.OutOfMemory
io_kind_of cause = kind.Other

-- the number of a file error: 1 for the first variant, and so on
abbrev pub file_error_number : FileError → ℕ
file_error_number file.Io = 1
file_error_number file.NoMagic = 2
file_error_number file.Truncated = 3
file_error_number file.Legacy = 4
file_error_number file.Newer = 5
file_error_number (file.UnknownKind kind) = 6
file_error_number (file.Compressed kind) = 7
file_error_number file.BadMeta = 8
file_error_number file.BadStreams = 9
file_error_number file.BadScopes = 10
file_error_number file.BadRange = 11
file_error_number file.PartTooLong = 12
file_error_number (file.Refused cause) = 13
file_error_number file.Memory = 14

-- the name of a file error, without what it holds
abbrev pub file_error_name : FileError → List ℕ
file_error_name file.Io = codes "Io"
file_error_name file.NoMagic = codes "NoMagic"
file_error_name file.Truncated = codes "Truncated"
file_error_name file.Legacy = codes "Legacy"
file_error_name file.Newer = codes "Newer"
file_error_name (file.UnknownKind kind) = codes "UnknownKind"
file_error_name (file.Compressed kind) = codes "Compressed"
file_error_name file.BadMeta = codes "BadMeta"
file_error_name file.BadStreams = codes "BadStreams"
file_error_name file.BadScopes = codes "BadScopes"
file_error_name file.BadRange = codes "BadRange"
file_error_name file.PartTooLong = codes "PartTooLong"
file_error_name (file.Refused cause) = codes "Refused"
file_error_name file.Memory = codes "Memory"

-- a space and the number or error that it holds, or nothing if it holds neither
abbrev pub file_error_detail : FileError → List ℕ
file_error_detail (file.UnknownKind kind) = 32 ∷ decimal kind
file_error_detail (file.Compressed kind) = 32 ∷ decimal kind
file_error_detail (file.Refused cause) = 32 ∷ error_name cause
file_error_detail _ = []

-- a file error as it is displayed
abbrev pub file_error_text : FileError → List ℕ
file_error_text fault = file_error_name fault ++ file_error_detail fault
