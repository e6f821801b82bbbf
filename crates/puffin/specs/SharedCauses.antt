-- The errors that a shared profiler's calls may return. The profiler's state isn't mentioned, because a caller can't see it.
use Rattle.std.specs.Prelude.{◌≡◌, List, ◌⊎◌}
use Rattle.puffin_data.specs.declared.error.Error.{Error}
use Rattle.puffin_data.specs.declared.error.Error.TheVariants.{IndexExhausted, MissingId, SinkIdsExhausted, UnlikeForms, TooLarge, RangeTooLong, Memory}
use Rattle.puffin_threads.specs.Details.{Details, AllHaveIds}
pub use Rattle.puffin_threads.specs.Details.{IsAddingCause}

-- the errors of a report with no details
abbrev pub IsScopesCause : Error → Type 0
IsScopesCause error = (error ≡ UnlikeForms) ⊎ (error ≡ TooLarge) ⊎ (error ≡ RangeTooLong) ⊎ (error ≡ Memory)

-- the errors of a report with these details: `MissingId` exactly if some of them have no id
abbrev pub IsReportCause : List Details → Error → Type 0
IsReportCause details error =
    ((error ≡ MissingId) × ¬ AllHaveIds details) ⊎ (AllHaveIds details × IsScopesCause error)

-- the errors of taking a frame
abbrev pub IsFrameCause : Error → Type 0
IsFrameCause error = (error ≡ IndexExhausted) ⊎ (error ≡ Memory)

-- the errors of adding a sink
abbrev pub IsSinkCause : Error → Type 0
IsSinkCause error = (error ≡ SinkIdsExhausted) ⊎ (error ≡ Memory)

-- the errors of adding details or a frame: `MissingId` if some of the details have no id
abbrev pub IsDetailsCause : Error → Type 0
IsDetailsCause error = (error ≡ MissingId) ⊎ (error ≡ Memory)
