-- The name of a thread that a caller gives.
use Rattle.std.proofs.Common.{◌≡◌, ◌⊎◌, ℕ, List, inl, inr}
use Rattle.std.specs.Prelude.{None}
use Rattle.std.specs.Str.{IsUtf8}
use Rattle.puffin_data.specs.declared.file_error.FileError.{FileError}
use Rattle.puffin_data.specs.declared.file_error.FileError.TheVariants as file
use Rattle.puffin_threads.specs.Thread.ThreadKey.{ThreadKey}
use Rattle.puffin_c.specs.declared.fault.Fault.{Fault}
use Rattle.puffin_c.specs.declared.fault.Fault.TheVariants as fault
use Rattle.puffin_c.specs.Faults.{file_fault}
use Rattle.puffin_c.specs.Recording.{IsNoText}
use Rattle.puffin_c.specs.Reporting.{LacksSummary}

-- a name that is refused is no text, or memory ran out
pub refused_name : (bytes : List ℕ) (info : ThreadKey) (f : Fault) → IsNoText info.name f →
    ((f ≡ fault.NotText) × ¬ (IsUtf8 info.name))
    ⊎ (IsUtf8 info.name × (e : FileError) × (f ≡ file_fault e) × LacksSummary bytes info e)
refused_name bytes info f (inl none) = inl none
refused_name bytes info f (inr (memory, text)) = inr (text, file.Memory, memory, (None, inl tt))
