-- What reporting a file from a reader writes and returns.
use Rattle.std.specs.Prelude.{◌≡◌, ◌⊎◌, ℕ, List, [], Option}
use Rattle.std.specs.Io.KnownBytes.{Appends}
use Rattle.puffin_data.specs.declared.file_error.FileError.{FileError}
use Rattle.puffin_data.specs.declared.file_error.FileError.TheVariants.{Io}
use Rattle.puffin_data.specs.Device.{WritesBeginning}
use Rattle.puffin_threads.specs.Thread.ThreadKey.{ThreadKey}
use Rattle.puffin_frames.specs.Packet.Stored.{Stored}
use Rattle.puffin_view.specs.View.File.{file_at, TookFrames}
use Rattle.puffin_report.specs.declared.summary.Summary.{Summary}
use Rattle.puffin_report.specs.Summary.{IsSummary, FailsToSumUp}
use Rattle.puffin_report.specs.ReportLines.{report_lines}

-- A reader went from unread to left: the file that was read has this summary under an info.
pub record HasSummary (info : ThreadKey) (unread left : Option (List ℕ)) (summary : Summary) :
    Type 0 where
  pub stored : List Stored
  pub took : TookFrames file_at unread left stored
  pub sums : IsSummary info stored summary

module _ (info : ThreadKey) (unread left before after : Option (List ℕ)) where
  -- the lines of the file's summary were written
  abbrev pub IsReported : Type 0
  IsReported =
      (summary : Summary)
      × HasSummary info unread left summary
      × Appends before after (report_lines summary)

  -- the file couldn't be summed up, or memory ran out, and nothing was written
  abbrev pub HasNoLines : FileError → Type 0
  HasNoLines fault = FailsToSumUp info unread left fault × Appends before after []

  -- the writer failed, and a prefix of the lines of the file's summary was written
  abbrev pub HasCutLines : FileError → Type 0
  HasCutLines fault =
      (fault ≡ Io)
      × (summary : Summary)
      × HasSummary info unread left summary
      × WritesBeginning before after (report_lines summary)

  -- why the report failed, and what it wrote
  abbrev pub IsUnreported : FileError → Type 0
  IsUnreported fault = HasNoLines fault ⊎ HasCutLines fault
