-- The line and the status of a fault of the program.
use Rattle.std.specs.Prelude.{ℕ, List, [], ◌++◌, Option, Some, None, codes}
use Rattle.std.specs.Fmt.{decimal}
use Rattle.puffin_data.specs.Cause.{error_name, file_error_text}
use Rattle.puffin_replay.specs.declared.replay.fault.ToolFault.{ToolFault}
use Rattle.puffin_replay.specs.declared.replay.fault.ToolFault.TheVariants as fault

-- the line for standard error
abbrev pub fault_line : ToolFault → List ℕ
fault_line fault.Words = codes "usage: puffin-tool count | replay SCRIPT OUT | report FILE START:NAME\n"
fault_line (fault.Line number) = codes "puffin-tool: script line " ++ decimal number ++ codes "\n"
fault_line (fault.Cause cause) = codes "puffin-tool: " ++ error_name cause ++ codes "\n"
fault_line (fault.File cause) = codes "puffin-tool: " ++ file_error_text cause ++ codes "\n"

-- the output for a fault, if there is one
abbrev pub fault_text : Option ToolFault → List ℕ
fault_text None = []
fault_text (Some fault) = fault_line fault

-- the program's status
abbrev pub status_of : Option ToolFault → ℕ
status_of None = 0
status_of (Some fault.Words) = 2
status_of (Some _) = 1
