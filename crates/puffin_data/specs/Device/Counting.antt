-- The device, the failure count and the last error of a `Counted` and of a `Buffered`.
use Rattle.std.specs.Prelude.{ℕ, Option}
use Rattle.std.specs.declared.io.Error as io
use Rattle.puffin_data.specs.declared.data.device.Counted.{Counted}
use Rattle.puffin_data.specs.declared.data.buffered.Buffered.{Buffered}

-- the reader or writer itself
abbrev pub counted_device : {D : Type 0} → Counted D → D
counted_device counted = counted.device

-- the number of its failed calls
abbrev pub failed_calls : {D : Type 0} → Counted D → ℕ
failed_calls counted = counted.faults

-- the reader itself
abbrev pub buffered_reader : {B : Type 0} → Buffered B → B
buffered_reader buffered = buffered.reader

-- the number of its failed reads
abbrev pub failed_reads : {B : Type 0} → Buffered B → ℕ
failed_reads buffered = buffered.faults

-- the error of its last failed call
abbrev pub error_kept : {D : Type 0} → Counted D → Option io.Error
error_kept counted = counted.last

-- the error of its last failed read
abbrev pub reading_error_kept : {B : Type 0} → Buffered B → Option io.Error
reading_error_kept buffered = buffered.last
